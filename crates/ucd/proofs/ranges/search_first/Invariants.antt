use Rattle.ucd.proofs.Search.{Searching}
use Rattle.ucd.proofs.ranges.search_first.Given as goal

abbrev pub invariant-loop-p : goal.invariant-loop-p
invariant-loop-p l = Searching l.table l.c 0 l.initial.p.size l.p.base l.p.size

abbrev pub decreases-loop-p : goal.decreases-loop-p
decreases-loop-p l = l.p.size
