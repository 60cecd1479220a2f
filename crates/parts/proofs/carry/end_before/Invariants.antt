use Rattle.parts.proofs.Keeping.{Ending}
use Rattle.parts.proofs.carry.end_before.Given as goal

abbrev pub invariant-loop-i : goal.invariant-loop-i
invariant-loop-i l = Ending l.list l.place l.from l.count l.end l.i
