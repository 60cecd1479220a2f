use Rattle.renewal.proofs.Entering.{Entering}
use Rattle.renewal.proofs.records.put_members.Given as goal

abbrev pub invariant-loop-i : goal.invariant-loop-i
invariant-loop-i l = Entering l.write l.initial.key l.k l.text l.from l.list l.count l.at l.i l.n l.key
