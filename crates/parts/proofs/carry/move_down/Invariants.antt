use Rattle.parts.proofs.Moving.{Moving}
use Rattle.parts.proofs.carry.move_down.Given as goal

abbrev pub invariant-loop-i : goal.invariant-loop-i
invariant-loop-i l = Moving l.initial.carry l.from l.n l.carry l.i
