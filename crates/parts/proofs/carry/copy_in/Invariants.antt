use Prim.Native.Nat.{◌+◌}
use Rattle.parts.proofs.Moving.{Copying}
use Rattle.parts.proofs.carry.copy_in.Given as goal

abbrev pub invariant-loop-i : goal.invariant-loop-i
invariant-loop-i l = Copying l.initial.carry l.k l.bytes 0 l.n l.carry l.i (l.k + l.i)
