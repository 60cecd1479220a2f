use Prim.Native.Nat.{◌-◌}
use Rattle.characters.specs.Steps.{stops, Passed}
use Rattle.characters.proofs.utf8.skip_chars.Given as goal

abbrev pub invariant-loop-at : goal.invariant-loop-at
invariant-loop-at l = Passed (stops l.barred) l.text l.from l.at

abbrev pub decreases-loop-at : goal.decreases-loop-at
decreases-loop-at l = l.stop - l.at
