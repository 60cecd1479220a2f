use Prim.Native.Nat.{◌-◌}
use lib.ListN.{length}
use Rattle.characters.specs.Steps.{Plain}
use Rattle.characters.proofs.utf8.skip_blocks.Given as goal

abbrev pub invariant-loop-at : goal.invariant-loop-at
invariant-loop-at l = Plain l.text l.from l.at

abbrev pub decreases-loop-at : goal.decreases-loop-at
decreases-loop-at l = length l.text - l.at
