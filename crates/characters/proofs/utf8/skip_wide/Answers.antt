use mathlib.Core.Path.{refl}
use native.Mathlib.Omega.{arith}
use Rattle.characters.proofs.Blocks.{walk_wide}
use Rattle.characters.proofs.utf8.skip_wide.Goals as goal

pub returns : goal.returns
returns c =
    let w = c.whole_of.ensures in
    (walk_wide c.in_ok-at.ensures.1 c.in_ok-at.ensures.0 c.if-text-from-lt-BLOCK.false c.is_free.ensures c.if-not-is_free.false c.stands-most.ensures c.if-most-gt244.false c.has_barred.ensures c.if-has_barred.false w.0 refl, omega (arith, w.1))
