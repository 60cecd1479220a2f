use mathlib.Core.Path.{refl}
use native.Mathlib.Omega.{arith}
use Rattle.characters.proofs.Walks.{plain_none, plain_block}
use borrow.Author.Rules.{rules}
use Rattle.characters.proofs.utf8.skip_blocks.Goals as goal

pub loop-at-init : goal.loop-at-init
loop-at-init c = plain_none (search rules)

pub loop-at-preserved : goal.loop-at-preserved
loop-at-preserved c =
    let l = c in
    plain_block l.loop-at.invariant c.top.ensures (omega arith) (search rules) refl
