use Rattle.parts.proofs.Moving.{moving_none, moving_more, moving_end}
use borrow.Author.Rules.{rules}
use Rattle.parts.proofs.carry.move_down.Goals as goal

pub loop-i-init : goal.loop-i-init
loop-i-init c = search (rules, moving_none)

pub loop-i-preserved : goal.loop-i-preserved
loop-i-preserved c = search (rules, moving_more)

pub returns : goal.returns
returns c = search (rules, moving_end)
