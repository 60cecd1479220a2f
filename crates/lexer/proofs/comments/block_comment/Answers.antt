use Rattle.lexer.proofs.Blocks.{blocking}
use borrow.Author.Rules.{rules}
use Rattle.lexer.proofs.comments.block_comment.Goals as goal

pub loop-at-init : goal.loop-at-init
loop-at-init c = search (rules, blocking)

pub loop-at-preserved-then-is_open : goal.loop-at-preserved-then-is_open
loop-at-preserved-then-is_open c = search (rules, blocking)

pub loop-at-preserved-else-depth-eq0 : goal.loop-at-preserved-else-depth-eq0
loop-at-preserved-else-depth-eq0 c = search (rules, blocking)

pub loop-at-preserved : goal.loop-at-preserved
loop-at-preserved c = search (rules, blocking)

pub returns-then-text-at : goal.returns-then-text-at
returns-then-text-at c = search (rules, blocking)

pub returns-then-depth-eq0 : goal.returns-then-depth-eq0
returns-then-depth-eq0 c = search (rules, blocking)
