use native.Mathlib.Omega.{arith}
use borrow.Author.Rules.{rules}
use Rattle.lexer.proofs.Blocks.{comment_kind, slash_line, slash_block, slash_alone}
use Rattle.lexer.proofs.comments.slash.Goals as goal

pub returns-in-47 : goal.returns-in-47
returns-in-47 c = search (rules, slash_line)

pub returns-in-42 : goal.returns-in-42
returns-in-42 c = slash_block c.first.ensures (λ e. omega arith) c.in-42.is c.bump-in-42.ensures c.block_comment-b.ensures (comment_kind _)

pub returns-in_default : goal.returns-in_default
returns-in_default c = search (rules, slash_alone)
