use Rattle.lexer.proofs.Advancing.{advancing}
use borrow.Author.Rules.{rules}
use Rattle.lexer.proofs.advance.named.Goals as goal

pub returns-then-is_id_start : goal.returns-then-is_id_start
returns-then-is_id_start c = search (rules, advancing)

pub returns-then-is_wide_emoji : goal.returns-then-is_wide_emoji
returns-then-is_wide_emoji c = search (rules, advancing)

pub returns : goal.returns
returns c = search (rules, advancing)
