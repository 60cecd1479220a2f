use Rattle.lexer.proofs.Names.{naming}
use borrow.Author.Rules.{rules}
use Rattle.lexer.proofs.words.wide_name.Goals as goal

pub returns-then-is_wide_emoji : goal.returns-then-is_wide_emoji
returns-then-is_wide_emoji c = search (rules, naming)

pub returns : goal.returns
returns c = search (rules, naming)
