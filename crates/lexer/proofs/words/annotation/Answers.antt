use Rattle.lexer.proofs.Names.{naming}
use borrow.Author.Rules.{rules}
use Rattle.lexer.proofs.words.annotation.Goals as goal

pub returns-then-is_id_start : goal.returns-then-is_id_start
returns-then-is_id_start c = search (rules, naming)

pub returns : goal.returns
returns c = search (rules, naming)
