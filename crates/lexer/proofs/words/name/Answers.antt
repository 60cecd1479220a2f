use Rattle.lexer.proofs.Names.{naming}
use borrow.Author.Rules.{rules}
use Rattle.lexer.proofs.words.name.Goals as goal

pub returns-then-byte-lt128 : goal.returns-then-byte-lt128
returns-then-byte-lt128 c = search (rules, naming)

pub returns : goal.returns
returns c = search (rules, naming)
