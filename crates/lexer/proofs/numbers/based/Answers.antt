use Rattle.lexer.proofs.Digits.{numbering}
use borrow.Author.Rules.{rules}
use Rattle.lexer.proofs.numbers.based.Goals as goal

pub returns-then-d : goal.returns-then-d
returns-then-d c = search (rules, numbering)

pub returns : goal.returns
returns c = search (rules, numbering)
