use Rattle.lexer.proofs.Digits.{numbering}
use borrow.Author.Rules.{rules}
use Rattle.lexer.proofs.numbers.exponent_of.Goals as goal

pub returns : goal.returns
returns c = search (rules, numbering)
