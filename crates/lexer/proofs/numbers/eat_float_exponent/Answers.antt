use Rattle.lexer.proofs.Digits.{numbering}
use borrow.Author.Rules.{rules}
use Rattle.lexer.proofs.numbers.eat_float_exponent.Goals as goal

pub returns-then-is_sign : goal.returns-then-is_sign
returns-then-is_sign c = search (rules, numbering)

pub returns : goal.returns
returns c = search (rules, numbering)
