use Rattle.lexer.proofs.Digits.{numbering}
use borrow.Author.Rules.{rules}
use Rattle.lexer.proofs.numbers.fraction.Goals as goal

pub returns-then-x-eq46 : goal.returns-then-x-eq46
returns-then-x-eq46 c = search (rules, numbering)

pub returns-then-is_e : goal.returns-then-is_e
returns-then-is_e c = search (rules, numbering)

pub returns : goal.returns
returns c = search (rules, numbering)
