use Rattle.lexer.proofs.Digits.{numbering, point_digits, point_exponent}
use Rattle.lexer.proofs.Underscores.{or_placed}
use mathlib.Core.Path.{refl}
use borrow.Author.Rules.{rules}
use Rattle.lexer.proofs.numbers.point.Goals as goal

pub returns-then-not-is_digit : goal.returns-then-not-is_digit
returns-then-not-is_digit c = search (rules, numbering)

pub returns-then-is_e : goal.returns-then-is_e
returns-then-is_e c = point_exponent _ _ _ c.first.ensures c.is_digit.ensures (search rules) c.eat_digits-d.ensures (or_placed c.args.found c.eat_digits-d.result.misplaced _ c.or-misplaced.ensures) c.first-2.ensures c.is_e.ensures (search rules) c.bump.ensures c.exponent_of.ensures

pub returns : goal.returns
returns c = point_digits _ _ _ c.first.ensures c.is_digit.ensures (search rules) c.eat_digits-d.ensures (or_placed c.args.found c.eat_digits-d.result.misplaced _ c.or-misplaced.ensures) c.first-2.ensures c.is_e.ensures (search rules) refl
