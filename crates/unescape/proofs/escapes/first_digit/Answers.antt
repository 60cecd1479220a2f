use native.Mathlib.Omega.{arith}
use borrow.Author.Rules.{rules}
use mathlib.Core.Path.{refl}
use Rattle.unescape.proofs.Escaping.{first_none, first_underscore, first_brace, first_read}
use Rattle.unescape.proofs.escapes.first_digit.Goals as goal

pub returns-in_err-c : goal.returns-in_err-c
returns-in_err-c c = (first_none c.next.ensures c.in_err-c.ensures.ok_part (search rules), search rules)

pub returns-in-95 : goal.returns-in-95
returns-in-95 c = (first_underscore c.next.ensures c.in_ok-c.ensures.ok_part c.in-95.is refl, search rules)

pub returns-in-125 : goal.returns-in-125
returns-in-125 c = (first_brace c.next.ensures c.in_ok-c.ensures.ok_part c.in-125.is refl, search rules)

pub returns-in_default : goal.returns-in_default
returns-in_default c = first_read c.next.ensures c.in_ok-c.ensures.ok_part (λ e. omega arith) (λ e. omega arith) c.to_digit.result c.to_digit.ensures c.ok_or-in_default.ensures.value
