use native.Mathlib.Omega.{arith}
use Rattle.lexer.proofs.Digits.{number_binary, number_octal, number_hex, number_zero, number_other}
use Rattle.lexer.proofs.numbers.number.Goals.{then-first_digit-eq48+in_default, else-first_digit-eq48}
use Rattle.lexer.proofs.numbers.number.Goals as goal

pub returns-in-98 : goal.returns-in-98
returns-in-98 c = number_binary _ _ _ c.if-first_digit-eq48.true c.first.ensures c.in-98.is c.bump.ensures c.eat_digits.ensures c.based.ensures

pub returns-in-111 : goal.returns-in-111
returns-in-111 c =
    number_octal _ _ _ c.if-first_digit-eq48.true c.first.ensures (λ e. omega arith) c.in-111.is c.bump-in-111.ensures c.eat_digits-in-111.ensures c.based-in-111.ensures

pub returns-in-120 : goal.returns-in-120
returns-in-120 c =
    number_hex _ _ _ c.if-first_digit-eq48.true c.first.ensures (λ e. omega arith) (λ e. omega arith) c.in-120.is c.bump-in-120.ensures c.eat_digits-in-120.ensures c.based-in-120.ensures

pub returns : goal.returns
returns c =
    elim c.if-first_digit-eq48.branch [
      | then-first_digit-eq48+in_default w ↦
          number_zero _ _ _ w.if-first_digit-eq48.true w.first.ensures (λ e. omega arith) (λ e. omega arith) (λ e. omega arith) c.eat_digits-d.ensures c.fraction.ensures
      | else-first_digit-eq48 w ↦ number_other _ _ _ w.if-first_digit-eq48.false c.eat_digits-d.ensures c.fraction.ensures
    ]
