use native.Mathlib.Omega.{arith}
use borrow.Author.Rules.{rules}
use mathlib.Core.Path.{refl}
use Rattle.unescape.proofs.Escaping.{closing_none, closing_fine, closing_bad}
use Rattle.unescape.proofs.escapes.closing_brace.Goals as goal

pub returns-in_err-ok_or : goal.returns-in_err-ok_or
returns-in_err-ok_or c = closing_none c.next.ensures c.in_err-ok_or.ensures.ok_part _ _ (search rules)

pub returns-in-125 : goal.returns-in-125
returns-in-125 c = closing_fine c.next.ensures c.in_ok-ok_or.ensures.ok_part _ _ _ c.in-125.is c.code_point.ensures

pub returns-in_default : goal.returns-in_default
returns-in_default c = closing_bad c.next.ensures c.in_ok-ok_or.ensures.ok_part _ _ (λ e. omega arith) refl
