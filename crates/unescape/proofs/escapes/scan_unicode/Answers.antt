use native.Mathlib.Omega.{arith}
use borrow.Author.Rules.{rules}
use mathlib.Core.Path.{refl}
use Rattle.unescape.proofs.Escaping.{unicode_none, unicode_open, unicode_bad}
use Rattle.unescape.proofs.escapes.scan_unicode.Goals as goal

pub returns-in_err-ok_or : goal.returns-in_err-ok_or
returns-in_err-ok_or c = unicode_none c.next.ensures c.in_err-ok_or.ensures.ok_part _ (search rules)

pub returns-in-123 : goal.returns-in-123
returns-in-123 c = unicode_open c.next.ensures c.in_ok-ok_or.ensures.ok_part _ c.in-123.is c.scan_braced.ensures

pub returns-in_default : goal.returns-in_default
returns-in_default c = unicode_bad c.next.ensures c.in_ok-ok_or.ensures.ok_part _ (λ e. omega arith) refl
