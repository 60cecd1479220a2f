use native.Mathlib.Omega.{arith}
use borrow.Author.Rules.{rules}
use Rattle.unescape.proofs.Escaping.{escape_none, escape_hex, escape_unicode, escape_simple}
use Rattle.unescape.proofs.escapes.scan_escape.Goals as goal

pub returns-in_err-c : goal.returns-in_err-c
returns-in_err-c c = escape_none c.next.ensures c.in_err-c.ensures.ok_part _ (search rules)

pub returns-in-120 : goal.returns-in-120
returns-in-120 c = escape_hex c.next.ensures c.in_ok-c.ensures.ok_part _ c.in-120.is c.scan_hex.ensures

pub returns-in-117 : goal.returns-in-117
returns-in-117 c = escape_unicode c.next.ensures c.in_ok-c.ensures.ok_part _ c.in-117.is c.scan_unicode.ensures

pub returns-in_default : goal.returns-in_default
returns-in_default c = escape_simple c.next.ensures c.in_ok-c.ensures.ok_part _ (λ e. omega arith) (λ e. omega arith) c.simple.ensures
