use native.Mathlib.Omega.{arith}
use Rattle.unescape.proofs.Turns.{slash_none, slash_skip, slash_hex, slash_unicode, slash_simple}
use Rattle.unescape.proofs.bodies.slash.Goals as goal

pub returns-in-None : goal.returns-in-None
returns-in-None c = slash_none _ c.next.ensures c.in-None.is c.item.ensures

pub returns-in-Some-eq10 : goal.returns-in-Some-eq10
returns-in-Some-eq10 c = slash_skip _ c.next.ensures c.in-Some-eq10.is c.in-Some-eq10.field-0-test c.skip_ascii_whitespace.ensures

pub returns-in-Some-eq120 : goal.returns-in-Some-eq120
returns-in-Some-eq120 c = slash_hex _ c.next.ensures c.in-Some-eq120.is c.in-Some-eq120.field-0-test c.scan_hex.ensures c.item-in-Some-eq120.ensures

pub returns-in-Some-eq117 : goal.returns-in-Some-eq117
returns-in-Some-eq117 c = slash_unicode _ c.next.ensures c.in-Some-eq117.is c.in-Some-eq117.field-0-test c.scan_unicode.ensures c.item-in-Some-eq117.ensures

pub returns-in-Some : goal.returns-in-Some
returns-in-Some c = slash_simple _ c.next.ensures c.in-Some.is (λ e. omega arith) (λ e. omega arith) (λ e. omega arith) c.simple.ensures c.item-in-Some.ensures
