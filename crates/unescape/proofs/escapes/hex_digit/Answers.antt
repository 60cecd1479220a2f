use borrow.Author.Rules.{rules}
use Rattle.unescape.proofs.Escaping.{hex_none, hex_read}
use Rattle.unescape.proofs.escapes.hex_digit.Goals as goal

pub returns-in_err-c : goal.returns-in_err-c
returns-in_err-c c = (hex_none c.next.ensures c.in_err-c.ensures.ok_part (search rules), search rules)

pub returns : goal.returns
returns c = hex_read c.next.ensures c.in_ok-c.ensures.ok_part c.to_digit.result c.to_digit.ensures c.ok_or-2.ensures.value
