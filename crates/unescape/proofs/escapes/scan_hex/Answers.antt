use borrow.Author.Rules.{rules}
use mathlib.Core.Path.{refl}
use Rattle.unescape.proofs.Escaping.{hex_error, hex_short, hex_pair}
use Rattle.unescape.proofs.escapes.scan_hex.Goals as goal

pub returns-in_err-hi : goal.returns-in_err-hi
returns-in_err-hi c = hex_error c.hex_digit.ensures.0 c.in_err-hi.was (search rules)

pub returns-in_err-lo : goal.returns-in_err-lo
returns-in_err-lo c = hex_short c.hex_digit.ensures.0 c.in_ok-hi.was c.hex_digit-2.ensures.0 c.in_err-lo.was (search rules)

pub returns : goal.returns
returns c = hex_pair c.hex_digit.ensures.0 c.in_ok-hi.was c.hex_digit-2.ensures.0 c.in_ok-lo.was refl
