use borrow.Author.Rules.{rules}
use Rattle.unescape.proofs.Escaping.{braced_error, braced_value}
use Rattle.unescape.proofs.escapes.scan_braced.Goals as goal

pub returns-in_err-first : goal.returns-in_err-first
returns-in_err-first c = braced_error _ c.first_digit.ensures.0 c.in_err-first.was (search rules)

pub returns : goal.returns
returns c = braced_value _ c.first_digit.ensures.0 c.in_ok-first.was c.more_digits-digits.ensures c.closing_brace.ensures
