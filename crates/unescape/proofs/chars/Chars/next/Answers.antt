use Rattle.characters.proofs.Text.{decoded_fits}
use native.Mathlib.Omega.{arith}
use Rattle.unescape.proofs.Scans.{next_end, next_char}
use Rattle.unescape.proofs.chars.Chars.next.Goals as goal

pub returns-then-self : goal.returns-then-self
returns-then-self c = next_end (omega arith) c.if-self.true

pub overflow_add-self : goal.overflow_add-self
overflow_add-self c = omega (arith, decoded_fits)

pub invariant_of-self : goal.invariant_of-self
invariant_of-self c = record { within = omega (arith, decoded_fits) }

pub returns : goal.returns
returns c = next_char c.decode-d.ensures (omega arith)
