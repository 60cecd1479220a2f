use Rattle.unescape.proofs.Digits.{Small}
use Rattle.unescape.specs.Escapes.{or_underscore, add_digit}
use Rattle.characters.proofs.Ascii.{Going}
use mathlib.Core.Path.{◌≡◌}
use Prim.Native.Nat.{◌+◌, ◌≤◌}
use Rattle.unescape.proofs.escapes.more_digits.Given as goal

abbrev pub invariant-loop-i : goal.invariant-loop-i
invariant-loop-i l = record {
  same : l.chars.text.now ≡ l.initial.chars.text.now;
  from : l.chars.at ≡ l.initial.chars.at;
  going : Going or_underscore add_digit l.initial.chars.text.now l.initial.chars.at (1, l.first) (l.initial.chars.at + l.i) (l.digits.count, l.digits.value);
  small : Small l.digits.count l.digits.value;
  few : l.digits.count ≤ l.i + 1;
}
