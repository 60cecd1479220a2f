use Rattle.unescape.specs.Bodies.{is_skipped, saw_lf}
use Rattle.characters.proofs.Ascii.{Going}
use mathlib.Core.Bool.{false}
use mathlib.Core.Path.{◌≡◌}
use Prim.Native.Nat.{◌+◌}
use Rattle.unescape.proofs.bodies.eat_skipped.Given as goal

abbrev pub invariant-loop-i : goal.invariant-loop-i
invariant-loop-i l = record {
  same : l.chars.text.now ≡ l.initial.chars.text.now;
  from : l.chars.at ≡ l.initial.chars.at;
  going : Going is_skipped saw_lf l.initial.chars.text.now l.initial.chars.at false (l.initial.chars.at + l.i) l.lines;
}
