use mathlib.Core.Path.{◌≡◌}
use lib.ListN.{length}
use Prim.Native.Nat.{◌-◌}
use Rattle.modes.specs.Numbers.{mode_number}
use Rattle.unescape.proofs.Whole.{Walking}
use Rattle.unescape.proofs.list.walk_turns.Given as goal

abbrev pub invariant-loop-c : goal.invariant-loop-c
invariant-loop-c l = record {
  same : l.chars.text.now ≡ l.body;
  from : l.start ≡ l.chars.at;
  walking : Walking (mode_number l.mode) l.body l.initial.list l.start l.n l.list;
}

abbrev pub decreases-loop-c : goal.decreases-loop-c
decreases-loop-c l = length l.body - l.chars.at
