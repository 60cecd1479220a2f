use Prim.Native.Nat.{◌-◌, ◌≤◌}
use mathlib.Core.Path.{◌≡◌}
use lib.ListN.{length}
use Rattle.lexer.specs.Promises.{tokens_by}
use Rattle.lexer.specs.Unicode.{letters_in}
use Rattle.rows.specs.Steps.{place_after, row_after}
use Rattle.rows.proofs.fill.Given as goal

-- the first i tokens are stored
abbrev pub invariant-loop-at : goal.invariant-loop-at
invariant-loop-at l = let u = letters_in l.letters in record {
  few : l.n ≤ length (tokens_by u l.profile l.text);
  place : l.at ≡ place_after u l.profile l.text l.n;
  stored : l.row ≡ row_after u l.profile l.text l.initial.row l.n;
}

abbrev pub decreases-loop-at : goal.decreases-loop-at
decreases-loop-at l = length (tokens_by (letters_in l.letters) l.profile l.text) - l.n
