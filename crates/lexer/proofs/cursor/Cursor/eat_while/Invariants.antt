use Rattle.std.proofs.Common.{◌≡◌, ℕ, Bool, ◌-◌, ◌<◌}
use lib.ListN.{length}
use Rattle.characters.specs.Steps.{Eating}
use Rattle.characters.specs.Text.{keep}
use Rattle.lexer.proofs.cursor.Cursor.eat_while.Given as goal

abbrev pub invariant-loop-at : goal.invariant-loop-at
invariant-loop-at g l = (p : ℕ → Bool) → ((c : ℕ) (r : Bool) → c < 4294967296 → goal.P-post g l.test c r → r ≡ p c) → Eating p keep l.text l.initial.at tt l.at tt

abbrev pub decreases-loop-at : goal.decreases-loop-at
decreases-loop-at g l = length l.text - l.at
