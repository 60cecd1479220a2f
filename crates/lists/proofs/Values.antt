-- The law of a table of values: at place i stands what the function gives at the i-th number.
-- Assumes nothing.
use Prim.Native.Nat.{ℕ, zero, suc, ◌+◌, ◌<◌}
use native.Mathlib.Omega.{arith}
use mathlib.Core.Path.{◌≡◌}
use lib.ListN.{get_or}
use Rattle.lists.specs.Steps.{values_from}

pub values_at : (f : ℕ → ℕ) (n k i : ℕ) → i < n → get_or (values_from f k n) i 0 ≡ f (k + i)
unfolding values_from
values_at f zero k i h = absurd (omega arith)
values_at f (suc n) k zero h = let e : k + 0 ≡ k = omega arith in rw e
values_at f (suc n) k (suc i) h = let e : k + suc i ≡ suc k + i = omega arith in rw e (values_at f n (suc k) i (omega arith))
