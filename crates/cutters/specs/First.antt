-- THE FIRST MISPLACED UNDERSCORE of some bytes, by what stands at each place: what `misplaced_in` is to find.
-- Assumes nothing.
use Rattle.std.specs.Prelude.{ℕ, zero, suc, ◌+◌, ◌≤◌, ◌<◌, ◌≡◌, Bool, true, false, not, ◌&&◌, List, eqb, get_or}
use Rattle.cutters.specs.Digits.{digit_by}
use Rattle.cutters.specs.Underscores.{misplaced}

-- which digits are read k bytes behind a place: no longer hexadecimal ones behind a point
abbrev pub hex_after : Bool → List ℕ → ℕ → ℕ → Bool
hex_after hex s at zero = hex
hex_after hex s at (suc k) = hex_after (hex && not (eqb (get_or s at 0) 0x2E)) s (suc at) k

-- whether an underscore is misplaced k bytes behind a place
abbrev pub misplaced_after : Bool → List ℕ → ℕ → ℕ → Bool
misplaced_after hex s at k = misplaced (digit_by (hex_after hex s at k)) s (at + k)

-- of n bytes from a place on r is the place of the first misplaced underscore, which is not 0; or r is 0, and there is none
pub data First (hex : Bool) (s : List ℕ) (at n r : ℕ) : Type 0 where
  none : r ≡ 0 → ((k : ℕ) → k < n → misplaced_after hex s at k ≡ false) → First hex s at n r
  here : (k : ℕ) → k < n → r ≡ at + k → 1 ≤ r → misplaced_after hex s at k ≡ true → ((j : ℕ) → j < k → misplaced_after hex s at j ≡ false) → First hex s at n r
