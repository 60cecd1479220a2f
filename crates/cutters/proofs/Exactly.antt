-- WHICH UNDERSCORE IS FOUND: the first misplaced one, and 0 exactly where none is, of bytes that do not begin with one.
-- Assumes nothing.
use Prim.Native.Nat.{ℕ, zero, suc, ◌+◌, ◌≤◌, ◌<◌}
use native.Mathlib.Omega.{arith}
use mathlib.Core.Path.{◌≡◌, refl, ap, ◌∙◌}
use mathlib.Core.Bool.{Bool, true, false, not, ◌&&◌}
use mathlib.Core.Logic.{◌⊎◌, inl, inr}
use mathlib.Core.List.{List, [], ◌∷◌}
use lib.ListN.{length, take, get_or, length-take}
use lib.Dec.{eqb}
use borrow.Author.Tests.{ne_eqb}
use Rattle.lists.proofs.Bools.{by_test, on_cond}
use Rattle.cutters.specs.Kinds.{is_number, is_wire}
use Rattle.cutters.specs.Digits.{digit_by}
use Rattle.cutters.specs.Underscores.{misplaced, misplaced_in, read_bytes, hex_first, misplaced_of}
use Rattle.cutters.specs.First.{hex_after, misplaced_after, First, none, here}
use Rattle.cutters.proofs.Underscores.{in_low, read_most, found_no}

-- the byte at the place, and those behind it
module _ (hex : Bool) (s : List ℕ) (at : ℕ) where
  abbrev hex' : Bool
  hex' = hex && not (eqb (get_or s at 0) 0x2E)

  after_none : misplaced_after hex s at 0 ≡ misplaced (digit_by hex) s at
  after_none = let e : at + 0 ≡ at = omega arith in ap (misplaced (digit_by hex) s) e

  after_one : (k : ℕ) → misplaced_after hex s at (suc k) ≡ misplaced_after hex' s (suc at) k
  after_one k = let e : at + suc k ≡ suc at + k = omega arith in ap (misplaced (digit_by (hex_after hex' s (suc at) k)) s) e

  -- none among the first of them
  module _ (e : misplaced (digit_by hex) s at ≡ false) where
    none_on : {n : ℕ} → ((k : ℕ) → k < n → misplaced_after hex' s (suc at) k ≡ false) → (k : ℕ) → k < suc n → misplaced_after hex s at k ≡ false
    none_on f zero h = after_none ∙ e
    none_on f (suc k) h = after_one k ∙ f k (omega (arith, h))

    further : {n r : ℕ} → First hex' s (suc at) n r → First hex s at (suc n) r
    further (none z f) = none z (none_on f)
    further (here k h q l t f) = here (suc k) (omega (arith, h)) (omega (arith, q)) l (after_one k ∙ t) (none_on f)

-- ---- THE FIRST ONE, of any bytes behind the first
pub first_is : (hex : Bool) (s : List ℕ) (n at : ℕ) → 1 ≤ at → First hex s at n (misplaced_in hex s at n)
unfolding misplaced_in
first_is hex s zero at l = none refl (λ k h. absurd (omega (arith, h)))
first_is hex s (suc n) at l =
    by_test (misplaced (digit_by hex) s at)
    (λ t. rw t (here 0 (omega arith) (omega arith) l (after_none hex s at ∙ t) (λ j h. absurd (omega (arith, h)))))
    (λ t. rw t (further hex s at t (first_is (hex && not (eqb (get_or s at 0) 0x2E)) s n (suc at) (omega arith))))

-- and from the first one on, which is no underscore
from_front : (hex : Bool) (s : List ℕ) (n : ℕ) → (get_or s 0 0 ≡ 0x5F → ⊥) → First hex s 0 n (misplaced_in hex s 0 n)
unfolding misplaced_in
from_front hex s zero h = none refl (λ k l. absurd (omega (arith, l)))
from_front hex s (suc n) h =
    let e : misplaced (digit_by hex) s 0 ≡ false = rw (ne_eqb (get_or s 0 0) 0x5F h) in
    rw e (further hex s 0 e (first_is (hex && not (eqb (get_or s 0 0) 0x2E)) s n 1 (omega arith)))

-- ---- and of a token: of the bytes that its readers go through, which begin with no underscore
module _ (kind suffix : ℕ) (b : List ℕ) where
  abbrev read : List ℕ
  read = read_bytes kind suffix b

  pub token_first : (get_or read 0 0 ≡ 0x5F → ⊥) → First (hex_first read) read 0 (length read) (misplaced_of kind suffix b)
  unfolding misplaced_of
  token_first h = from_front (hex_first read) read (length read) h

  -- ---- WHERE IT CAN STAND: before the suffix of a number, in a hardware identifier or a Dollar, and nowhere else
  word_low : (misplaced_of kind suffix b ≡ 0) ⊎ (misplaced_of kind suffix b < length read)
  unfolding misplaced_of
  word_low = elim (in_low (hex_first read) read 0 (length read)) [ inl z ↦ inl z | inr l ↦ inr (omega (arith, l.1)) ]

  pub word_within :
      (is_number kind ≡ true → (misplaced_of kind suffix b ≡ 0) ⊎ (misplaced_of kind suffix b < suffix))
      × (is_wire kind ≡ true → (misplaced_of kind suffix b ≡ 0) ⊎ (misplaced_of kind suffix b < length b))
      × (is_number kind ≡ false → is_wire kind ≡ false → misplaced_of kind suffix b ≡ 0)
  word_within = (
    λ n. elim word_low [ inl z ↦ inl z | inr l ↦ inr (omega (arith, l, length-take suffix b, number n)) ],
    λ w. elim word_low [ inl z ↦ inl z | inr l ↦ inr (omega (arith, l, least)) ],
    found_no kind suffix b,
  )
    where
      number : is_number kind ≡ true → length read ≡ length (take suffix b)
      number n = rw n

      least : length read ≤ length b
      least = read_most kind suffix b

-- the bytes that are read begin as the token does, or there are none
take_front : (m : ℕ) (l : List ℕ) → get_or (take m l) 0 0 ≡ 0x5F → get_or l 0 0 ≡ 0x5F
take_front zero l e = absurd (omega (arith, e))
take_front (suc m) [] e = e
take_front (suc m) (c ∷ l) e = e

pub read_front : (kind suffix n : ℕ) (l : List ℕ) → get_or (read_bytes kind suffix (take n l)) 0 0 ≡ 0x5F → get_or l 0 0 ≡ 0x5F
read_front kind suffix n l =
    let P : List ℕ → Type 0 = λ r. get_or r 0 0 ≡ 0x5F → get_or l 0 0 ≡ 0x5F in
    on_cond P (is_number kind) (λ e. take_front n l (take_front suffix (take n l) e)) (on_cond P (is_wire kind) (take_front n l) (λ e. absurd (omega (arith, e))))

pub read_none : (kind suffix : ℕ) (b : List ℕ) → is_number kind ≡ false → is_wire kind ≡ false → get_or (read_bytes kind suffix b) 0 0 ≡ 0
read_none kind suffix b n w = rw (n, w)
