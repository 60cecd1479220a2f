-- Misplaced underscores: where one is looked for behind another, and in a token's own bytes instead of the text.
-- Assumes nothing.
use Prim.Native.Nat.{ℕ, zero, suc, ◌+◌, ◌-◌, ◌≤◌, ◌<◌}
use native.Mathlib.Decide.{dec_lt}
use native.Mathlib.Omega.{arith}
use mathlib.Core.Path.{◌≡◌, refl, ap, sym, ◌∙◌}
use mathlib.Core.Bool.{Bool, true, false, not, ◌&&◌}
use mathlib.Core.Logic.{◌⊎◌, inl, inr}
use mathlib.Core.List.{List}
use lib.ListN.{length, take, drop, get_or, length-take, length-drop, get_or-eq_default}
use lib.Seq.{get_or-take, get_or-drop}
use lib.Dec.{eqb}
use borrow.Author.Tests.{ne_eqb}
use Rattle.lists.proofs.Bools.{by_test, on_cond}
use Rattle.cutters.specs.Kinds.{is_number, is_wire}
use Rattle.cutters.specs.Digits.{is_digit, is_hex_digit, digit_by}
use Rattle.cutters.specs.Underscores.{before, misplaced, misplaced_in, read_bytes, hex_first, misplaced_of}
use Rattle.cutters.specs.Steps.{first_of}
use Rattle.cutters.specs.Records.{Token, bytes_of, misplaced_at}

-- ---- one byte
module _ (hex : Bool) (s : List ℕ) (at n : ℕ) where
  pub in_here : misplaced (digit_by hex) s at ≡ true → misplaced_in hex s at (suc n) ≡ at
  unfolding misplaced_in
  in_here e = rw e

  pub in_on : misplaced (digit_by hex) s at ≡ false → misplaced_in hex s at (suc n) ≡ misplaced_in (hex && not (eqb (get_or s at 0) 0x2E)) s (suc at) n
  unfolding misplaced_in
  in_on e = rw e

  -- with the same digits
  pub in_next : (hex && not (eqb (get_or s at 0) 0x2E)) ≡ hex → misplaced (digit_by hex) s at ≡ false → misplaced_in hex s at (suc n) ≡ misplaced_in hex s (suc at) n
  in_next g e = in_on e ∙ ap (λ (h : Bool). misplaced_in h s (suc at) n) g

  -- what is no underscore
  pub in_other : (get_or s at 0 ≡ 0x5F → ⊥) → misplaced_in hex s at (suc n) ≡ misplaced_in (hex && not (eqb (get_or s at 0) 0x2E)) s (suc at) n
  in_other h = in_on (rw (ne_eqb (get_or s at 0) 0x5F h))

-- it stands among the bytes that are looked at
pub in_low : (hex : Bool) (s : List ℕ) (at n : ℕ) → (misplaced_in hex s at n ≡ 0) ⊎ ((at ≤ misplaced_in hex s at n) × (misplaced_in hex s at n < at + n))
unfolding misplaced_in
in_low hex s at zero = inl refl
in_low hex s at (suc n) =
    by_test (misplaced (digit_by hex) s at)
    (λ t. rw t (inr (omega arith, omega arith)))
    (λ t.
    rw t
    (elim (in_low (hex && not (eqb (get_or s at 0) 0x2E)) s (suc at) n) [
      | inl z ↦ inl z
      | inr l ↦ inr (omega (arith, l.0), omega (arith, l.1))
    ]))

-- behind a point the digits are decimal
pub in_point : (s : List ℕ) (at n : ℕ) → get_or s at 0 ≡ 0x2E → misplaced_in true s at n ≡ misplaced_in false s at n
unfolding misplaced_in
in_point s at zero h = refl
in_point s at (suc n) h = rw h

-- of a token
pub read_most : (kind suffix : ℕ) (b : List ℕ) → length (read_bytes kind suffix b) ≤ length b
read_most kind suffix b =
    on_cond (λ (l : List ℕ). length l ≤ length b) (is_number kind) (omega (arith, length-take suffix b)) (on_cond (λ (l : List ℕ). length l ≤ length b) (is_wire kind) (omega arith) (omega arith))

pub found_most : (kind suffix : ℕ) (b : List ℕ) → misplaced_of kind suffix b ≤ length b
unfolding misplaced_of
found_most kind suffix b =
    let r = read_bytes kind suffix b in
    elim (in_low (hex_first r) r 0 (length r)) [ inl z ↦ omega (arith, z) | inr l ↦ omega (arith, l.1, read_most kind suffix b) ]

-- of a token in a text
pub word_most : (s : List ℕ) (at : ℕ) (t : Token) → misplaced_at s at t ≤ length s
word_most s at t = omega (arith, found_most t.kind t.suffix (bytes_of s at t), length-take t.len (drop at s), length-drop at s)

-- a token with no run has none
pub found_no : (kind suffix : ℕ) (b : List ℕ) → is_number kind ≡ false → is_wire kind ≡ false → misplaced_of kind suffix b ≡ 0
unfolding misplaced_of misplaced_in
found_no kind suffix b n w = rw (n, w)

-- ---- the digits stay the same ones over some bytes: there is no point among them, or they are decimal
abbrev pub Stays : Bool → List ℕ → ℕ → ℕ → Type 0
Stays hex s at n = (k : ℕ) → at ≤ k → k < at + n → (hex && not (eqb (get_or s k 0) 0x2E)) ≡ hex

module _ (hex : Bool) (s : List ℕ) where
  stays_on : (at n : ℕ) → Stays hex s at (suc n) → Stays hex s (suc at) n
  stays_on at n h k a b = h k (omega arith) (omega arith)

  -- the first of two parts, and then the second
  pub in_join : (n m at : ℕ) → 1 ≤ at → Stays hex s at n → misplaced_in hex s at (n + m) ≡ first_of (misplaced_in hex s at n) (misplaced_in hex s (at + n) m)
  unfolding misplaced_in
  in_join zero m at l h =
      let e : zero + m ≡ m = omega arith in
      let f : at + zero ≡ at = omega arith in
      rw (e, f)
  in_join (suc n) m at l h =
      let e : suc n + m ≡ suc (n + m) = omega arith in
      let f : at + suc n ≡ suc at + n = omega arith in
      let z : at ≡ 0 → ⊥ = λ q. omega arith in
      let g = h at (omega arith) (omega arith) in
      by_test (misplaced (digit_by hex) s at)
      (λ t. ap (misplaced_in hex s at) e ∙ in_here hex s at (n + m) t ∙ rw (in_here hex s at n t, ne_eqb at 0 z))
      (λ t.
      let i = ap (misplaced_in hex s at) e ∙ in_next hex s at (n + m) g t ∙ in_join n m (suc at) (omega arith) (stays_on at n h) in
      i ∙ rw (in_next hex s at n g t, f))

-- ---- the bytes of a token, instead of those of the text from its start on
no_digit : (hex : Bool) → digit_by hex 0 ≡ false
unfolding is_digit is_hex_digit
no_digit true = refl
no_digit false = refl

module _ (s : List ℕ) (own n : ℕ) where
  abbrev r : List ℕ
  r = take n (drop own s)

  pub byte_own : (k : ℕ) → k < n → get_or r k 0 ≡ get_or s (own + k) 0
  byte_own k h = get_or-take n (drop own s) k 0 h ∙ get_or-drop own s k 0

  byte_past : (k : ℕ) → n ≤ k → get_or r k 0 ≡ 0
  byte_past k h = get_or-eq_default r 0 (omega (arith, length-take n (drop own s)))

  module _ (hex : Bool) where
    -- behind the last byte of the token no digit stands
    behind_own : (k : ℕ) → k ≤ n → (k ≡ n → digit_by hex (get_or s (own + k) 0) ≡ false) → digit_by hex (get_or r k 0) ≡ digit_by hex (get_or s (own + k) 0)
    behind_own k l h =
        elim (dec_lt k n) [
          | yes j ↦ ap (digit_by hex) (byte_own k j)
          | no j ↦ ap (digit_by hex) (byte_past k (omega arith)) ∙ no_digit hex ∙ sym (h (omega arith))
        ]

    misplaced_own : (i : ℕ) → suc i < n → (suc (suc i) ≡ n → digit_by hex (get_or s (own + suc (suc i)) 0) ≡ false) → misplaced (digit_by hex) r (suc i) ≡ misplaced (digit_by hex) s (own + suc i)
    misplaced_own i l h =
        let e : own + suc i ≡ suc (own + i) = omega arith in
        let f : suc (own + suc i) ≡ own + suc (suc i) = omega arith in
        let b : before s (own + suc i) ≡ get_or r i 0 = ap (before s) e ∙ sym (byte_own i (omega arith)) in
        rw (b, f, ← behind_own (suc (suc i)) (omega arith) h, byte_own (suc i) l)

    pub in_own : (m i : ℕ) → 1 ≤ i → i + m ≤ n → Stays hex s (own + i) m → digit_by hex (get_or s (own + (i + m)) 0) ≡ false → misplaced_in hex r i m ≡ misplaced_in hex s (own + i) m - own
    unfolding misplaced_in
    in_own zero i a b h d = omega arith
    in_own (suc m) zero a b h d = absurd (omega arith)
    in_own (suc m) (suc i) a b h d =
        let e : suc (own + suc i) ≡ own + suc (suc i) = omega arith in
        let g = h (own + suc i) (omega arith) (omega arith) in
        let q : misplaced (digit_by hex) r (suc i) ≡ misplaced (digit_by hex) s (own + suc i) =
        misplaced_own i (omega arith) (λ z. ap (λ (k : ℕ). digit_by hex (get_or s (own + k) 0)) (the_same z) ∙ d) in
        let o : misplaced_in hex r (suc (suc i)) m ≡ misplaced_in hex s (own + suc (suc i)) m - own =
        in_own m (suc (suc i)) (omega arith) (omega arith) (λ k x y. h k (omega arith) (omega arith)) (ap (λ (k : ℕ). digit_by hex (get_or s (own + k) 0)) further ∙ d) in
        by_test (misplaced (digit_by hex) s (own + suc i))
        (λ t. in_here hex r (suc i) m (q ∙ t) ∙ sym (rw (in_here hex s (own + suc i) m t) (omega arith)))
        (λ t.
        in_next hex r (suc i) m (rw (byte_own (suc i) (omega arith)) g) (q ∙ t) ∙ o ∙ rw (in_next hex s (own + suc i) m g t, e))
      where
        the_same : suc (suc i) ≡ n → suc (suc i) ≡ suc i + suc m
        the_same z = omega arith

        further : suc (suc i) + m ≡ suc i + suc m
        further = omega arith
