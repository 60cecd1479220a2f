-- The first character of a text: how many bytes it takes, that it is a scalar value, and that nothing behind its own bytes matters.
-- Assumes nothing.
use mathlib.Core.Path.{◌≡◌, sym, ◌∙◌}
use mathlib.Core.Bool.{true}
use mathlib.Core.List.{List, [], ◌∷◌, ◌++◌}
use Prim.Native.Nat.{ℕ, zero, suc, ◌+◌, ◌*◌, ◌%◌, ◌≤◌, ◌<◌}
use native.Mathlib.Decide.{dec_lt, ℕ_discrete}
use native.Mathlib.Omega.{arith}
use lib.ListN.{length, get_or, take, length-take, get_or-eq_default, get_or-append}
use lib.Seq.{get_or-take}
use borrow.Author.Tests.{lt-ltb, le-ltb, le-leb}
use Rattle.characters.specs.Utf8.{first, width, is_scalar}
use Rattle.characters.specs.Steps.{low, high}
use Rattle.characters.proofs.Rows.{In, Seen, seen_1, seen_2, seen_3, seen_4, seen_none, seen, low_ge, high_le, first_1, first_2, first_3, first_4}

-- ---- numbers that are scalar values, and how wide each character is
pub scalar_low : (c : ℕ) → c < 0xD800 → is_scalar c ≡ true
unfolding is_scalar
scalar_low c h = rw (lt-ltb c 0xD800 h)

pub scalar_high : (c : ℕ) → 0xE000 ≤ c → c ≤ 0x10FFFF → is_scalar c ≡ true
unfolding is_scalar
scalar_high c g h = simp (le-ltb c 0xD800 (omega arith), le-leb 0xE000 c g, le-leb c 0x10FFFF h)

pub width_1 : (c : ℕ) → c < 0x80 → width c ≡ 1
unfolding width
width_1 c h = rw (lt-ltb c 0x80 h)

pub width_2 : (c : ℕ) → 0x80 ≤ c → c < 0x800 → width c ≡ 2
unfolding width
width_2 c g h = rw (le-ltb c 0x80 g, lt-ltb c 0x800 h)

pub width_3 : (c : ℕ) → 0x800 ≤ c → c < 0x10000 → width c ≡ 3
unfolding width
width_3 c g h = rw (le-ltb c 0x80 (omega arith), le-ltb c 0x800 g, lt-ltb c 0x10000 h)

pub width_4 : (c : ℕ) → 0x10000 ≤ c → c < 1114112 → width c ≡ 4
unfolding width
width_4 c g h = rw (le-ltb c 0x80 (omega arith), le-ltb c 0x800 (omega arith), le-ltb c 0x10000 g, lt-ltb c 1114112 h)

pub width_none : (c : ℕ) → 1114112 ≤ c → width c ≡ 1
unfolding width
width_none c h = rw (le-ltb c 0x80 (omega arith), le-ltb c 0x800 (omega arith), le-ltb c 0x10000 (omega arith), le-ltb c 1114112 h)

-- ---- what holds of the character that a ∷ s begins with
pub record Fine (s : List ℕ) (x w : ℕ) : Type 0 where
  pub some : 1 ≤ w
  pub most : w ≤ 4
  pub within : w ≤ suc (length s)
  pub size : w ≡ width x
  pub scalar : (x < 1114112 → is_scalar x ≡ true)

-- a byte that is not 0 stands in the list
there : (s : List ℕ) (k : ℕ) → 0 < get_or s k 0 → k < length s
there s k h = elim (dec_lt k (length s)) [ yes p ↦ p | no n ↦ absurd (omega (arith, get_or-eq_default s 0 {n = k} (omega arith))) ]

-- the second byte behind E0, ED, F0 and F4
low_e0 : (a b : ℕ) → low a ≤ b → a ≡ 0xE0 → 0xA0 ≤ b
unfolding low
low_e0 a b h e = rw e at h

low_f0 : (a b : ℕ) → low a ≤ b → a ≡ 0xF0 → 0x90 ≤ b
unfolding low
low_f0 a b h e = rw e at h

high_ed : (a b : ℕ) → b ≤ high a → a ≡ 0xED → b ≤ 0x9F
unfolding high
high_ed a b h e = rw e at h

high_f4 : (a b : ℕ) → b ≤ high a → a ≡ 0xF4 → b ≤ 0x8F
unfolding high
high_f4 a b h e = rw e at h

module _ (a b c : ℕ) (i : In 0xE0 0xEF a) (j : In (low a) (high a) b) (k : In 0x80 0xBF c) where
  pub over_3 : 0x800 ≤ (a % 16 * 64 + b % 64) * 64 + c % 64
  over_3 =
      let lo : 0x80 ≤ low a = low_ge a in
      let hi : high a ≤ 0xBF = high_le a in
      elim (ℕ_discrete a 0xE0) [ yes q ↦ omega (arith, low_e0 a b j.over q) | no n ↦ omega arith ]

  scalar_3 : is_scalar ((a % 16 * 64 + b % 64) * 64 + c % 64) ≡ true
  scalar_3 =
      let x = (a % 16 * 64 + b % 64) * 64 + c % 64 in
      let lo : 0x80 ≤ low a = low_ge a in
      let hi : high a ≤ 0xBF = high_le a in
      elim (dec_lt a 0xED) [
        | yes p ↦ scalar_low x (omega arith)
        | no n ↦ elim (ℕ_discrete a 0xED) [
          | yes q ↦ scalar_low x (omega (arith, high_ed a b j.under q))
          | no m ↦ scalar_high x (omega arith) (omega arith)
        ]
      ]

module _ (a b c d : ℕ) (i : In 0xF0 0xF4 a) (j : In (low a) (high a) b) (k : In 0x80 0xBF c) (m : In 0x80 0xBF d) where
  pub over_4 : 0x10000 ≤ ((a % 8 * 64 + b % 64) * 64 + c % 64) * 64 + d % 64
  over_4 =
      let lo : 0x80 ≤ low a = low_ge a in
      let hi : high a ≤ 0xBF = high_le a in
      elim (ℕ_discrete a 0xF0) [ yes q ↦ omega (arith, low_f0 a b j.over q) | no n ↦ omega arith ]

  pub under_4 : ((a % 8 * 64 + b % 64) * 64 + c % 64) * 64 + d % 64 < 1114112
  under_4 =
      let lo : 0x80 ≤ low a = low_ge a in
      elim (ℕ_discrete a 0xF4) [ yes q ↦ omega (arith, high_f4 a b j.under q) | no n ↦ omega arith ]

fine_of : (a : ℕ) (s : List ℕ) (x w : ℕ) → Seen a s x w → Fine s x w
fine_of a s x w (seen_1 h) =
    record { some = omega arith; most = omega arith; within = omega arith; size = sym (width_1 a (omega arith)); scalar = λ l. scalar_low a (omega arith) }
fine_of a s x w (seen_2 i j) =
    let y = a % 32 * 64 + get_or s 0 0 % 64 in
    record {
      some = omega arith;
      most = omega arith;
      within = omega (arith, there s 0 (omega arith));
      size = sym (width_2 y (omega arith) (omega arith));
      scalar = λ l. scalar_low y (omega arith);
    }
fine_of a s x w (seen_3 i j k) =
    record {
      some = omega arith;
      most = omega arith;
      within = omega (arith, there s 1 (omega arith));
      size = sym (width_3 _ (over_3 a (get_or s 0 0) (get_or s 1 0) i j k) (omega arith));
      scalar = λ l. scalar_3 a (get_or s 0 0) (get_or s 1 0) i j k;
    }
fine_of a s x w (seen_4 i j k m) =
    let g = over_4 a (get_or s 0 0) (get_or s 1 0) (get_or s 2 0) i j k m in
    let h = under_4 a (get_or s 0 0) (get_or s 1 0) (get_or s 2 0) i j k m in
    record {
      some = omega arith;
      most = omega arith;
      within = omega (arith, there s 2 (omega arith));
      size = sym (width_4 _ g h);
      scalar = λ l. scalar_high _ (omega (arith, g)) (omega (arith, h));
    }
fine_of a s x w (seen_none h) =
    record { some = omega arith; most = omega arith; within = omega arith; size = sym (width_none _ (omega arith)); scalar = λ l. absurd (omega arith) }

pub fine : (a : ℕ) (s : List ℕ) → Fine s (first (a ∷ s)).0 (first (a ∷ s)).1
fine a s = fine_of a s (first (a ∷ s)).0 (first (a ∷ s)).1 (seen a s)

-- ---- a decoded value is a scalar value
pub decoded_scalar : (s : List ℕ) → (first s).0 < 1114112 → is_scalar (first s).0 ≡ true
unfolding first
decoded_scalar [] h = scalar_low 0 (omega arith)
decoded_scalar (a ∷ s) h = (fine a s).scalar h

-- ---- decoding looks only at the bytes of its own character
same_bytes : (a : ℕ) (s t : List ℕ) (x w : ℕ) → Seen a s x w → first (a ∷ s) ≡ (x, w) → x < 1114112 → ((k : ℕ) → suc k < w → get_or t k 0 ≡ get_or s k 0) → first (a ∷ t) ≡ (x, w)
same_bytes a s t x w (seen_1 h) e l p = first_1 a t h
same_bytes a s t x w (seen_2 i j) e l p = first_2 a t i.over i.under ∙ rw (p 0 (omega arith)) (sym (first_2 a s i.over i.under) ∙ e)
same_bytes a s t x w (seen_3 i j k) e l p =
    first_3 a t i.over i.under ∙ rw (p 0 (omega arith), p 1 (omega arith)) (sym (first_3 a s i.over i.under) ∙ e)
same_bytes a s t x w (seen_4 i j k m) e l p =
    first_4 a t i.over i.under
    ∙ rw (p 0 (omega arith), p 1 (omega arith), p 2 (omega arith)) (sym (first_4 a s i.over i.under) ∙ e)
same_bytes a s t x w (seen_none h) e l p = absurd (omega arith)

-- whatever stands behind the character's bytes
pub own_bytes_lem : (a : ℕ) (s t : List ℕ) (x w : ℕ) → first (a ∷ s) ≡ (x, w) → x < 1114112 → first (take w (a ∷ s) ++ t) ≡ (x, w)
own_bytes_lem a s t x zero e l = let f = rw e at (fine a s) in absurd (omega (arith, f.some))
own_bytes_lem a s t x (suc w) e l =
    let f = rw e at (fine a s) in
    same_bytes a s (take w s ++ t) x (suc w) (rw e at (seen a s)) e l
    (λ k h. get_or-append (take w s) t 0 k (omega (arith, f.within, length-take w s)) ∙ get_or-take w s k 0 (omega arith))
