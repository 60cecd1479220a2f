-- A byte below 80 is a character of its own, and no byte of any other character is below 80: so what turns on ASCII alone can go byte
-- by byte.
-- Assumes nothing.
use Prim.Native.Nat.{ℕ, zero, suc, ◌+◌, ◌≤◌, ◌<◌}
use native.Mathlib.Decide.{dec_lt}
use native.Mathlib.Omega.{arith}
use mathlib.Core.Path.{◌≡◌, refl, ap, sym, ◌∙◌}
use mathlib.Core.Bool.{Bool, true, false}
use mathlib.Core.List.{List, [], ◌∷◌}
use native.Mathlib.Numerals.{add-one}
use lib.ListN.{length, drop, get_or, length-drop, drop_of_length-le}
use lib.Seq.{drop-cons}
use Rattle.lists.specs.Eat.{eat}
use Rattle.lists.proofs.Bools.{by_test}
use Rattle.lists.proofs.Cut.{by_length}
use Rattle.lists.proofs.Eat.{eat_nil, eat_more, eat_stop}
use Rattle.characters.specs.Utf8.{first, chars}
use Rattle.characters.specs.Text.{Decoded, left, keep, skip}
use Rattle.characters.specs.Steps.{Place, Eating, Ate}
use Rattle.characters.proofs.First.{fine, over_3, over_4}
use Rattle.characters.proofs.Rows.{Seen, seen_1, seen_2, seen_3, seen_4, seen_none, seen, first_1, low_ge}
use Rattle.characters.proofs.Text.{chars_nil, chars_first, skip_nil, skip_more, skip_stop, go_on, halt_skip}

-- ---- a first byte that is not ASCII: its character is not, nor is any byte of it
pub record Wide (a : ℕ) (s : List ℕ) (c w : ℕ) : Type 0 where
  pub code : 0x80 ≤ c
  pub bytes : (k : ℕ) → k < w → 0x80 ≤ get_or (a ∷ s) k 0
  pub within : w ≤ suc (length s)
  pub less : length (drop w (a ∷ s)) ≤ length s

module _ (a : ℕ) (s : List ℕ) {w : ℕ} (h : 0x80 ≤ a) (most : w ≤ 4) where
  up_to_four : (1 < w → 0x80 ≤ get_or s 0 0) → (2 < w → 0x80 ≤ get_or s 1 0) → (3 < w → 0x80 ≤ get_or s 2 0) → (k : ℕ) → k < w → 0x80 ≤ get_or (a ∷ s) k 0
  up_to_four x y z zero l = h
  up_to_four x y z (suc zero) l = x l
  up_to_four x y z (suc (suc zero)) l = y l
  up_to_four x y z (suc (suc (suc zero))) l = z l
  up_to_four x y z (suc (suc (suc (suc k)))) l = absurd (omega arith)

record NotAscii (a : ℕ) (s : List ℕ) (c w : ℕ) : Type 0 where
  code : 0x80 ≤ c
  bytes : (k : ℕ) → k < w → 0x80 ≤ get_or (a ∷ s) k 0

wide_of : (a : ℕ) (s : List ℕ) (c w : ℕ) → 0x80 ≤ a → Seen a s c w → NotAscii a s c w
wide_of a s c w h (seen_1 i) = absurd (omega arith)
wide_of a s c w h (seen_2 i j) =
    record { code = omega (arith, i.over, i.under); bytes = up_to_four a s h (omega arith) (λ l. j.over) (λ l. absurd (omega arith)) (λ l. absurd (omega arith)) }
wide_of a s c w h (seen_3 i j k) =
    record {
      code = omega (arith, over_3 a (get_or s 0 0) (get_or s 1 0) i j k);
      bytes = up_to_four a s h (omega arith) (λ l. omega (arith, j.over, low_ge a)) (λ l. k.over) (λ l. absurd (omega arith));
    }
wide_of a s c w h (seen_4 i j k m) =
    record {
      code = omega (arith, over_4 a (get_or s 0 0) (get_or s 1 0) (get_or s 2 0) i j k m);
      bytes = up_to_four a s h (omega arith) (λ l. omega (arith, j.over, low_ge a)) (λ l. k.over) (λ l. m.over);
    }
wide_of a s c w h (seen_none i) =
    record { code = omega arith; bytes = up_to_four a s h (omega arith) (λ l. absurd (omega arith)) (λ l. absurd (omega arith)) (λ l. absurd (omega arith)) }

pub wide : (a : ℕ) (s : List ℕ) → 0x80 ≤ a → Wide a s (first (a ∷ s)).0 (first (a ∷ s)).1
wide a s h =
    let w = (first (a ∷ s)).1 in
    let n = wide_of a s (first (a ∷ s)).0 w h (seen a s) in
    record { code = n.code; bytes = n.bytes; within = (fine a s).within; less = omega (arith, (fine a s).some, length-drop w (a ∷ s)) }

pub wide_code : (a : ℕ) (s : List ℕ) → 0x80 ≤ a → 0x80 ≤ (first (a ∷ s)).0
wide_code a s h = (wide a s h).code

-- ---- the characters of a text whose first byte is ASCII
pub chars_ascii : (a : ℕ) (s : List ℕ) → a < 0x80 → chars (a ∷ s) ≡ a ∷ chars s
chars_ascii a s h = chars_first (a ∷ s) (omega arith) ∙ rw (first_1 a s (omega arith))

-- ---- eating by bytes
module _ {S : Type 0} (p : ℕ → Bool) (g : S → ℕ → S) (none : (c : ℕ) → 0x80 ≤ c → p c ≡ false) where
  -- a test that only ASCII passes
  pub eat_bytes : (x : S) (s : List ℕ) → eat p g x (chars s) ≡ ((eat p g x s).0, chars (eat p g x s).1)
  unfolding eat
  eat_bytes x [] = ap (eat p g x) chars_nil ∙ ap (λ (l : List ℕ). (x, l)) (sym chars_nil)
  eat_bytes x (a ∷ s) =
      let ih = eat_bytes (g x a) s in
      elim (dec_lt a 0x80) [
        | yes h ↦ by_test (p a)
            (λ t. rw (chars_ascii a s h, eat_more p g x a (chars s) t, eat_more p g x a s t) ih)
            (λ f. rw (chars_ascii a s h, eat_stop p g x a (chars s) f, eat_stop p g x a s f, chars_ascii a s h))
        | no n ↦
            let h : 0x80 ≤ a = omega arith in
            let v = chars_first (a ∷ s) (omega arith) in
            (ap (eat p g x) v ∙ eat_stop p g x _ _ (none (first (a ∷ s)).0 (wide a s h).code)) ∙ rw (eat_stop p g x a s (none a h), ← v)
      ]

module _ (p : ℕ → Bool) (all : (c : ℕ) → 0x80 ≤ c → p c ≡ true) where
  skip_front : (n : ℕ) (l : List ℕ) → ((k : ℕ) → k < n → 0x80 ≤ get_or l k 0) → n ≤ length l → skip p (drop n l) ≡ skip p l
  skip_front zero l h m = refl
  skip_front (suc n) [] h m = refl
  skip_front (suc n) (a ∷ l) h m =
      skip_front n l (λ k i. h (suc k) (omega arith)) (omega arith) ∙ sym (skip_more p a l (all a (h 0 (omega arith))))

  -- a test that all but ASCII passes
  pub skip_bytes : (s : List ℕ) → skip p (chars s) ≡ chars (skip p s)
  skip_bytes =
      by_length (λ (s : List ℕ). skip p (chars s) ≡ chars (skip p s)) (rw (chars_nil, skip_nil p, chars_nil))
      (λ a s ih.
      elim (dec_lt a 0x80) [
        | yes h ↦ by_test (p a)
            (λ t. rw (chars_ascii a s h, skip_more p a (chars s) t, skip_more p a s t) (ih s (omega arith)))
            (λ f. rw (chars_ascii a s h, skip_stop p a (chars s) f, skip_stop p a s f, chars_ascii a s h))
        | no n ↦
            let h : 0x80 ≤ a = omega arith in
            let w = (first (a ∷ s)).1 in
            let f = fine a s in
            let less : length (drop w (a ∷ s)) ≤ length s = omega (arith, f.some, length-drop w (a ∷ s)) in
            (ap (skip p) (chars_first (a ∷ s) (omega arith)) ∙ skip_more p _ _ (all (first (a ∷ s)).0 (wide a s h).code))
            ∙ ih (drop w (a ∷ s)) less
            ∙ ap chars (skip_front w (a ∷ s) (wide a s h).bytes f.within)
      ])

-- ---- a loop that eats byte by byte: to go on from here comes to the same
module _ {S : Type 0} (p : ℕ → Bool) (g : S → ℕ → S) (s : List ℕ) where
  pub record Going (at₀ : ℕ) (x₀ : S) (at : ℕ) (x : S) : Type 0 where
    pub after : at₀ ≤ at
    pub within : at ≤ length s
    pub same : eat p g x (drop at s) ≡ eat p g x₀ (drop at₀ s)

module _ {S : Type 0} {p : ℕ → Bool} {g : S → ℕ → S} {s : List ℕ} where
  pub going_none : {at : ℕ} {x : S} → at ≤ length s → Going p g s at x at x
  going_none h = record { after = omega arith; within = h; same = refl }

  -- the byte at a place, in front of those behind it
  pub going_on : {at₀ at at' b : ℕ} {x₀ x x' : S} {f : Bool} → Going p g s at₀ x₀ at x → b ≡ get_or s at 0 → at < length s → f ≡ p b → f ≡ true → at' ≡ at + 1 → x' ≡ g x b → Going p g s at₀ x₀ at' x'
  going_on {at = at} {b = b} {x = x} {f = f} e v l t n u w =
      let k : p (get_or s at 0) ≡ true = rw v at (sym t ∙ n) in
      record {
        after = omega (arith, e.after);
        within = omega arith;
        same = rw (u, w, v, add-one) (sym (eat_more p g x (get_or s at 0) (drop (suc at) s) k) ∙ ap (eat p g x) (sym (drop-cons s at 0 l)) ∙ e.same);
      }

  -- where it stops
  stops : {at₀ at b : ℕ} {x₀ x : S} {f : Bool} → Going p g s at₀ x₀ at x → b ≡ get_or s at 0 → at < length s → f ≡ p b → f ≡ false → eat p g x₀ (drop at₀ s) ≡ (x, drop at s)
  stops {at = at} {x = x} {f = f} e v l t n =
      let k : p (get_or s at 0) ≡ false = rw v at (sym t ∙ n) in
      sym e.same ∙ rw (drop-cons s at 0 l) (eat_stop p g x (get_or s at 0) (drop (suc at) s) k)

  ends : {at₀ at : ℕ} {x₀ x : S} → Going p g s at₀ x₀ at x → length s ≤ at → eat p g x₀ (drop at₀ s) ≡ (x, drop at s)
  ends {at = at} {x = x} e l = sym e.same ∙ rw (drop_of_length-le s {i = at} l) (eat_nil p g x)

  -- a test that only ASCII passes: the same is eaten of the characters
  ate_of : {at₀ at : ℕ} {x₀ x : S} → ((c : ℕ) → 0x80 ≤ c → p c ≡ false) → Going p g s at₀ x₀ at x → eat p g x₀ (drop at₀ s) ≡ (x, drop at s) → Ate p g s at₀ x₀ at x
  ate_of {at₀} {at} {x₀} {x} none e h =
      let q : eat p g x₀ (left s at₀) ≡ (x, left s at) = eat_bytes p g none x₀ (drop at₀ s) ∙ ap (λ (r : S × List ℕ). (r.0, chars r.1)) h in
      record { place = record { after = e.after; within = e.within; there = ap (λ (r : S × List ℕ). r.1) (sym q) }; state = ap (λ (r : S × List ℕ). r.0) (sym q) }

  pub going_halt : {at₀ at b : ℕ} {x₀ x : S} {f : Bool} → ((c : ℕ) → 0x80 ≤ c → p c ≡ false) → Going p g s at₀ x₀ at x → b ≡ get_or s at 0 → at < length s → f ≡ p b → f ≡ false → Ate p g s at₀ x₀ at x
  going_halt none e v l t n = ate_of none e (stops e v l t n)

  pub going_end : {at₀ at : ℕ} {x₀ x : S} → ((c : ℕ) → 0x80 ≤ c → p c ≡ false) → Going p g s at₀ x₀ at x → length s ≤ at → Ate p g s at₀ x₀ at x
  going_end none e l = ate_of none e (ends e l)

-- a test that all but ASCII passes, with no state
module _ {p : ℕ → Bool} {s : List ℕ} (all : (c : ℕ) → 0x80 ≤ c → p c ≡ true) where
  skipped_of : {at₀ at : ℕ} → Going p keep s at₀ tt at tt → eat p keep tt (drop at₀ s) ≡ (tt, drop at s) → Place s at₀ at (skip p (left s at₀))
  unfolding skip
  skipped_of {at₀} {at} e h =
      record { after = e.after; within = e.within; there = ap (λ (r : Unit {0} × List ℕ). chars r.1) (sym h) ∙ sym (skip_bytes p all (drop at₀ s)) }

  pub skip_halt : {at₀ at b : ℕ} {f : Bool} → Going p keep s at₀ tt at tt → b ≡ get_or s at 0 → at < length s → f ≡ p b → f ≡ false → Place s at₀ at (skip p (left s at₀))
  skip_halt e v l t n = skipped_of e (stops e v l t n)

  pub skip_end : {at₀ at : ℕ} → Going p keep s at₀ tt at tt → length s ≤ at → Place s at₀ at (skip p (left s at₀))
  skip_end e l = skipped_of e (ends e l)

-- ---- an ASCII byte in a loop that decodes what is not
pub ascii_decoded : {s : List ℕ} {at b : ℕ} → b ≡ get_or s at 0 → at < length s → b < 0x80 → Decoded s at b 1
ascii_decoded {s} {at} {b} v l h =
    let e : first (drop at s) ≡ (b, 1) = ap first (drop-cons s at 0 l) ∙ ap (λ (a : ℕ). first (a ∷ drop (suc at) s)) (sym v) ∙ first_1 b (drop (suc at) s) (omega arith) in
    record { code_is = ap (λ (r : ℕ × ℕ). r.0) (sym e); wide_is = ap (λ (r : ℕ × ℕ). r.1) (sym e) }

module _ {S : Type 0} {p : ℕ → Bool} {g : S → ℕ → S} {s : List ℕ} {at₀ at b : ℕ} {x₀ x : S} {f : Bool} (e : Eating p g s at₀ x₀ at x) (v : b ≡ get_or s at 0) (l : at < length s) (h : b < 0x80) (t : f ≡ p b) where
  pub ascii_on : {at' : ℕ} {x' : S} → f ≡ true → at' ≡ at + 1 → x' ≡ g x b → Eating p g s at₀ x₀ at' x'
  ascii_on n u w = go_on e (ascii_decoded v l h) l t n u w

pub ascii_halt : {p : ℕ → Bool} {s : List ℕ} {at₀ at b : ℕ} {f : Bool} → Eating p keep s at₀ tt at tt → b ≡ get_or s at 0 → at < length s → b < 0x80 → f ≡ p b → f ≡ false → Place s at₀ at (skip p (left s at₀))
ascii_halt e v l h t n = halt_skip e (ascii_decoded v l h) l t n

pub ruleset ascii = (ascii_on, ascii_halt)
