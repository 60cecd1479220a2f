-- The laws of `specs/Text.antt`: a text's characters one by one, what stands at a place, and the one law of every loop that eats
-- characters while a test holds.
-- Assumes nothing.
use Prim.Native.Nat.{ℕ, zero, suc, ◌+◌, ◌-◌, ◌≤◌, ◌<◌, min, max}
use native.Mathlib.Decide.{dec_lt}
use native.Mathlib.Omega.{arith}
use mathlib.Core.Path.{◌≡◌, refl, ap, sym, ◌∙◌}
use mathlib.Core.Bool.{Bool, true, false}
use mathlib.Core.List.{List, [], ◌∷◌, ◌++◌, tail, cons≢nil}
use lib.ListN.{length, drop, get_or, length-drop, drop_of_length-le}
use lib.Seq.{drop-cons, drop-drop}
use Rattle.lists.specs.Eat.{eat}
use Rattle.lists.specs.Steps.{Ends}
use Rattle.lists.proofs.Cut.{cut_nil, cut_cons, by_length}
use Rattle.lists.proofs.Eat.{eat_nil, eat_more, eat_stop}
use Rattle.characters.specs.Utf8.{first, next, chars, width}
use Rattle.characters.specs.Text.{Decoded, byte_length, left, keep, skip}
use Rattle.characters.specs.Steps.{Point, Place, Eating, Ate}
use Rattle.characters.proofs.First.{Fine, fine}

-- ---- the characters of a text
next_less : (a : ℕ) (s : List ℕ) → length (next a s).1 ≤ length s
unfolding next
next_less a s = omega (arith, length-drop ((first (a ∷ s)).1 - 1) s)

pub chars_nil : chars [] ≡ []
unfolding chars
chars_nil = cut_nil next

drop_cut : (a : ℕ) (s : List ℕ) (w : ℕ) → 1 ≤ w → drop (w - 1) s ≡ drop w (a ∷ s)
drop_cut a s zero h = absurd (omega arith)
drop_cut a s (suc w) h = let e : suc w - 1 ≡ w = omega arith in rw e

pub chars_first : (s : List ℕ) → 0 < length s → chars s ≡ (first s).0 ∷ chars (drop (first s).1 s)
unfolding chars next
chars_first [] h = absurd (omega arith)
chars_first (a ∷ s) h = cut_cons next next_less a s ∙ rw (drop_cut a s (first (a ∷ s)).1 (fine a s).some)

-- ---- what stands at a place before the end
fine_at : (s : List ℕ) (at : ℕ) → at < length s → Fine (drop (suc at) s) (first (drop at s)).0 (first (drop at s)).1
fine_at s at h = rw (drop-cons s at 0 h) (fine (get_or s at 0) (drop (suc at) s))

pub point_at : (s : List ℕ) (at : ℕ) → at < length s → Point s at (first (drop at s)).0 (first (drop at s)).1
point_at s at h =
    let f = fine_at s at h in
    record {
      some = f.some;
      within = omega (arith, f.within, length-drop (suc at) s);
      size = f.size;
      view = chars_first (drop at s) (omega (arith, length-drop at s)) ∙ rw drop-drop;
    }

pub decoded_point : {s : List ℕ} {at code wide : ℕ} → Decoded s at code wide → at < length s → Point s at code wide
decoded_point {s} {at} d h = rw (d.code_is, d.wide_is) (point_at s at h)

pub decoded_end : {s : List ℕ} {at code wide : ℕ} → Decoded s at code wide → length s ≤ at → (code ≡ 0) × (wide ≡ 0)
unfolding first
decoded_end {s} {at} d h =
    let e = drop_of_length-le s {i = at} h in
    (rw e at d.code_is, rw e at d.wide_is)

-- one outcome: two answers at one place are equal
pub decoded_unique : {s : List ℕ} {at c w c' w' : ℕ} → Decoded s at c w → Decoded s at c' w' → (c ≡ c') × (w ≡ w')
decoded_unique d e = (d.code_is ∙ sym e.code_is, d.wide_is ∙ sym e.wide_is)

-- the bytes that the characters take are those of the text
pub bytes_chars : (s : List ℕ) → byte_length (chars s) ≡ length s
unfolding byte_length
bytes_chars =
    by_length (λ (s : List ℕ). byte_length (chars s) ≡ length s) (rw chars_nil)
    (λ a s ih.
    let f = fine a s in
    let w = (first (a ∷ s)).1 in
    rw (chars_first (a ∷ s) (omega arith))
    (omega (arith, f.some, f.within, f.size, ih (drop w (a ∷ s)) (omega (arith, length-drop w (a ∷ s))), length-drop w (a ∷ s))))

pub bytes_append : (x y : List ℕ) → byte_length (x ++ y) ≡ byte_length x + byte_length y
unfolding byte_length
bytes_append [] y = omega arith
bytes_append (c ∷ x) y = omega (arith, bytes_append x y)

-- the bytes of a list, by the front before one of its ends
pub ends_bytes : {x t : List ℕ} (e : Ends x t) → byte_length t ≡ byte_length e.front + byte_length x
ends_bytes {x} e = ap byte_length e.is ∙ bytes_append e.front x

-- ---- places
-- at the end nothing is left
pub left_end : (s : List ℕ) (at : ℕ) → length s ≤ at → left s at ≡ []
left_end s at h = rw drop_of_length-le chars_nil

-- what stands behind a front of the characters, by the bytes of the front
pub chars_behind : (f r s : List ℕ) → chars s ≡ f ++ r → chars (drop (byte_length f) s) ≡ r
unfolding byte_length
chars_behind [] r s e = e
chars_behind (c ∷ f) r [] e = absurd (cons≢nil (sym e ∙ chars_nil))
chars_behind (c ∷ f) r (a ∷ s) e =
    let w = (first (a ∷ s)).1 in
    let q = sym (chars_first (a ∷ s) (omega arith)) ∙ e in
    let h : (first (a ∷ s)).0 ≡ c = ap (λ (l : List ℕ). get_or l 0 0) q in
    let z : width c + byte_length f ≡ w + byte_length f = omega (arith, (fine a s).size, ap width h) in
    ap (λ (n : ℕ). chars (drop n (a ∷ s))) z ∙ ap chars (sym (drop-drop (byte_length f) w (a ∷ s))) ∙ chars_behind f r (drop w (a ∷ s)) (ap tail q)

-- the bytes between two places, by what is left at each
pub between : {s : List ℕ} {low at : ℕ} {l : List ℕ} → low ≤ length s → Place s low at l → byte_length (left s low) - byte_length l ≡ at - low
between {s} {low} {at} {l} h p =
    omega (arith, p.after, p.within, ap byte_length p.there, bytes_chars (drop low s), bytes_chars (drop at s), length-drop low s, length-drop at s)

-- a place after a place
pub from_place : {s : List ℕ} {low at end : ℕ} {l m m' : List ℕ} → Place s low at l → Place s at end m → m ≡ m' → Place s low end m'
from_place p q e = record { after = omega (arith, p.after, q.after); within = q.within; there = q.there ∙ e }

-- ---- eating
module _ {S : Type 0} (p : ℕ → Bool) (g : S → ℕ → S) (s : List ℕ) where
  pub eating_none : (at : ℕ) (x : S) → at ≤ length s → Eating p g s at x at x
  eating_none at x h = record { after = omega arith; within = h; same = refl }

  pub eating_more : {at₀ : ℕ} {x₀ : S} {at code wide : ℕ} {x : S} → Eating p g s at₀ x₀ at x → Point s at code wide → p code ≡ true → Eating p g s at₀ x₀ (at + wide) (g x code)
  eating_more {code = code} {x = x} e c h =
      record { after = omega arith; within = c.within; same = sym (eat_more p g x code _ h) ∙ ap (eat p g x) (sym c.view) ∙ e.same }

  ate : {at₀ : ℕ} {x₀ : S} {at : ℕ} {x : S} → Eating p g s at₀ x₀ at x → eat p g x (left s at) ≡ (x, left s at) → Ate p g s at₀ x₀ at x
  ate {at₀} {x₀} {at} {x} e h =
      let q : eat p g x₀ (left s at₀) ≡ (x, left s at) = sym e.same ∙ h in
      record { place = record { after = e.after; within = e.within; there = ap (λ (r : S × List ℕ). r.1) (sym q) }; state = ap (λ (r : S × List ℕ). r.0) (sym q) }

  pub eating_stop : {at₀ : ℕ} {x₀ : S} {at code wide : ℕ} {x : S} → Eating p g s at₀ x₀ at x → Point s at code wide → p code ≡ false → Ate p g s at₀ x₀ at x
  eating_stop {code = code} {x = x} e c h = ate e (rw c.view (eat_stop p g x code _ h))

  pub eating_end : {at₀ : ℕ} {x₀ : S} {at : ℕ} {x : S} → Eating p g s at₀ x₀ at x → length s ≤ at → Ate p g s at₀ x₀ at x
  eating_end {at = at} {x = x} e h = ate e (rw (left_end s at h) (eat_nil p g x))

pub skipped : {p : ℕ → Bool} {s : List ℕ} {at₀ at : ℕ} → Ate p keep s at₀ tt at tt → Place s at₀ at (skip p (left s at₀))
unfolding skip
skipped a = a.place

-- ---- eating with no state, character by character
pub skip_nil : (p : ℕ → Bool) → skip p [] ≡ []
unfolding skip
skip_nil p = ap (λ (r : Unit {0} × List ℕ). r.1) (eat_nil p keep tt)

pub skip_more : (p : ℕ → Bool) (c : ℕ) (t : List ℕ) → p c ≡ true → skip p (c ∷ t) ≡ skip p t
unfolding skip
skip_more p c t h = ap (λ (r : Unit {0} × List ℕ). r.1) (eat_more p keep tt c t h)

pub skip_stop : (p : ℕ → Bool) (c : ℕ) (t : List ℕ) → p c ≡ false → skip p (c ∷ t) ≡ c ∷ t
unfolding skip
skip_stop p c t h = ap (λ (r : Unit {0} × List ℕ). r.1) (eat_stop p keep tt c t h)

-- the law as `search` takes it from what a need knows: `decode` was called before the end, and the test's answer is a flag of the code
module _ {S : Type 0} {p : ℕ → Bool} {g : S → ℕ → S} {s : List ℕ} where
  pub go_on : {at₀ at at' code wide : ℕ} {x₀ x x' : S} {b : Bool} → Eating p g s at₀ x₀ at x → Decoded s at code wide → at < length s → b ≡ p code → b ≡ true →
      at' ≡ at + wide → x' ≡ g x code → Eating p g s at₀ x₀ at' x'
  go_on {b = b} e d l f t u v = rw (u, v) (eating_more p g s e (decoded_point d l) (sym f ∙ t))

  pub halt : {at₀ at code wide : ℕ} {x₀ x : S} {b : Bool} → Eating p g s at₀ x₀ at x → Decoded s at code wide → at < length s → b ≡ p code → b ≡ false → Ate p g s at₀ x₀ at x
  halt {b = b} e d l f t = eating_stop p g s e (decoded_point d l) (sym f ∙ t)

  pub none_yet : {at : ℕ} {x : S} → at ≤ length s → Eating p g s at x at x
  none_yet {at} {x} h = eating_none p g s at x h

  pub at_end : {at₀ at : ℕ} {x₀ x : S} → Eating p g s at₀ x₀ at x → length s ≤ at → Ate p g s at₀ x₀ at x
  at_end e h = eating_end p g s e h

-- the same for a loop with no state
module _ {p : ℕ → Bool} {s : List ℕ} where
  pub halt_skip : {at₀ at code wide : ℕ} {b : Bool} → Eating p keep s at₀ tt at tt → Decoded s at code wide → at < length s → b ≡ p code → b ≡ false → Place s at₀ at (skip p (left s at₀))
  halt_skip e d l f t = skipped (halt e d l f t)

  pub end_skip : {at₀ at : ℕ} → Eating p keep s at₀ tt at tt → length s ≤ at → Place s at₀ at (skip p (left s at₀))
  end_skip e h = skipped (eating_end p keep s e h)

-- all of it: each need of an eating loop is `search (needs, eating)`
pub ruleset eating = (go_on, halt, halt_skip, end_skip, none_yet, at_end)

-- what `decode` says of places, at every place: rules for `omega`
pub decoded_fits : (s : List ℕ) (at code wide : ℕ) → Decoded s at code wide → at + wide ≤ max at (length s)
decoded_fits s at code wide d =
    elim (dec_lt at (length s)) [
      | yes h ↦ omega (arith, (decoded_point d h).within)
      | no n ↦ omega (arith, (decoded_end d (omega arith)).1)
    ]

pub decoded_some : (s : List ℕ) (at code wide : ℕ) → Decoded s at code wide → min 1 (length s - at) ≤ wide
decoded_some s at code wide d =
    elim (dec_lt at (length s)) [
      | yes h ↦ omega (arith, (decoded_point d h).some)
      | no n ↦ omega arith
    ]
