-- The loops that go byte by byte: only ASCII ends a line.
-- Assumes nothing.
use Prim.Native.Nat.{ℕ, zero, suc, ◌+◌, ◌-◌, ◌≤◌, ◌<◌}
use native.Mathlib.Decide.{dec_lt}
use native.Mathlib.Numerals.{add-one, add-two, one-add}
use native.Mathlib.Omega.{arith}
use mathlib.Core.Path.{◌≡◌, refl, ap, sym, ◌∙◌}
use mathlib.Core.Bool.{Bool, true, false, not, cond, ◌||◌, false≢true}
use mathlib.Core.List.{List, [], ◌∷◌, tail}
use lib.ListN.{length, drop, get_or, get_or-eq_default, length-drop}
use lib.Seq.{drop-drop}
use lib.Dec.{eqb, leb, ltb}
use borrow.Author.Tests.{ne_eqb, ltb-false, leb-false, lt-leb}
use Rattle.std.proofs.Common.{get_or-drop}
use Rattle.std.specs.Prelude.{Option, Some, None, unwrap_or}
use Rattle.std.specs.List.{prefix_len, position_or_len}
use Rattle.std.proofs.lemmas.List.Sums.{prefix_len-le-length, prefix_len_stops}
use Rattle.lists.proofs.Bools.{by_test}
use Rattle.characters.specs.Utf8.{first, chars}
use Rattle.characters.specs.Steps.{Place}
use Rattle.characters.specs.Text.{left, skip}
use Rattle.characters.proofs.Text.{chars_nil, chars_first, skip_nil, skip_more, skip_stop}
use Rattle.characters.proofs.Ascii.{chars_ascii, wide_code, skip_bytes}
use Rattle.cutters.specs.Digits.{peek}
use Rattle.lexer.specs.Cut.{not_lf}
use Rattle.lexer.specs.Steps.{Ran}

not_lf_wide : (c : ℕ) → 0x80 ≤ c → not_lf c ≡ true
unfolding not_lf
not_lf_wide c h = rw (ne_eqb c 0x0A (λ e. omega arith))

-- ---- the place that `position` finds, or else the end
pub first_place : (t : ℕ → Bool) (l : List ℕ) {r : Option ℕ} {n : ℕ} → r ≡ cond (ltb (position_or_len t l) (length l)) (Some (position_or_len t l)) None → n ≡ unwrap_or r (length l) → n ≡ position_or_len t l
first_place t l {r} {n} e f =
    by_test (ltb (position_or_len t l) (length l)) (λ y. f ∙ rw (e, y))
    (λ z. let q : r ≡ None = e ∙ rw z in f ∙ rw q (omega (arith, ltb-false _ _ z, prefix_len-le-length (λ x. not (t x)) l)))

-- all before the first byte that fails a test is skipped
skip_prefix : (p : ℕ → Bool) (l : List ℕ) → skip p l ≡ drop (prefix_len p l) l
skip_prefix p [] = skip_nil p
skip_prefix p (a ∷ l) =
    by_test (p a) (λ t. rw (skip_more p a l t, t, one-add) (skip_prefix p l)) (λ f. rw (skip_stop p a l f, f))

-- a line ends at its first LF
pub line_place : {s : List ℕ} {at n : ℕ} → at ≤ length s → n ≡ prefix_len not_lf (drop at s) → Place s at (at + n) (skip not_lf (left s at))
line_place {s} {at} {n} l e =
    let m : n ≤ length s - at = omega (arith, e, prefix_len-le-length not_lf (drop at s), length-drop at s) in
    record {
      after = omega arith;
      within = omega (arith, l, m);
      there = ap chars (sym (drop-drop n at s) ∙ rw e (sym (skip_prefix not_lf (drop at s)))) ∙ sym (skip_bytes not_lf not_lf_wide (drop at s));
    }

-- a run of ASCII that passes a test stops at the end, at what is not ASCII, or where the test fails
module _ (p : ℕ → Bool) where
  abbrev pub halts : ℕ → Bool
  halts b = leb 0x80 b || not (p b)

  goes : (b : ℕ) → not (halts b) ≡ true → (b < 0x80) × (p b ≡ true)
  goes b t =
      by_test (leb 0x80 b) (λ y. absurd (false≢true (sym (rw y) ∙ t)))
      (λ z. by_test (p b) (λ k. (leb-false 0x80 b z, k)) (λ k. absurd (false≢true (sym (rw (z, k)) ∙ t))))

  fails : (b : ℕ) → not (halts b) ≡ false → b < 0x80 → p b ≡ false
  fails b t l = by_test (p b) (λ k. absurd (false≢true (sym t ∙ rw (k, lt-leb 0x80 b l)))) (λ k. k)

  skip_run : (l : List ℕ) → skip p (chars (drop (position_or_len halts l) l)) ≡ skip p (chars l)
  skip_run [] = refl
  skip_run (a ∷ l) =
      by_test (not (halts a))
      (λ t. let h = goes a t in rw (t, one-add, chars_ascii a l h.0, skip_more p a (chars l) h.1) (skip_run l))
      (λ f. rw f)

  pub ran : {s : List ℕ} {at n : ℕ} → at ≤ length s → n ≡ position_or_len halts (drop at s) → Ran p s at (at + n)
  ran {s} {at} {n} l e =
      let m : n ≤ length s - at = omega (arith, e, prefix_len-le-length (λ b. not (halts b)) (drop at s), length-drop at s) in
      record {
        after = omega arith;
        within = omega (arith, l, m);
        same = ap (λ (t : List ℕ). skip p (chars t)) (sym (drop-drop n at s)) ∙ rw e (skip_run (drop at s));
        stop = λ h k. fails (get_or s (at + n) 0) (ap (λ b. not (halts b)) (sym (get_or-drop at s n 0)) ∙ rw e (prefix_len_stops (λ b. not (halts b)) (drop at s) 0 (omega (arith, e, h, length-drop at s)))) k;
      }

-- ---- what is peeked, by characters and by bytes
pub peek_same : (s : List ℕ) (k : ℕ) → k < 0x80 → eqb (peek (chars s)) k ≡ eqb (peek s) k
peek_same [] k h = rw chars_nil
peek_same (a ∷ s) k h =
    elim (dec_lt a 0x80) [
      | yes l ↦ rw (chars_ascii a s l)
      | no n ↦
          rw (chars_first (a ∷ s) (omega arith), ne_eqb (first (a ∷ s)).0 k (λ e. omega (arith, wide_code a s (omega arith))), ne_eqb a k (λ e. omega arith))
    ]

pub peek_ascii : (s : List ℕ) → peek s < 0x80 → peek (chars s) ≡ peek s
peek_ascii [] h = ap peek chars_nil
peek_ascii (a ∷ s) h = ap peek (chars_ascii a s h)

pub tail_same : (s : List ℕ) → peek s < 0x80 → tail (chars s) ≡ chars (tail s)
tail_same [] h = ap tail chars_nil ∙ sym chars_nil
tail_same (a ∷ s) h = ap tail (chars_ascii a s h)

pub tail_less : (s : List ℕ) → length (tail s) ≤ length s
tail_less [] = omega arith
tail_less (a ∷ s) = omega arith

pub peek_drop : (n : ℕ) (s : List ℕ) → peek (drop n s) ≡ get_or s n 0
peek_drop zero [] = refl
peek_drop zero (a ∷ s) = refl
peek_drop (suc n) [] = refl
peek_drop (suc n) (a ∷ s) = peek_drop n s

pub tail_drop : (n : ℕ) (s : List ℕ) → tail (drop (n + 1) s) ≡ drop (n + 2) s
tail_drop n s = rw (add-one, add-two) (steps n s)
  where
    steps : (n : ℕ) (s : List ℕ) → tail (drop (suc n) s) ≡ drop (suc (suc n)) s
    steps n [] = refl
    steps zero (a ∷ []) = refl
    steps zero (a ∷ b ∷ s) = refl
    steps (suc n) (a ∷ s) = steps n s

-- a byte that is not 0 stands in the text
pub stands : (n : ℕ) (s : List ℕ) → 1 ≤ get_or s n 0 → n < length s
stands n s h =
    elim (dec_lt n (length s)) [ yes l ↦ l | no m ↦ absurd (omega (arith, get_or-eq_default s 0 {n = n} (omega arith))) ]
