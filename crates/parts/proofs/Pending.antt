-- The bytes of a character that is not finished, and what they become with a chunk behind them, as `search` takes the laws.
-- Assumes nothing.
use Prim.Native.Nat.{ℕ, ◌+◌, ◌-◌, ◌≤◌, ◌<◌}
use mathlib.Core.Path.{◌≡◌, refl, sym, ap, ◌∙◌}
use mathlib.Core.Bool.{Bool, true, false}
use mathlib.Core.List.{List, [], ◌∷◌, ◌++◌}
use native.Mathlib.Decide.{dec_le}
use native.Mathlib.Omega.{arith}
use lib.ListN.{length, take, drop, get_or, length-append, take-append-drop}
use lib.Seq.{take-append-le, drop-append-add}
use borrow.Author.Tests.{lt-ltb, le-ltb}
use Rattle.characters.specs.Utf8.{first, width, bytes_before, valid_up_to}
use Rattle.characters.specs.Unfinished.{unfinished}
use Rattle.characters.specs.Steps.{Reads, begun}
use Rattle.characters.proofs.Rows.{first_four}
use Rattle.characters.proofs.First.{fine, own_bytes_lem}
use Rattle.characters.proofs.Text.{chars_first}
use Rattle.characters.proofs.Unfinished.{unfinished_text, unfinished_nil}
use Rattle.feeding.proofs.Unfinished.{unfinished_short, unfinished_none}
use Rattle.parts.specs.Coded.{pend_of, packed_pend}
use Rattle.parts.specs.Steps.{WholeHead, ShortHead, BadHead}
use Rattle.parts.specs.declared.pend.Pend.{Pend}

-- ---- as integers
pub pend_is : (s : List ℕ) {n a b c : ℕ} → n ≡ length s → a ≡ get_or s 0 0 → b ≡ get_or s 1 0 → c ≡ get_or s 2 0 → ◌≡◌ {A = Pend} (record { count = n; one = a; two = b; three = c }) (packed_pend s)
pend_is s e f g h = rw (e, f, g, h)

-- ---- whether they are the beginning of a character
module _ (p : Pend) {n : ℕ} (e : n ≡ length (pend_of p)) where
  pub open_none : n ≡ 0 → true ≡ unfinished (pend_of p)
  open_none h = unfinished_nil (pend_of p) (omega arith)

  pub open_some : (n ≡ 0 → ⊥) → {a b c : ℕ} → a ≡ get_or (pend_of p) 0 0 → b ≡ get_or (pend_of p) 1 0 → c ≡ get_or (pend_of p) 2 0 → {r : Bool} → r ≡ begun n a b c → r ≡ unfinished (pend_of p)
  open_some h i j k m = unfinished_text (pend_of p) (λ z. h (omega arith)) i j k (rw e at m)

pub ruleset opens = (open_none, open_some)

-- ---- the first character says whether anything is well-formed
four_say : (s : List ℕ) → 0 < length s → first s ≡ first (get_or s 0 0 ∷ get_or s 1 0 ∷ get_or s 2 0 ∷ get_or s 3 0 ∷ [])
four_say [] h = absurd (omega arith)
four_say (a ∷ s) h = first_four a s

char_counts : (s : List ℕ) → 0 < length s → (first s).0 < 1114112 → valid_up_to s ≡ width (first s).0 + valid_up_to (drop (first s).1 s)
unfolding valid_up_to bytes_before
char_counts s l h = rw (chars_first s l, lt-ltb (first s).0 1114112 h)

none_counts : (s : List ℕ) → 0 < length s → 1114112 ≤ (first s).0 → valid_up_to s ≡ 0
unfolding valid_up_to bytes_before
none_counts s l h = rw (chars_first s l, le-ltb (first s).0 1114112 h)

record Fits (s : List ℕ) : Type 0 where
  some : 1 ≤ (first s).1
  within : (first s).1 ≤ length s
  size : (first s).1 ≡ width (first s).0

fits_of : (s : List ℕ) → 0 < length s → Fits s
fits_of [] h = absurd (omega arith)
fits_of (a ∷ s) h = let f = fine a s in record { some = f.some; within = f.within; size = f.size }

-- whatever stands behind the bytes of the first character
own : (s t : List ℕ) → 0 < length s → (first (s ++ t)).0 < 1114112 → (first (s ++ t)).1 ≤ length s → first s ≡ first (s ++ t)
own [] t h c l = absurd (omega arith)
own (a ∷ s) t h c l =
    let w = (first (a ∷ s ++ t)).1 in
    let f : take w (a ∷ s ++ t) ++ drop w (a ∷ s) ≡ a ∷ s = ap (λ (y : List ℕ). y ++ drop w (a ∷ s)) (take-append-le w (a ∷ s) t l) ∙ take-append-drop w (a ∷ s) in
    sym (ap first f) ∙ own_bytes_lem a (s ++ t) (drop w (a ∷ s)) (first (a ∷ s ++ t)).0 w refl c

-- ---- with a chunk behind them
module _ (s t : List ℕ) (u : unfinished s ≡ true) (l : 0 < length s) where
  more : 0 < length (s ++ t)
  more = omega (arith, length-append s t)

  -- a first character takes bytes of the chunk: they alone are none
  reaches : (first (s ++ t)).0 < 1114112 → length s < (first (s ++ t)).1
  reaches h =
      elim (dec_le (first (s ++ t)).1 (length s)) [
        | yes g ↦
            let e = own s t l h g in
            let c : (first s).0 < 1114112 = omega (arith, ap (λ (y : ℕ × ℕ). y.0) e) in
            absurd (omega (arith, char_counts s l c, unfinished_none s u, (fits_of s l).some, (fits_of s l).size))
        | no n ↦ omega arith
      ]

  whole_is : (first (s ++ t)).0 < 1114112 → WholeHead s t (first (s ++ t)).0 ((first (s ++ t)).1 - length s)
  whole_is h =
      let w = (first (s ++ t)).1 in
      let f = fits_of (s ++ t) more in
      let g = reaches h in
      let z : length s + (w - length s) ≡ w = omega (arith, g) in
      let d : drop w (s ++ t) ≡ drop (w - length s) t = ap (λ (k : ℕ). drop k (s ++ t)) (sym z) ∙ drop-append-add s t (w - length s) in
      record {
        are = chars_first (s ++ t) more ∙ rw d;
        char = h;
        within = omega (arith, f.within, length-append s t);
        wide = omega (arith, f.size, g);
      }

  module _ {a b c : ℕ} (ea : a ≡ get_or (s ++ t) 0 0) (eb : b ≡ get_or (s ++ t) 1 0) (ec : c ≡ get_or (s ++ t) 2 0) where
    module _ {d : ℕ} (ed : d ≡ get_or (s ++ t) 3 0) {code wide : ℕ} (r : Reads (first (a ∷ b ∷ c ∷ d ∷ [])) code wide) where
      reads : Reads (first (s ++ t)) code wide
      reads = rw (four_say (s ++ t) more, ← ea, ← eb, ← ec, ← ed) r

      pub head_reaches : code < 1114112 → length s < wide
      head_reaches h = omega (arith, reaches (omega (arith, reads.code_is)), reads.wide_is)

      pub head_whole : code < 1114112 → {n : ℕ} → n ≡ length s → WholeHead s t code (wide - n)
      head_whole h e = rw (reads.code_is, reads.wide_is, e) (whole_is (omega (arith, reads.code_is)))

      pub head_none : 1114112 ≤ code → valid_up_to (s ++ t) ≡ 0
      head_none h = none_counts (s ++ t) more (omega (arith, reads.code_is))

    module _ {n many : ℕ} (en : n ≡ length s) (em : many ≡ n + length t) {r : Bool} (e : r ≡ begun many a b c) where
      length_is : many ≡ length (s ++ t)
      length_is = omega (arith, length-append s t)

      begun_is : r ≡ unfinished (s ++ t)
      begun_is = unfinished_text (s ++ t) (λ z. omega (arith, more)) ea eb ec (rw length_is at e)

      pub head_few : r ≡ true → many ≤ 3
      head_few h = omega (arith, length_is, unfinished_short (s ++ t) (sym begun_is ∙ h))

      pub head_short : r ≡ true → ShortHead s t (record { count = many; one = a; two = b; three = c })
      head_short h = record { short = sym begun_is ∙ h; same = pend_is (s ++ t) length_is ea eb ec }

      pub head_bad : r ≡ false → valid_up_to (s ++ t) ≡ 0 → BadHead s t
      head_bad h v = record { bad = sym begun_is ∙ h; none = v }

pub ruleset heads = (head_reaches, head_whole, head_none, head_few, head_short, head_bad)
