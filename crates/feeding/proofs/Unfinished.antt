-- UNFINISHED, EXACTLY: what is behind the whole characters of a text could still become a character exactly where some bytes behind the text make all of it
-- well-formed; it is no character yet, and has three bytes at most.
-- Assumes nothing.
use Prim.Native.Nat.{ℕ, suc, ◌+◌, ◌≤◌, ◌<◌}
use native.Mathlib.Decide.{dec_lt}
use native.Mathlib.Omega.{arith}
use mathlib.Core.Path.{◌≡◌, refl, ap, sym, ◌∙◌}
use mathlib.Core.Logic.{◌↔◌}
use mathlib.Core.Bool.{Bool, true, false, ◌&&◌, false≢true}
use mathlib.Core.List.{List, [], ◌∷◌, ◌++◌, append-nil}
use mathlib.Core.Option.{Option, none, some}
use lib.Dec.{leb, ltb}
use lib.ListN.{length, take, drop, length-append, length-drop, take-append-drop}
use lib.Seq.{take-append-le}
use borrow.Author.Tests.{lt-ltb, ltb-true, leb-true}
use Rattle.lists.proofs.Bools.{by_test, both, and_false}
use Rattle.characters.specs.Ranges.{Range, ◌to◌, in_range}
use Rattle.characters.specs.Utf8.{Row, row, table, behind, begins, read_by, first, is_char, bytes_before, valid_up_to, WellFormed}
use Rattle.characters.specs.Unfinished.{unfinished, goes_with}
use Rattle.characters.proofs.Rows.{Seen, seen_1, seen_2, seen_3, seen_4, seen_none, seen, is_in}
use Rattle.characters.proofs.First.{fine, own_bytes_lem, under_4}
use Rattle.characters.proofs.Text.{chars_first}
use Rattle.characters.proofs.Valid.{valid_nil, valid_within}
use Rattle.feeding.specs.Begun.{beyond}
use Rattle.feeding.proofs.Begun.{good_is}

-- a text that some bytes put behind it make well-formed
pub record Completed (s : List ℕ) : Type 0 where
  pub rest : List ℕ
  pub good : WellFormed (s ++ rest)

-- ---- no range of the table is empty, and no row has more than three behind the first byte
abbrev filled : List Range → Bool
filled [] = true
filled (lo to hi ∷ more) = leb lo hi && filled more

abbrev rows : List Row → Bool
rows [] = true
rows (row f more ∷ t) = (leb (length more) 3 && filled more) && rows t

from_rows : (a : ℕ) (t : List Row) (more : List Range) → rows t ≡ true → behind a t ≡ some more → (leb (length more) 3 && filled more) ≡ true
unfolding behind
from_rows a [] more h e = let z : ◌≡◌ {A = ℕ} 0 1 = cc in absurd (omega arith)
from_rows a (row f m ∷ t) more h e =
    let p = both (leb (length m) 3 && filled m) (rows t) h in
    by_test (in_range a f)
    (λ i. let q : some m ≡ some more = rw i at e in let k : m ≡ more = cc in rw k at p.0)
    (λ i. from_rows a t more p.1 (rw i at e))

table_filled : (a : ℕ) (more : List Range) → behind a table ≡ some more → (length more ≤ 3) × (filled more ≡ true)
unfolding table
table_filled a more e = let p = both (leb (length more) 3) (filled more) (from_rows a table more refl e) in (leb-true (length more) 3 p.0, p.1)

-- ---- whether anything is well-formed is said by the first character
module _ (a : ℕ) (t : List ℕ) where
  abbrev x : ℕ
  x = (first (a ∷ t)).0

  abbrev w : ℕ
  w = (first (a ∷ t)).1

  char_first : 0 < valid_up_to (a ∷ t) → x < 1114112
  unfolding valid_up_to bytes_before
  char_first h =
      by_test (is_char x) (λ e. ltb-true x 1114112 e) (λ e. absurd (omega (arith, rw (chars_first (a ∷ t) (omega arith), e) at h)))

  good_first : x < 1114112 → valid_up_to (a ∷ t) ≡ w + valid_up_to (drop w (a ∷ t))
  unfolding valid_up_to bytes_before
  good_first h = rw (chars_first (a ∷ t) (omega arith), lt-ltb x 1114112 h, (fine a t).size)

from_seen : {a : ℕ} {s : List ℕ} {x w : ℕ} → Seen a s x w → 2 ≤ w → x < 1114112
from_seen (seen_1 h) l = absurd (omega arith)
from_seen (seen_2 i j) l = omega arith
from_seen (seen_3 i j k) l = omega arith
from_seen {a} {s} (seen_4 i j k m) l = under_4 a _ _ _ i j k m
from_seen (seen_none h) l = absurd (omega arith)

-- ---- filling a row up with the lowest bytes of its ranges
begins_front : (more : List Range) (s z : List ℕ) → begins more (s ++ z) ≡ true → begins (take (length s) more) s ≡ true
unfolding begins
begins_front [] [] z h = refl
begins_front [] (b ∷ s) z h = refl
begins_front (r ∷ more) [] z h = refl
begins_front (r ∷ more) (b ∷ s) z h =
    let p = both (in_range b r) (begins more (s ++ z)) h in
    rw p.0 (begins_front more s z p.1)

abbrev lows : List Range → List ℕ
lows [] = []
lows (lo to hi ∷ more) = lo ∷ lows more

begins_lows : (more : List Range) → filled more ≡ true → begins more (lows more) ≡ true
unfolding begins
begins_lows [] h = refl
begins_lows (lo to hi ∷ more) h =
    let p = both (leb lo hi) (filled more) h in
    let i : in_range lo (lo to hi) ≡ true = is_in {lo = lo} {hi = hi} {b = lo} (record { over = omega arith; under = leb-true lo hi p.0 }) in
    rw i (begins_lows more p.1)

begins_filled : (more : List Range) (s : List ℕ) → filled more ≡ true → length s ≤ length more → begins (take (length s) more) s ≡ true → begins more (s ++ lows (drop (length s) more)) ≡ true
unfolding begins
begins_filled [] [] f l h = refl
begins_filled [] (b ∷ s) f l h = absurd (omega arith)
begins_filled (r ∷ more) [] f l h = begins_lows (r ∷ more) f
begins_filled (lo to hi ∷ more) (b ∷ s) f l h =
    let p = both (in_range b (lo to hi)) (begins (take (length s) more) s) h in
    rw p.0 (begins_filled more s (both (leb lo hi) (filled more) f).1 (omega arith) p.1)

lows_long : (more : List Range) → length (lows more) ≡ length more
lows_long [] = refl
lows_long (lo to hi ∷ more) = ap suc (lows_long more)

-- ---- a first byte and some behind it that are no character yet
module _ (a : ℕ) (s : List ℕ) where
  read_begins : (more : List Range) (t : List ℕ) → behind a table ≡ some more → begins more t ≡ true → (first (a ∷ t)).1 ≡ suc (length more)
  unfolding first read_by
  read_begins more t e h = rw (e, h)

  none_first : (t : List ℕ) → behind a table ≡ none → 1114112 ≤ (first (a ∷ t)).0
  unfolding first read_by
  none_first t e = rw e (omega arith)

  no_begins : (more : List Range) (t : List ℕ) → behind a table ≡ some more → begins more t ≡ false → 1114112 ≤ (first (a ∷ t)).0
  unfolding first read_by
  no_begins more t e h = rw (e, h) (omega arith)

  -- filled up they are one
  goes_on : (more : List Range) → behind a table ≡ some more → goes_with (some more) s ≡ true → Completed (a ∷ s)
  unfolding goes_with
  goes_on more e h =
      let p = both (ltb (length s) (length more)) (begins (take (length s) more) s) h in
      let l : length s < length more = ltb-true (length s) (length more) p.0 in
      let z = lows (drop (length s) more) in
      let t = s ++ z in
      let b : begins more t ≡ true = begins_filled more s (table_filled a more e).1 (omega arith) p.1 in
      let v = read_begins more t e b in
      let n : length t ≡ length more = omega (arith, length-append s z, lows_long (drop (length s) more), length-drop (length s) more) in
      let c = from_seen (seen a t) (omega (arith, v)) in
      record { rest = z; good = good_first a t c ∙ omega (arith, v, n, valid_within (drop (first (a ∷ t)).1 (a ∷ t)), length-drop (first (a ∷ t)).1 (a ∷ t)) }

  -- and where anything makes them well-formed, none of them is wrong
  could_go : (z : List ℕ) → valid_up_to (a ∷ s) ≡ 0 → WellFormed (a ∷ (s ++ z)) → (o : Option (List Range)) → behind a table ≡ o → goes_with o s ≡ true
  unfolding goes_with
  could_go z n g none e = absurd (omega (arith, char_first a (s ++ z) (omega (arith, g)), none_first (s ++ z) e))
  could_go z n g (some more) e =
      let t = s ++ z in
      let c : (first (a ∷ t)).0 < 1114112 = char_first a t (omega (arith, g)) in
      by_test (begins more t)
      (λ b.
      let v = read_begins more t e b in
      elim (dec_lt (length s) (length more)) [
        | yes l ↦ rw (lt-ltb (length s) (length more) l) (begins_front more s z b)
        | no m ↦
            let x = (first (a ∷ t)).0 in
            let w = (first (a ∷ t)).1 in
            let f : take w (a ∷ t) ≡ take w (a ∷ s) = take-append-le w (a ∷ s) z (omega (arith, v)) in
            let k : first (a ∷ s) ≡ (x, w) = ap first (sym (ap (λ (y : List ℕ). y ++ drop w (a ∷ s)) f ∙ take-append-drop w (a ∷ s))) ∙ own_bytes_lem a t (drop w (a ∷ s)) x w refl c in
            absurd (omega (arith, good_first a s (omega (arith, ap (λ (y : ℕ × ℕ). y.0) k)), ap (λ (y : ℕ × ℕ). y.1) k, v))
      ])
      (λ b. absurd (omega (arith, no_begins more t e b)))

-- ---- behind the whole characters of a text nothing is one
nothing_counts : (s : List ℕ) → valid_up_to (beyond s) ≡ 0
nothing_counts s =
    let e : beyond s ++ [] ≡ beyond s = append-nil (beyond s) in
    let f : s ++ [] ≡ s = append-nil s in
    let g : valid_up_to s ≡ valid_up_to s + valid_up_to (beyond s) = ap valid_up_to (sym f) ∙ good_is s [] ∙ ap (λ (y : List ℕ). valid_up_to s + valid_up_to y) e in
    omega (arith, g)

never : (s : List ℕ) → goes_with none s ≡ true → ⊥
unfolding goes_with
never s h = false≢true h

completed_by : (b : List ℕ) → valid_up_to b ≡ 0 → (unfinished b ≡ true) ↔ Completed b
unfolding unfinished
completed_by [] n = ((λ h. record { rest = []; good = n }), (λ c. refl))
completed_by (a ∷ s) n = (by (behind a table) refl, λ c. could_go a s c.rest n c.good (behind a table) refl)
  where
    by : (o : Option (List Range)) → behind a table ≡ o → goes_with (behind a table) s ≡ true → Completed (a ∷ s)
    by none e h = absurd (never s (rw e at h))
    by (some more) e h = goes_on a s more e (rw e at h)

-- ---- three bytes at most
few : (s : List ℕ) (more : List Range) → goes_with (some more) s ≡ true → length s < length more
unfolding goes_with
few s more h = ltb-true (length s) (length more) (both (ltb (length s) (length more)) (begins (take (length s) more) s) h).0

pub unfinished_short : (b : List ℕ) → unfinished b ≡ true → length b ≤ 3
unfolding unfinished
unfinished_short [] h = omega arith
unfinished_short (a ∷ s) h = by (behind a table) refl
  where
    by : (o : Option (List Range)) → behind a table ≡ o → length (a ∷ s) ≤ 3
    by none e = absurd (never s (rw e at h))
    by (some more) e = omega (arith, (table_filled a more e).0, few s more (rw e at h))

-- ---- it is no character yet
begins_short : (more : List Range) (s : List ℕ) → length s < length more → begins more s ≡ false
unfolding begins
begins_short [] s h = absurd (omega arith)
begins_short (r ∷ more) [] h = refl
begins_short (r ∷ more) (b ∷ s) h = rw (begins_short more s (omega arith), and_false)

pub unfinished_none : (b : List ℕ) → unfinished b ≡ true → valid_up_to b ≡ 0
unfolding unfinished
unfinished_none [] h = valid_nil
unfinished_none (a ∷ s) h = by (behind a table) refl
  where
    by : (o : Option (List Range)) → behind a table ≡ o → valid_up_to (a ∷ s) ≡ 0
    by none e = absurd (never s (rw e at h))
    by (some more) e =
        let l = no_begins a s more s e (begins_short more s (few s more (rw e at h))) in
        elim (dec_lt 0 (valid_up_to (a ∷ s))) [ yes g ↦ absurd (omega (arith, char_first a s g)) | no g ↦ omega arith ]

-- ---- and exactly what could go on
pub unfinished_exactly : (s : List ℕ) → (unfinished (beyond s) ≡ true) ↔ Completed s
unfinished_exactly s =
    let c = completed_by (beyond s) (nothing_counts s) in
    let n : (z : List ℕ) → length (s ++ z) ≡ valid_up_to s + length (beyond s ++ z) = λ z. omega (arith, length-append s z, length-append (beyond s) z, length-drop (valid_up_to s) s, valid_within s) in (
      (λ h. let d = c.0 h in record { rest = d.rest; good = good_is s d.rest ∙ omega (arith, d.good, n d.rest) }),
      (λ d. c.1 (record { rest = d.rest; good = omega (arith, d.good, good_is s d.rest, n d.rest) })),
    )
