-- The tables: one test, `rises`, computed once over each whole table, says that it is sorted and its ranges disjoint, and a lemma carries
-- it to each entry. So the search in it is membership, ASCII can be decided first, and only scalar values are in it: one law for every table.
-- Assumes nothing.
use mathlib.Core.Path.{◌≡◌, refl, sym, ap, subst, ◌∙◌}
use mathlib.Core.Bool.{Bool, true, false, ◌&&◌, ◌||◌, false≢true}
use mathlib.Core.List.{List, [], ◌∷◌, ◌++◌}
use Prim.Native.Nat.{ℕ, zero, suc, ◌+◌, ◌*◌, ◌≤◌, ◌<◌}
use native.Mathlib.Nat.{le_refl}
use native.Mathlib.Omega.{arith}
use lib.Dec.{T, leb, ltb, leb→le}
use lib.ListN.{length, get_or}
use borrow.Author.Tests.{lt-leb, leb-true, ltb-true}
use Rattle.lists.proofs.Bools.{by_test, both_T}
use Rattle.characters.specs.Utf8.{is_scalar}
use Rattle.characters.specs.Ranges.{Range, ◌to◌, in_table, flat}
use Rattle.ucd.specs.Ucd.{xid_start, xid_continue, emoji, white_space}
use Rattle.ucd.specs.Order.{Sorted, rises, InOrder, starts, AsciiFirst, start_first, continue_first, emoji_first, space_first}
use Rattle.ucd.specs.Properties.{is_xid_start, is_xid_continue, is_emoji, is_white_space, ascii_start, ascii_continue, ascii_emoji, ascii_space, tested_in}
use Rattle.characters.proofs.First.{scalar_low, scalar_high}
use Rattle.ucd.proofs.Search.{searched_is, even, odd}

parts : (a b c : Bool) → T (a && (b && c)) → T a × T b × T c
parts true true c t = (tt, tt, t)
parts true false c t = absurd t
parts false b c t = absurd t

-- what it says of a table's first range
record First (p lo hi : ℕ) (t : List Range) : Type 0 where
  from : p ≤ lo
  ends : lo ≤ hi
  rest : T (rises (suc hi) t)

first_of : (p lo hi : ℕ) (t : List Range) → T (rises p (lo to hi ∷ t)) → First p lo hi t
first_of p lo hi t r =
    let h : T (leb p lo) × T (leb lo hi) × T (rises (suc hi) t) = parts (leb p lo) (leb lo hi) (rises (suc hi) t) r in
    record { from = leb→le p lo h.0; ends = leb→le lo hi h.1; rest = h.2 }

-- ---- carried to each entry
-- every end is at or after the bound
over : (p : ℕ) (t : List Range) → T (rises p t) → (j : ℕ) → j < length (flat t) → p ≤ get_or (flat t) j 0
over p [] r j l = absurd (omega arith)
over p (x to y ∷ t) r zero l = (first_of p x y t r).from
over p (x to y ∷ t) r (suc zero) l = let f = first_of p x y t r in omega arith
over p (x to y ∷ t) r (suc (suc j)) l =
    let f = first_of p x y t r in omega (arith, over (suc y) t f.rest j (omega arith))

-- sorted: no end is above a later one
sorted_from : (p : ℕ) (t : List Range) → T (rises p t) → Sorted (flat t)
unfolding Sorted
sorted_from p [] r i j h l = absurd (omega arith)
sorted_from p (x to y ∷ t) r zero zero h l = le_refl x
sorted_from p (x to y ∷ t) r zero (suc zero) h l = (first_of p x y t r).ends
sorted_from p (x to y ∷ t) r zero (suc (suc j)) h l =
    let f = first_of p x y t r in omega (arith, over (suc y) t f.rest j (omega arith))
sorted_from p (x to y ∷ t) r (suc zero) zero h l = absurd (omega arith)
sorted_from p (x to y ∷ t) r (suc zero) (suc zero) h l = le_refl y
sorted_from p (x to y ∷ t) r (suc zero) (suc (suc j)) h l =
    let f = first_of p x y t r in omega (arith, over (suc y) t f.rest j (omega arith))
sorted_from p (x to y ∷ t) r (suc (suc i)) zero h l = absurd (omega arith)
sorted_from p (x to y ∷ t) r (suc (suc i)) (suc zero) h l = absurd (omega arith)
sorted_from p (x to y ∷ t) r (suc (suc i)) (suc (suc j)) h l = sorted_from (suc y) t (first_of p x y t r).rest i j (omega arith) (omega arith)

-- disjoint: each range ends before a later one begins
apart : (p : ℕ) (t : List Range) → T (rises p t) → (i j : ℕ) → i < j → 2 * j < length (flat t) → get_or (flat t) (2 * i + 1) 0 < get_or (flat t) (2 * j) 0
apart p [] r i j h l = absurd (omega arith)
apart p (x to y ∷ t) r i zero h l = absurd (omega arith)
apart p (x to y ∷ t) r zero (suc j) h l =
    rw (even j) (over (suc y) t (first_of p x y t r).rest (2 * j) (omega arith))
apart p (x to y ∷ t) r (suc i) (suc j) h l =
    rw (odd i, even j) (apart (suc y) t (first_of p x y t r).rest i j (omega arith) (omega arith))

-- ---- ASCII first: below p a table is its first part, where its second rises from p on
none_below : (p c : ℕ) (t : List Range) → T (rises p t) → c < p → in_table c t ≡ false
unfolding in_table
none_below p c [] r h = refl
none_below p c (x to y ∷ t) r h =
    let f = first_of p x y t r in
    simp (lt-leb x c (omega arith), none_below (suc y) c t f.rest (omega arith))

only_first : (p c : ℕ) (s t : List Range) → T (rises p t) → c < p → in_table c (s ++ t) ≡ in_table c s
unfolding in_table
only_first p c [] t r h = none_below p c t r h
only_first p c (x ∷ s) t r h = rw (only_first p c s t r h)

raised : (q p : ℕ) (t : List Range) → T (rises q t) → T (starts p t) → T (rises p t)
raised q p [] r b = tt
raised q p (x to y ∷ t) r b =
    let h = parts (leb q x) (leb x y) (rises (suc y) t) r in
    join (leb p x) (leb x y) (rises (suc y) t) b h.1 h.2
  where
    join : (a b c : Bool) → T a → T b → T c → T (a && (b && c))
    join true true c p q r = r
    join true false c p q r = q
    join false b c p q r = p

second_rises : (q p : ℕ) (s t : List Range) → T (rises q (s ++ t)) → T (starts p t) → T (rises p t)
second_rises q p [] t r b = raised q p t r b
second_rises q p (x to y ∷ s) t r b = second_rises (suc y) p s t (first_of q x y (s ++ t) r).rest b

-- ---- what the test says of a table, and so of each entry
in_order : (t : List Range) → T (rises 0 t) → InOrder t
in_order t r = record { rise = r; sorted = sorted_from 0 t r; disjoint = apart 0 t r }

-- in a table in order that begins with its ASCII, the test over the lent list is membership
pub tested_is : (ascii table : List Range) → AsciiFirst ascii table → (c : ℕ) → tested_in ascii (flat table) c ≡ in_table c table
unfolding tested_in
tested_is ascii table a c =
    by_test (ltb c 0x80)
    (λ h. rw h (sym (ap (in_table c) a.whole ∙ only_first 0x80 c ascii a.rest (second_rises 0 0x80 ascii a.rest (subst (λ t. T (rises 0 t)) a.whole a.rise) a.behind) (ltb-true c 0x80 h))))
    (λ h. rw h (searched_is table c (in_order table a.rise).sorted))

-- ---- only scalar values are in a table whose ranges hold no other number
abbrev pub scalars : List Range → Bool
scalars [] = true
scalars (lo to hi ∷ t) = (ltb hi 0xD800 || (leb 0xE000 lo && leb hi 0x10FFFF)) && scalars t

-- c in a range of scalar values is one
range_scalar : (lo hi c : ℕ) (p q r : Bool) → ltb hi 0xD800 ≡ p → leb 0xE000 lo ≡ q → leb hi 0x10FFFF ≡ r → T (p || (q && r)) → lo ≤ c → c ≤ hi → is_scalar c ≡ true
range_scalar lo hi c true q r e f g t h k = scalar_low c (omega (arith, ltb-true hi 0xD800 e))
range_scalar lo hi c false true true e f g t h k = scalar_high c (omega (arith, leb-true 0xE000 lo f)) (omega (arith, leb-true hi 0x10FFFF g))
range_scalar lo hi c false true false e f g t h k = absurd t
range_scalar lo hi c false false r e f g t h k = absurd t

pub scalar_in : (t : List Range) → T (scalars t) → (c : ℕ) → in_table c t ≡ true → is_scalar c ≡ true
unfolding in_table
scalar_in [] s c h = absurd (false≢true h)
scalar_in (lo to hi ∷ t) s c h =
    let p = both_T (ltb hi 0xD800 || (leb 0xE000 lo && leb hi 0x10FFFF)) (scalars t) s in
    by_test (leb lo c)
    (λ a. by_test (leb c hi)
    (λ b. range_scalar lo hi c (ltb hi 0xD800) (leb 0xE000 lo) (leb hi 0x10FFFF) refl refl refl p.0 (leb-true lo c a) (leb-true c hi b))
    (λ b. scalar_in t p.1 c (rw (a, b) at h)))
    (λ a. scalar_in t p.1 c (rw a at h))

-- ---- the four tables: the test is computed once over each
pub start_in_order : InOrder xid_start
start_in_order = in_order xid_start start_first.rise

pub continue_in_order : InOrder xid_continue
continue_in_order = in_order xid_continue continue_first.rise

pub emoji_in_order : InOrder emoji
emoji_in_order = in_order emoji emoji_first.rise

pub space_in_order : InOrder white_space
space_in_order = in_order white_space space_first.rise

module _ (c : ℕ) where
  pub start_is : tested_in ascii_start (flat xid_start) c ≡ is_xid_start c
  start_is = tested_is ascii_start xid_start start_first c

  pub continue_is : tested_in ascii_continue (flat xid_continue) c ≡ is_xid_continue c
  continue_is = tested_is ascii_continue xid_continue continue_first c

  pub emoji_is : tested_in ascii_emoji (flat emoji) c ≡ is_emoji c
  emoji_is = tested_is ascii_emoji emoji emoji_first c

  pub space_is : tested_in ascii_space (flat white_space) c ≡ is_white_space c
  space_is = tested_is ascii_space white_space space_first c

  -- and a number that is no scalar value is in none of them
  pub start_scalar : is_xid_start c ≡ true → is_scalar c ≡ true
  unfolding xid_start
  start_scalar = scalar_in xid_start tt c

  pub continue_scalar : is_xid_continue c ≡ true → is_scalar c ≡ true
  unfolding xid_continue
  continue_scalar = scalar_in xid_continue tt c

  pub emoji_scalar : is_emoji c ≡ true → is_scalar c ≡ true
  unfolding emoji
  emoji_scalar = scalar_in emoji tt c

  pub space_scalar : is_white_space c ≡ true → is_scalar c ≡ true
  unfolding white_space
  space_scalar = scalar_in white_space tt c
