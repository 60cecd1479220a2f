-- Table 3-7 by the five kinds of first byte: what the table says of each is computed at every byte, once for each kind.
-- Assumes nothing.
use mathlib.Core.Path.{◌≡◌, refl, ap, sym, ◌∙◌}
use mathlib.Core.Bool.{Bool, true, false, ◌&&◌, ◌||◌, not}
use mathlib.Core.List.{List, [], ◌∷◌}
use mathlib.Core.Option.{Option, none, some}
use Prim.Native.Nat.{ℕ, zero, suc, ◌+◌, ◌*◌, ◌%◌, ◌≤◌, ◌<◌}
use native.Mathlib.Decide.{dec_le, ℕ_discrete}
use native.Mathlib.Omega.{arith}
use lib.Dec.{T, leb, eqb, lit≤, eqb→eq, leb→le}
use lib.ListN.{get_or}
use borrow.Author.Tests.{le-leb, lt-leb, leb-true}
use Rattle.lists.proofs.Bools.{and_false, and_true, both, both_T}
use Rattle.characters.specs.Ranges.{Range, ◌to◌, in_range}
use Rattle.characters.specs.Utf8.{Row, row, table, behind, begins, joined, follows, no_char, read_by, first}
use Rattle.characters.specs.Steps.{low, high, two, three, four}

-- ---- a test that antt computes at every number below n, and what it says of each
abbrev pub every : (ℕ → Bool) → ℕ → Bool
every f zero = true
every f (suc n) = f n && every f n

pub each : (f : ℕ → Bool) (n : ℕ) → T (every f n) → (k : ℕ) → k < n → T (f k)
each f zero t k h = absurd (omega arith)
each f (suc n) t k h =
    let p : T (f n) × T (every f n) = both_T (f n) (every f n) t in
    elim (ℕ_discrete k n) [ yes e ↦ rw e p.0 | no x ↦ each f n p.1 k (omega arith) ]

-- ---- what stands behind a first byte, against what is claimed
abbrev same_ranges : List Range → List Range → Bool
same_ranges [] [] = true
same_ranges [] (r ∷ m) = false
same_ranges (r ∷ l) [] = false
same_ranges (x to y ∷ l) (x' to y' ∷ m) = eqb x x' && (eqb y y' && same_ranges l m)

abbrev same_behind : Option (List Range) → Option (List Range) → Bool
same_behind none none = true
same_behind none (some m) = false
same_behind (some l) none = false
same_behind (some l) (some m) = same_ranges l m

ranges_same : (l m : List Range) → T (same_ranges l m) → l ≡ m
ranges_same [] [] t = refl
ranges_same [] (r ∷ m) t = absurd t
ranges_same (r ∷ l) [] t = absurd t
ranges_same (x to y ∷ l) (x' to y' ∷ m) t =
    let p : T (eqb x x') × T (eqb y y' && same_ranges l m) = both_T (eqb x x') (eqb y y' && same_ranges l m) t in
    let q : T (eqb y y') × T (same_ranges l m) = both_T (eqb y y') (same_ranges l m) p.1 in
    rw (eqb→eq x x' p.0, eqb→eq y y' q.0, ranges_same l m q.1)

behind_same : (l m : Option (List Range)) → T (same_behind l m) → l ≡ m
behind_same none none t = refl
behind_same none (some m) t = absurd t
behind_same (some l) none t = absurd t
behind_same (some l) (some m) t = ap some (ranges_same l m t)

abbrev rule : Range → (ℕ → Option (List Range)) → ℕ → Bool
rule r want a = not (in_range a r) || same_behind (behind a table) (want a)

by_rule : (lo hi : ℕ) (want : ℕ → Option (List Range)) → T (every (rule (lo to hi) want) 256) → (a : ℕ) → a < 256 → lo ≤ a → a ≤ hi → behind a table ≡ want a
by_rule lo hi want t a s g h =
    behind_same (behind a table) (want a) (simp (le-leb lo a g, le-leb a hi h) at (each (rule (lo to hi) want) 256 t a s))

-- past the last row there is none
abbrev under : ℕ → List Row → Bool
under p [] = true
under p (row (f to g) more ∷ t) = leb g p && under p t

none_behind : (p a : ℕ) (t : List Row) → T (under p t) → p < a → behind a t ≡ none
unfolding behind
none_behind p a [] u h = refl
none_behind p a (row (f to g) more ∷ t) u h =
    let q : T (leb g p) × T (under p t) = both_T (leb g p) (under p t) u in
    simp (lt-leb a g (omega (arith, leb→le g p q.0)), and_false, none_behind p a t q.1 h)

abbrev pub want_3 : ℕ → Option (List Range)
want_3 a = some (low a to high a ∷ 0x80 to 0xBF ∷ [])

abbrev pub want_4 : ℕ → Option (List Range)
want_4 a = some (low a to high a ∷ 0x80 to 0xBF ∷ 0x80 to 0xBF ∷ [])

module _ (a : ℕ) where
  pub behind_1 : a ≤ 0x7F → behind a table ≡ some []
  unfolding table behind
  behind_1 h = by_rule 0 0x7F (λ a. some []) tt a (omega arith) (omega arith) h

  pub behind_gap : 0x7F < a → a ≤ 0xC1 → behind a table ≡ none
  unfolding table behind
  behind_gap g h = by_rule 0x80 0xC1 (λ a. none) tt a (omega arith) g h

  pub behind_2 : 0xC1 < a → a ≤ 0xDF → behind a table ≡ some (0x80 to 0xBF ∷ [])
  unfolding table behind
  behind_2 g h = by_rule 0xC2 0xDF (λ a. some (0x80 to 0xBF ∷ [])) tt a (omega arith) g h

  pub behind_3 : 0xDF < a → a ≤ 0xEF → behind a table ≡ want_3 a
  unfolding table behind low high
  behind_3 g h = by_rule 0xE0 0xEF want_3 tt a (omega arith) g h

  pub behind_4 : 0xEF < a → a ≤ 0xF4 → behind a table ≡ want_4 a
  unfolding table behind low high
  behind_4 g h = by_rule 0xF0 0xF4 want_4 tt a (omega arith) g h

  pub behind_over : 0xF4 < a → behind a table ≡ none
  unfolding table
  behind_over g = none_behind 0xF4 a table tt g

-- ---- the second byte's bounds are within 80 and BF
low_least : (a : ℕ) (p q : Bool) → eqb a 0xE0 ≡ p → eqb a 0xF0 ≡ q → 0x80 ≤ low a
unfolding low
low_least a true q e f = rw e (lit≤ tt)
low_least a false true e f = rw (e, f) (lit≤ tt)
low_least a false false e f = rw (e, f) (lit≤ tt)

high_most : (a : ℕ) (p q : Bool) → eqb a 0xED ≡ p → eqb a 0xF4 ≡ q → high a ≤ 0xBF
unfolding high
high_most a true q e f = rw e (lit≤ tt)
high_most a false true e f = rw (e, f) (lit≤ tt)
high_most a false false e f = rw (e, f) (lit≤ tt)

pub low_ge : (a : ℕ) → 0x80 ≤ low a
low_ge a = low_least a (eqb a 0xE0) (eqb a 0xF0) refl refl

pub high_le : (a : ℕ) → high a ≤ 0xBF
high_le a = high_most a (eqb a 0xED) (eqb a 0xF4) refl refl

-- ---- the first character by its first byte; past the end a byte counts as 0
past_low : (a : ℕ) → leb (low a) 0 ≡ false
past_low a = lt-leb (low a) 0 (omega (arith, low_ge a))

module _ (a : ℕ) where
  pub first_1 : (s : List ℕ) → a ≤ 0x7F → first (a ∷ s) ≡ (a, 1)
  unfolding first read_by begins joined
  first_1 s h =
      let e : a % 128 ≡ a = omega arith in
      rw (behind_1 a h, e)

  pub first_gap : (s : List ℕ) → 0x7F < a → a ≤ 0xC1 → first (a ∷ s) ≡ (no_char a, 1)
  unfolding first read_by
  first_gap s g h = rw (behind_gap a g h)

  pub first_over : (s : List ℕ) → 0xF4 < a → first (a ∷ s) ≡ (no_char a, 1)
  unfolding first read_by
  first_over s g = rw (behind_over a g)

  read_2 : (s : List ℕ) → read_by (some (0x80 to 0xBF ∷ [])) a s ≡ two a (get_or s 0 0)
  unfolding read_by begins joined two
  read_2 [] = refl
  read_2 (b ∷ s) = simp and_true

  pub first_2 : (s : List ℕ) → 0xC1 < a → a ≤ 0xDF → first (a ∷ s) ≡ two a (get_or s 0 0)
  unfolding first
  first_2 s g h = rw (behind_2 a g h) (read_2 s)

  read_3 : (s : List ℕ) → read_by (want_3 a) a s ≡ three a (get_or s 0 0) (get_or s 1 0)
  unfolding read_by begins joined three
  read_3 [] = simp (past_low a)
  read_3 (b ∷ []) = simp and_false
  read_3 (b ∷ c ∷ s) = simp and_true

  pub first_3 : (s : List ℕ) → 0xDF < a → a ≤ 0xEF → first (a ∷ s) ≡ three a (get_or s 0 0) (get_or s 1 0)
  unfolding first
  first_3 s g h = rw (behind_3 a g h) (read_3 s)

  read_4 : (s : List ℕ) → read_by (want_4 a) a s ≡ four a (get_or s 0 0) (get_or s 1 0) (get_or s 2 0)
  unfolding read_by begins joined four
  read_4 [] = simp (past_low a)
  read_4 (b ∷ []) = simp and_false
  read_4 (b ∷ c ∷ []) = simp and_false
  read_4 (b ∷ c ∷ d ∷ s) = simp and_true

  pub first_4 : (s : List ℕ) → 0xEF < a → a ≤ 0xF4 → first (a ∷ s) ≡ four a (get_or s 0 0) (get_or s 1 0) (get_or s 2 0)
  unfolding first
  first_4 s g h = rw (behind_4 a g h) (read_4 s)

-- four bytes say it
pub first_four : (a : ℕ) (s : List ℕ) → first (a ∷ s) ≡ first (a ∷ get_or s 0 0 ∷ get_or s 1 0 ∷ get_or s 2 0 ∷ [])
first_four a s =
    let t = get_or s 0 0 ∷ get_or s 1 0 ∷ get_or s 2 0 ∷ [] in
    elim (dec_le a 0x7F) [
      | yes h ↦ first_1 a s h ∙ sym (first_1 a t h)
      | no n₁ ↦ elim (dec_le a 0xC1) [
        | yes h ↦ first_gap a s (omega arith) h ∙ sym (first_gap a t (omega arith) h)
        | no n₂ ↦ elim (dec_le a 0xDF) [
          | yes h ↦ first_2 a s (omega arith) h ∙ sym (first_2 a t (omega arith) h)
          | no n₃ ↦ elim (dec_le a 0xEF) [
            | yes h ↦ first_3 a s (omega arith) h ∙ sym (first_3 a t (omega arith) h)
            | no n₄ ↦ elim (dec_le a 0xF4) [
              | yes h ↦ first_4 a s (omega arith) h ∙ sym (first_4 a t (omega arith) h)
              | no n₅ ↦ first_over a s (omega arith) ∙ sym (first_over a t (omega arith))
            ]
          ]
        ]
      ]
    ]

-- ---- what the bytes of a character are
-- b lies in a range
pub record In (lo hi b : ℕ) : Type 0 where
  pub over : lo ≤ b
  pub under : b ≤ hi

pub in_range_lem : (lo hi b : ℕ) → in_range b (lo to hi) ≡ true → In lo hi b
in_range_lem lo hi b e =
    let h = both (leb lo b) (leb b hi) e in
    record { over = leb-true lo b h.0; under = leb-true b hi h.1 }

pub is_in : {lo hi b : ℕ} → In lo hi b → in_range b (lo to hi) ≡ true
is_in {lo} {hi} {b} i = simp (le-leb lo b i.over, le-leb b hi i.under)

-- the character that a ∷ s begins with, by how many bytes it takes, or none
pub data Seen (a : ℕ) (s : List ℕ) : ℕ → ℕ → Type 0 where
  seen_1 : a ≤ 0x7F → Seen a s a 1
  seen_2 : In 0xC2 0xDF a → In 0x80 0xBF (get_or s 0 0) → Seen a s (a % 32 * 64 + get_or s 0 0 % 64) 2
  seen_3 : In 0xE0 0xEF a → In (low a) (high a) (get_or s 0 0) → In 0x80 0xBF (get_or s 1 0)
      → Seen a s ((a % 16 * 64 + get_or s 0 0 % 64) * 64 + get_or s 1 0 % 64) 3
  seen_4 : In 0xF0 0xF4 a → In (low a) (high a) (get_or s 0 0) → In 0x80 0xBF (get_or s 1 0) → In 0x80 0xBF (get_or s 2 0)
      → Seen a s (((a % 8 * 64 + get_or s 0 0 % 64) * 64 + get_or s 1 0 % 64) * 64 + get_or s 2 0 % 64) 4
  seen_none : 0x7F < a → Seen a s (no_char a) 1

abbrev SeenAs : (a : ℕ) (s : List ℕ) → ℕ × ℕ → Type 0
SeenAs a s r = Seen a s r.0 r.1

module _ (a : ℕ) (s : List ℕ) where
  see_2 : (t : Bool) → follows (get_or s 0 0) ≡ t → In 0xC2 0xDF a → SeenAs a s (two a (get_or s 0 0))
  unfolding two
  see_2 true e i = rw e (seen_2 i (in_range_lem 0x80 0xBF (get_or s 0 0) e))
  see_2 false e i = rw e (seen_none (omega arith))

  see_3 : (t u : Bool) → in_range (get_or s 0 0) (low a to high a) ≡ t → follows (get_or s 1 0) ≡ u → In 0xE0 0xEF a → SeenAs a s (three a (get_or s 0 0) (get_or s 1 0))
  unfolding three
  see_3 true true e f i = rw (e, f) (seen_3 i (in_range_lem (low a) (high a) (get_or s 0 0) e) (in_range_lem 0x80 0xBF (get_or s 1 0) f))
  see_3 true false e f i = rw (e, f) (seen_none (omega arith))
  see_3 false u e f i = rw e (seen_none (omega arith))

  see_4 : (t u v : Bool) → in_range (get_or s 0 0) (low a to high a) ≡ t → follows (get_or s 1 0) ≡ u → follows (get_or s 2 0) ≡ v → In 0xF0 0xF4 a → SeenAs a s (four a (get_or s 0 0) (get_or s 1 0) (get_or s 2 0))
  unfolding four
  see_4 true true true e f g i =
      rw (e, f, g)
      (seen_4 i (in_range_lem (low a) (high a) (get_or s 0 0) e) (in_range_lem 0x80 0xBF (get_or s 1 0) f) (in_range_lem 0x80 0xBF (get_or s 2 0) g))
  see_4 true true false e f g i = rw (e, f, g) (seen_none (omega arith))
  see_4 true false v e f g i = rw (e, f) (seen_none (omega arith))
  see_4 false u v e f g i = rw e (seen_none (omega arith))

  pub seen : SeenAs a s (first (a ∷ s))
  seen =
      elim (dec_le a 0x7F) [
        | yes h ↦ rw (first_1 a s h) (seen_1 h)
        | no n₁ ↦ elim (dec_le a 0xC1) [
          | yes h ↦ rw (first_gap a s (omega arith) h) (seen_none (omega arith))
          | no n₂ ↦ elim (dec_le a 0xDF) [
            | yes h ↦ rw (first_2 a s (omega arith) h) (see_2 (follows (get_or s 0 0)) refl (record { over = omega arith; under = h }))
            | no n₃ ↦ elim (dec_le a 0xEF) [
              | yes h ↦ rw (first_3 a s (omega arith) h)
                  (see_3 (in_range (get_or s 0 0) (low a to high a)) (follows (get_or s 1 0)) refl refl (record { over = omega arith; under = h }))
              | no n₄ ↦ elim (dec_le a 0xF4) [
                | yes h ↦ rw (first_4 a s (omega arith) h)
                    (see_4 (in_range (get_or s 0 0) (low a to high a)) (follows (get_or s 1 0)) (follows (get_or s 2 0)) refl refl refl (record { over = omega arith; under = h }))
                | no n₅ ↦ rw (first_over a s (omega arith)) (seen_none (omega arith))
              ]
            ]
          ]
        ]
      ]
