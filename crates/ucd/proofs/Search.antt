-- The binary search: each step of it, for every list; and on a list that rises, that it is membership, for every table at once.
-- Assumes nothing.
use mathlib.Core.Path.{◌≡◌, refl, sym, ◌∙◌}
use mathlib.Core.Bool.{Bool, true, false, ◌&&◌, ◌||◌}
use mathlib.Core.List.{List, [], ◌∷◌}
use Prim.Native.Nat.{ℕ, zero, suc, ◌+◌, ◌-◌, ◌*◌, ◌/◌, ◌^◌, ◌≤◌, ◌<◌}
use native.Mathlib.Decide.{dec_lt, ℕ_discrete}
use native.Mathlib.Omega.{arith}
use lib.Dec.{leb, ltb}
use lib.ListN.{length, get_or}
use borrow.Author.Tests.{le-leb, lt-leb, leb-true, leb-false, ltb-true, eq-eqb, ne_eqb}
use Rattle.lists.proofs.Bools.{by_test, on_cond, or_true}
use Rattle.characters.specs.Ranges.{Range, ◌to◌, in_range, in_table, flat}
use Rattle.ucd.specs.Search.{later, narrowed, among, found, searched}
use Rattle.ucd.specs.Order.{Sorted}

-- ---- the steps
module _ (t : List ℕ) (c : ℕ) where
  pub later_up : (base half : ℕ) → get_or t (2 * (base + half)) 0 ≤ c → base + half ≡ later t c base half
  later_up base half h = rw (le-leb (get_or t (2 * (base + half)) 0) c h)

  pub later_stay : (base half : ℕ) → c < get_or t (2 * (base + half)) 0 → base ≡ later t c base half
  later_stay base half h = rw (lt-leb (get_or t (2 * (base + half)) 0) c h)

  later_most : (base half : ℕ) → later t c base half ≤ base + half
  later_most base half = on_cond (λ (n : ℕ). n ≤ base + half) (leb (get_or t (2 * (base + half)) 0) c) (omega arith) (omega arith)

  -- of one range none is left out
  one : (n base : ℕ) → narrowed n t c base 1 ≡ base
  unfolding narrowed
  one zero base = refl
  one (suc n) base =
      let z : base + 0 ≡ base = omega arith in
      let e : later t c base 0 ≡ base = rw z (on_cond (λ (m : ℕ). m ≡ base) (leb (get_or t (2 * base) 0) c) refl refl) in
      rw e (one n base)

  -- steps to spare change nothing
  enough : (n m base size : ℕ) → 1 ≤ size → size ≤ n → size ≤ m → narrowed n t c base size ≡ narrowed m t c base size
  unfolding narrowed
  enough zero m base size s h k = absurd (omega arith)
  enough (suc n) zero base size s h k = absurd (omega arith)
  enough (suc n) (suc m) base size s h k =
      elim (dec_lt 1 size) [
        | yes p ↦ enough n m (later t c base (size / 2)) (size - size / 2) (omega arith) (omega arith) (omega arith)
        | no p ↦ let e : size ≡ 1 = omega arith in rw e (one (suc n) base ∙ sym (one (suc m) base))
      ]

  step : (base size : ℕ) → 1 ≤ size → narrowed (size - size / 2) t c (later t c base (size / 2)) (size - size / 2) ≡ narrowed size t c base size
  unfolding narrowed
  step base size s =
      enough (size - size / 2) size (later t c base (size / 2)) (size - size / 2) (omega arith) (omega arith) (omega arith)
      ∙ enough (suc size) size base size s (omega arith) (omega arith)

  -- it stays among its ranges
  stays : (n base size : ℕ) → 1 ≤ size → narrowed n t c base size < base + size
  unfolding narrowed
  stays zero base size s = omega arith
  stays (suc n) base size s =
      omega (arith, stays n (later t c base (size / 2)) (size - size / 2) (omega arith), later_most base (size / 2))

pub ruleset later_of = (later_up, later_stay)

-- ---- a search that goes on: to go on from here comes to the same
pub record Searching (t : List ℕ) (c base₀ size₀ base size : ℕ) : Type 0 where
  pub some : 1 ≤ size
  pub within : 2 * (base + size) ≤ length t
  pub same : narrowed size t c base size ≡ narrowed size₀ t c base₀ size₀

pub searching_none : (t : List ℕ) (c base size : ℕ) → 1 ≤ size → 2 * (base + size) ≤ length t → Searching t c base size base size
searching_none t c base size s l = record { some = s; within = l; same = refl }

module _ {t : List ℕ} {c base₀ size₀ base size : ℕ} (s : Searching t c base₀ size₀ base size) where
  pub searching_on : {base' size' : ℕ} → (base' ≡ later t c base (size / 2)) × (size' ≡ size - size / 2) → Searching t c base₀ size₀ base' size'
  searching_on e =
      rw (e.0, e.1)
      (record {
        some = omega (arith, s.some);
        within = omega (arith, later_most t c base (size / 2), s.within);
        same = step t c base size s.some ∙ s.same;
      })

  pub searching_fits : (1 ≤ size) × (2 * (base + size) ≤ length t)
  searching_fits = (s.some, s.within)

  pub searching_within : {k : ℕ} → k ≡ narrowed size t c base size → 2 * k + 1 < length t
  searching_within e = omega (arith, stays t c size base size s.some, s.within)

  pub searching_end : size ≤ 1 → base ≡ narrowed size₀ t c base₀ size₀
  searching_end h = let e : size ≡ 1 = omega (arith, s.some) in sym (one t c size base) ∙ (rw (← e)) ∙ s.same

pub half_most : (k : ℕ) {n m : ℕ} → n ≤ 2 * k → m ≡ n - n / 2 → m ≤ k
half_most k h e = omega arith

-- five steps leave one of 32 ranges
pub half_of : (k : ℕ) {n m : ℕ} → k < 5 → n ≤ 2 ^ (5 - k) → m ≡ n - n / 2 → m ≤ 2 ^ (5 - (k + 1))
half_of zero h l e = half_most 16 l e
half_of (suc zero) h l e = half_most 8 l e
half_of (suc (suc zero)) h l e = half_most 4 l e
half_of (suc (suc (suc zero))) h l e = half_most 2 l e
half_of (suc (suc (suc (suc zero)))) h l e = half_most 1 l e
half_of (suc (suc (suc (suc (suc k))))) h l e = absurd (omega arith)

among_most : (t : List ℕ) (c : ℕ) → 2 * among t c ≤ length t
among_most t c =
    by_test (ltb 32 (length t / 2))
    (λ h. by_test (ltb c (get_or t 64 0)) (λ k. rw (h, k) (omega (arith, ltb-true 32 (length t / 2) h))) (λ k. rw (h, k) (omega arith)))
    (λ h. rw h (omega arith))

among_zero : (t : List ℕ) (c : ℕ) → among t c ≡ 0 → length t ≤ 1
among_zero t c =
    by_test (ltb 32 (length t / 2))
    (λ h. by_test (ltb c (get_or t 64 0)) (λ k. rw (h, k) (λ z. omega arith)) (λ k. rw (h, k) (λ z. omega arith)))
    (λ h. rw h (λ z. omega arith))

-- ---- the answer
module _ (t : List ℕ) (c : ℕ) {n : ℕ} (e : n ≡ among t c) where
  pub search_none : n ≡ 0 → false ≡ searched t c
  unfolding searched
  search_none z = rw (eq-eqb (among t c) 0 (sym e ∙ z))

  pub search_starts : (n ≡ 0 → ⊥) → Searching t c 0 n 0 n
  search_starts h = searching_none t c 0 n (omega arith) (omega (arith, among_most t c))

  module _ {k : ℕ} (h : n ≡ 0 → ⊥) (f : k ≡ narrowed n t c 0 n) where
    pub searched_by : searched t c ≡ in_range c (get_or t (2 * k) 0 to get_or t (2 * k + 1) 0)
    unfolding searched
    searched_by =
        let g : found t c ≡ k = rw (← e) (sym f) in
        rw (ne_eqb (among t c) 0 (λ z. h (e ∙ z)), g)

pub ruleset searches = (search_none, search_starts, searching_fits, searching_on, searching_within)

-- ---- membership by the list of a table's ends
unfoldable in_ends : ℕ → List ℕ → Bool
in_ends c [] = false
in_ends c (lo ∷ []) = false
in_ends c (lo ∷ hi ∷ t) = (leb lo c && leb c hi) || in_ends c t

by_ends : (c : ℕ) (t : List Range) → in_ends c (flat t) ≡ in_table c t
unfolding in_table in_ends
by_ends c [] = refl
by_ends c (x to y ∷ t) = rw (by_ends c t)

pub even : (k : ℕ) → 2 * suc k ≡ suc (suc (2 * k))
even k = omega arith

pub odd : (k : ℕ) → 2 * suc k + 1 ≡ suc (suc (2 * k + 1))
odd k = omega arith

-- a range that holds c puts c in, and where none does it is not
hit : (t : List ℕ) (c k : ℕ) → 2 * k + 1 < length t → get_or t (2 * k) 0 ≤ c → c ≤ get_or t (2 * k + 1) 0 → in_ends c t ≡ true
unfolding in_ends
hit [] c k l a b = absurd (omega arith)
hit (x ∷ []) c k l a b = absurd (omega arith)
hit (x ∷ y ∷ t) c zero l a b = simp (le-leb x c a, le-leb c y b)
hit (x ∷ y ∷ t) c (suc k) l a b = simp (hit t c k (omega arith) (rw even at a) (rw odd at b), or_true)

outside : (x y c : ℕ) (p q : Bool) → leb x c ≡ p → leb c y ≡ q → (x ≤ c → c ≤ y → ⊥) → (p && q) ≡ false
outside x y c true true e f h = absurd (h (leb-true x c e) (leb-true c y f))
outside x y c true false e f h = refl
outside x y c false q e f h = refl

miss : (t : List ℕ) (c : ℕ) → ((k : ℕ) → 2 * k + 1 < length t → get_or t (2 * k) 0 ≤ c → c ≤ get_or t (2 * k + 1) 0 → ⊥) → in_ends c t ≡ false
unfolding in_ends
miss [] c h = refl
miss (x ∷ []) c h = refl
miss (x ∷ y ∷ t) c h =
    simp (outside x y c (leb x c) (leb c y) refl refl (h 0 (omega arith)), miss t c (λ k l a b. h (suc k) (omega arith) (rw even a) (rw odd b)))

-- the first of the ranges from base on, unless it is the table's first, does not begin above c, and those behind them do
record Bracket (t : List ℕ) (c base size : ℕ) : Type 0 where
  some : 1 ≤ size
  within : 2 * (base + size) ≤ length t
  low : ((base ≡ 0 → ⊥) → get_or t (2 * base) 0 ≤ c)
  above : (k : ℕ) → base + size ≤ k → 2 * k + 1 < length t → c < get_or t (2 * k) 0

module _ (t : List ℕ) (c : ℕ) (s : Sorted t) where
  halved : (base size : ℕ) → Bracket t c base size → Bracket t c (later t c base (size / 2)) (size - size / 2)
  unfolding Sorted
  halved base size b =
      let mid = base + size / 2 in
      by_test (leb (get_or t (2 * mid) 0) c)
      (λ h. rw h
      (record {
        some = omega (arith, b.some);
        within = omega (arith, b.within);
        low = λ z. leb-true (get_or t (2 * mid) 0) c h;
        above = λ k g l. b.above k (omega arith) l;
      }))
      (λ h. rw h
      (record {
        some = omega (arith, b.some);
        within = omega (arith, b.within);
        low = b.low;
        above = λ k g l. omega (arith, leb-false (get_or t (2 * mid) 0) c h, s (2 * mid) (2 * k) (omega arith) (omega arith));
      }))

  bracketed : (n base size : ℕ) → size ≤ n → Bracket t c base size → Bracket t c (narrowed n t c base size) 1
  unfolding narrowed
  bracketed zero base size h b = absurd (omega (arith, b.some))
  bracketed (suc n) base size h b =
      elim (dec_lt 1 size) [
        | yes p ↦ bracketed n (later t c base (size / 2)) (size - size / 2) (omega arith) (halved base size b)
        | no p ↦ let e : size ≡ 1 = omega (arith, b.some) in rw (e, one t c (suc n) base) (rw e at b)
      ]

  -- where a range holds c, so does the one that is left
  covers : (k j : ℕ) → Bracket t c k 1 → 2 * j + 1 < length t → get_or t (2 * j) 0 ≤ c → c ≤ get_or t (2 * j + 1) 0 → (get_or t (2 * k) 0 ≤ c) × (c ≤ get_or t (2 * k + 1) 0)
  unfolding Sorted
  covers k j b l x y =
      elim (dec_lt k j) [
        | yes p ↦ absurd (omega (arith, b.above j (omega arith) l))
        | no p ↦ elim (ℕ_discrete j k) [
          | yes e ↦ (rw (← e) x, rw (← e) y)
          | no n ↦
              let low = b.low (λ z. omega arith) in
              (low, omega (arith, s (2 * j + 1) (2 * k) (omega arith) (omega (arith, b.within)), s (2 * k) (2 * k + 1) (omega arith) (omega (arith, b.within))))
        ]
      ]

  -- so it holds c, or none does
  left_one : (k : ℕ) → Bracket t c k 1 → in_range c (get_or t (2 * k) 0 to get_or t (2 * k + 1) 0) ≡ in_ends c t
  left_one k b =
      elim (dec_lt c (get_or t (2 * k) 0)) [
        | yes p ↦ rw (lt-leb (get_or t (2 * k) 0) c p) (sym (miss t c (λ j l x y. omega (arith, (covers k j b l x y).0))))
        | no p ↦ elim (dec_lt (get_or t (2 * k + 1) 0) c) [
          | yes q ↦ rw (le-leb (get_or t (2 * k) 0) c (omega arith), lt-leb c (get_or t (2 * k + 1) 0) q) (sym (miss t c (λ j l x y. omega (arith, (covers k j b l x y).1))))
          | no q ↦ rw (le-leb (get_or t (2 * k) 0) c (omega arith), le-leb c (get_or t (2 * k + 1) 0) (omega arith)) (sym (hit t c k (omega (arith, b.within)) (omega arith) (omega arith)))
        ]
      ]

-- the ranges that are left out at the outset begin above c
outset : (t : List ℕ) (c : ℕ) → Sorted t → (among t c ≡ 0 → ⊥) → Bracket t c 0 (among t c)
unfolding Sorted
outset t c s n =
    record {
      some = omega arith;
      within = omega (arith, among_most t c);
      low = λ z. absurd (z refl);
      above = by_test (ltb 32 (length t / 2))
          (λ h. by_test (ltb c (get_or t 64 0))
          (λ i. rw (h, i) (λ k g l. omega (arith, ltb-true c (get_or t 64 0) i, s 64 (2 * k) (omega arith) (omega arith))))
          (λ i. rw (h, i) (λ k g l. absurd (omega arith))))
          (λ h. rw h (λ k g l. absurd (omega arith)));
    }

-- the search in a table whose ends are sorted is membership
pub searched_is : (t : List Range) (c : ℕ) → Sorted (flat t) → searched (flat t) c ≡ in_table c t
unfolding searched
searched_is t c s =
    let l = flat t in
    elim (ℕ_discrete (among l c) 0) [
      | yes z ↦ rw (eq-eqb (among l c) 0 z) (sym (miss l c (λ k g x y. omega (arith, among_zero l c z))) ∙ by_ends c t)
      | no z ↦ rw (ne_eqb (among l c) 0 z) (left_one l c s (found l c) (bracketed l c s (among l c) 0 (among l c) (omega arith) (outset l c s z)) ∙ by_ends c t)
    ]
