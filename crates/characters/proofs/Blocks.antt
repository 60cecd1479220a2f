-- A block of 32 bytes each of which may stand behind the three before it: it is well-formed up to its last whole character.
-- Assumes nothing.
use mathlib.Core.Path.{◌≡◌, refl, sym, ◌∙◌}
use mathlib.Core.Bool.{Bool, true, false, ◌&&◌, false≢true}
use mathlib.Core.List.{List}
use Prim.Native.Nat.{ℕ, zero, suc, ◌+◌, ◌-◌, ◌*◌, ◌%◌, ◌≤◌, ◌<◌}
use native.Mathlib.Decide.{dec_le, ℕ_discrete}
use native.Mathlib.Omega.{arith}
use lib.Dec.{ltb}
use lib.ListN.{length, get_or}
use borrow.Author.Tests.{lt-ltb, le-ltb, ltb-true, not-true}
use Rattle.lists.proofs.Bools.{and_false, both}
use Rattle.characters.specs.Ranges.{◌to◌, in_range}
use Rattle.characters.specs.Steps.{low, high, free, may_stand, Stood, whole, spells, Clear, stops, Passed}
use Rattle.characters.specs.Text.{Decoded}
use Rattle.characters.proofs.First.{over_4, under_4}
use Rattle.characters.proofs.Reading.{two_yes, three_yes, four_yes, decoded_two, decoded_three, decoded_four}
use Rattle.characters.proofs.Rows.{In, in_range_lem, is_in, low_ge, high_le}
use Rattle.characters.proofs.Text.{decoded_point}
use Rattle.characters.proofs.Direction.{low_free, high_free, other_free, unspelt}
use Rattle.characters.proofs.Walks.{ascii_point, passed_none, passed_char, passed_then}

-- ---- past one character
module _ (barred : Bool) (s : List ℕ) (at : ℕ) where
  past_1 : at < length s → get_or s at 0 ≤ 0x7F → Passed (stops barred) s at (at + 1)
  past_1 l h = passed_char (ascii_point s at l (omega arith)) (low_free barred (get_or s at 0) (omega arith)) refl

  past_2 : at < length s → In 0xC2 0xDF (get_or s at 0) → In 0x80 0xBF (get_or s (at + 1) 0) → Passed (stops barred) s at (at + 2)
  past_2 l i j =
      let a = get_or s at 0 in
      let b = get_or s (at + 1) 0 in
      let d : Decoded s at (a % 32 * 64 + b % 64) 2 =
      decoded_two s at l {b = b} (two_yes a b (is_in j)) refl i.over (omega (arith, i.under)) in
      passed_char (decoded_point d l) (low_free barred (a % 32 * 64 + b % 64) (omega arith)) refl

  past_3 : at < length s → In 0xE0 0xEF (get_or s at 0) → In (low (get_or s at 0)) (high (get_or s at 0)) (get_or s (at + 1) 0) → In 0x80 0xBF (get_or s (at + 2) 0) → (barred ≡ true → spells (get_or s at 0) (get_or s (at + 1) 0) (get_or s (at + 2) 0) ≡ false) → Passed (stops barred) s at (at + 3)
  past_3 l i j k m =
      let a = get_or s at 0 in
      let b = get_or s (at + 1) 0 in
      let c = get_or s (at + 2) 0 in
      let d : Decoded s at ((a % 16 * 64 + b % 64) * 64 + c % 64) 3 =
      decoded_three s at l {b = b} {c = c} (three_yes a b c (is_in j) (is_in k)) refl refl i.over (omega (arith, i.under)) in
      let x : low a ≤ b = j.over in
      let y : b ≤ high a = j.under in
      let n : In 0x80 0xBF b = record { over = omega (arith, x, low_ge a); under = omega (arith, y, high_le a) } in
      passed_char (decoded_point d l) (other_free barred ((a % 16 * 64 + b % 64) * 64 + c % 64) (omega arith) (λ e. unspelt a b c i n k (m e))) refl

  past_4 : at < length s → In 0xF0 0xF4 (get_or s at 0) → In (low (get_or s at 0)) (high (get_or s at 0)) (get_or s (at + 1) 0) → In 0x80 0xBF (get_or s (at + 2) 0) → In 0x80 0xBF (get_or s (at + 3) 0) → Passed (stops barred) s at (at + 4)
  past_4 l i j k m =
      let a = get_or s at 0 in
      let b = get_or s (at + 1) 0 in
      let c = get_or s (at + 2) 0 in
      let e = get_or s (at + 3) 0 in
      let d : Decoded s at (((a % 8 * 64 + b % 64) * 64 + c % 64) * 64 + e % 64) 4 =
      decoded_four s at l {b = b} {c = c} {d = e}
      (four_yes a b c (is_in j) (is_in k) e (is_in m))
      refl refl refl i.over (omega (arith, i.under)) in
      passed_char (decoded_point d l) (high_free barred _ (omega (arith, over_4 a b c e i j k m)) (under_4 a b c e i j k m)) refl

-- ---- the three bytes before a place
record Free (a b c : ℕ) : Type 0 where
  first : a < 0xF0
  second : b < 0xE0
  third : c < 0xC0

free_parts : (a b c : ℕ) → free a b c ≡ true → Free a b c
free_parts a b c e =
    let p = both (ltb c 0xC0) (ltb b 0xE0 && ltb a 0xF0) e in
    let q = both (ltb b 0xE0) (ltb a 0xF0) p.1 in
    record { first = ltb-true a 0xF0 q.1; second = ltb-true b 0xE0 q.0; third = ltb-true c 0xC0 p.0 }

free_of : (a b c : ℕ) → a < 0xF0 → b < 0xE0 → c < 0xC0 → free a b c ≡ true
free_of a b c h i j = simp (lt-ltb a 0xF0 h, lt-ltb b 0xE0 i, lt-ltb c 0xC0 j)

held_1 : (a b c : ℕ) → 0xC0 ≤ c → free a b c ≡ false
held_1 a b c h = simp (le-ltb c 0xC0 h)

held_2 : (a b c : ℕ) → 0xE0 ≤ b → free a b c ≡ false
held_2 a b c h = simp (le-ltb b 0xE0 h, and_false)

held_3 : (a b c : ℕ) → 0xF0 ≤ a → free a b c ≡ false
held_3 a b c h = simp (le-ltb a 0xF0 h, and_false)

-- ---- what a byte counts for, as `search` takes it from what a need knows
module _ {a b c d r : ℕ} where
  pub stood_none : d < 256 → r ≡ 255 → Stood a b c d r
  stood_none h e =
      record { most = omega arith; begins = λ f l g. absurd (omega arith); over = λ f l. absurd (omega arith); under = λ f l. absurd (omega arith); lead = λ l q. absurd (omega arith) }

  stood : may_stand a b c d ≡ true → d ≤ r → (r < 0xF4 → d ≡ 0xE2 → ⊥) → Stood a b c d r
  unfolding may_stand
  stood h m e =
      record {
        most = m;
        begins = λ f l g.
            let y : in_range d (0x80 to 0xC1) ≡ false = not-true (in_range d (0x80 to 0xC1)) (rw f at h) in
            elim (dec_le d 0xC1) [ yes o ↦ absurd (false≢true (sym y ∙ is_in (record { over = g; under = o }))) | no n ↦ omega arith ];
        over = λ f l. (in_range_lem (low c) (high c) d (rw f at h)).over;
        under = λ f l. (in_range_lem (low c) (high c) d (rw f at h)).under;
        lead = e;
      }

  pub stood_lead : {t : Bool} → t ≡ may_stand a b c d → t ≡ true → d ≡ 0xE2 → r ≡ 0xF4 → Stood a b c d r
  stood_lead {t} p q v e = stood (sym p ∙ q) (omega arith) (λ l g. absurd (omega arith))

  pub stood_other : {t : Bool} → t ≡ may_stand a b c d → t ≡ true → (d ≡ 0xE2 → ⊥) → r ≡ d → Stood a b c d r
  stood_other {t} p q n e = stood (sym p ∙ q) (omega arith) (λ l g. n g)

  -- and no less for a larger number
  pub stood_up : {r' : ℕ} → Stood a b c d r → r ≤ r' → Stood a b c d r'
  stood_up h g =
      record {
        most = omega (arith, h.most);
        begins = λ f l. h.begins f (omega arith);
        over = λ f l. h.over f (omega arith);
        under = λ f l. h.under f (omega arith);
        lead = λ l. h.lead (omega arith);
      }

pub ruleset standing = (stood_none, stood_lead, stood_other)

-- ---- the block behind the three bytes from `at` on
module _ (barred : Bool) (s : List ℕ) (at m : ℕ) (long : at + 35 ≤ length s) (top : m ≤ 0xF4) (clear : barred ≡ true → Clear s at) (stood : (k : ℕ) → k < 32 → Stood (get_or s (at + k) 0) (get_or s (at + k + 1) 0) (get_or s (at + k + 2) 0) (get_or s (at + k + 3) 0) m) where
  window : (p x y z : ℕ) → at ≤ p → p < at + 32 → x ≡ p + 1 → y ≡ p + 2 → z ≡ p + 3 → Stood (get_or s p 0) (get_or s x 0) (get_or s y 0) (get_or s z 0) m
  window p x y z g h i j k =
      let e : at + (p - at) ≡ p = omega arith in
      rw (i, j, k) (rw e at (stood (p - at) (omega arith)))

  abbrev size : ℕ
  size = whole (get_or s (at + 32) 0) (get_or s (at + 33) 0) (get_or s (at + 34) 0)

  size_31 : (p : ℕ) → p + 3 ≡ at + 34 → 0xC0 ≤ get_or s (p + 3) 0 → size ≡ 31
  unfolding whole
  size_31 p e h = simp (le-ltb (get_or s (at + 34) 0) 0xC0 (rw e at h))

  size_30 : (p : ℕ) → p + 3 ≡ at + 33 → p + 4 ≡ at + 34 → 0xE0 ≤ get_or s (p + 3) 0 → get_or s (p + 4) 0 < 0xC0 → size ≡ 30
  unfolding whole
  size_30 p e f g h = simp (lt-ltb (get_or s (at + 34) 0) 0xC0 (rw f at h), le-ltb (get_or s (at + 33) 0) 0xE0 (rw e at g))

  size_29 : (p : ℕ) → p + 3 ≡ at + 32 → p + 4 ≡ at + 33 → p + 5 ≡ at + 34 → 0xF0 ≤ get_or s (p + 3) 0 → get_or s (p + 4) 0 < 0xE0 → get_or s (p + 5) 0 < 0xC0 → size ≡ 29
  unfolding whole
  size_29 p e f g h i j =
      simp (lt-ltb (get_or s (at + 34) 0) 0xC0 (rw g at j), lt-ltb (get_or s (at + 33) 0) 0xE0 (rw f at i), le-ltb (get_or s (at + 32) 0) 0xF0 (rw e at h))

  size_32 : Free (get_or s (at + 32) 0) (get_or s (at + 33) 0) (get_or s (at + 34) 0) → size ≡ 32
  unfolding whole
  size_32 f =
      simp (lt-ltb (get_or s (at + 34) 0) 0xC0 f.third, lt-ltb (get_or s (at + 33) 0) 0xE0 f.second, lt-ltb (get_or s (at + 32) 0) 0xF0 f.first)

  -- a character of w bytes begins behind the three bytes from p on and ends within the block, or what is whole ends before it
  data Next (p : ℕ) : Type 0 where
    on : (w : ℕ) → 1 ≤ w → p + w ≤ at + 32 → free (get_or s (p + w) 0) (get_or s (p + w + 1) 0) (get_or s (p + w + 2) 0) ≡ true → Passed (stops barred) s (p + 3) (p + 3 + w) → Next p
    stop : p + 3 ≡ at + 3 + size → Next p

  module _ (p : ℕ) (low-p : at ≤ p) (under : p < at + 32) (f : Free (get_or s p 0) (get_or s (p + 1) 0) (get_or s (p + 2) 0)) where
    here : Stood (get_or s p 0) (get_or s (p + 1) 0) (get_or s (p + 2) 0) (get_or s (p + 3) 0) m
    here = window p (p + 1) (p + 2) (p + 3) low-p under refl refl refl

    next_1 : get_or s (p + 3) 0 ≤ 0x7F → Next p
    next_1 h =
        let e : p + 1 + 1 ≡ p + 2 = omega arith in
        let g : p + 1 + 2 ≡ p + 3 = omega arith in
        on 1 (omega arith) (omega arith) (rw (e, g) (free_of (get_or s (p + 1) 0) (get_or s (p + 2) 0) (get_or s (p + 3) 0) (omega (arith, f.second)) (omega (arith, f.third)) (omega arith))) (past_1 barred s (p + 3) (omega arith) h)

    module _ (h : 0xC1 < get_or s (p + 3) 0) where
      second : p < at + 31 → In (low (get_or s (p + 3) 0)) (high (get_or s (p + 3) 0)) (get_or s (p + 4) 0)
      second l =
          let w = window (p + 1) (p + 2) (p + 3) (p + 4) (omega arith) (omega arith) (omega arith) (omega arith) (omega arith) in
          let e = held_1 (get_or s (p + 1) 0) (get_or s (p + 2) 0) (get_or s (p + 3) 0) (omega arith) in
          record { over = w.over e top; under = w.under e top }

      third : p < at + 30 → 0xE0 ≤ get_or s (p + 3) 0 → In 0x80 0xBF (get_or s (p + 5) 0)
      third l g =
          let w = window (p + 2) (p + 3) (p + 4) (p + 5) (omega arith) (omega arith) (omega arith) (omega arith) (omega arith) in
          let e = held_2 (get_or s (p + 2) 0) (get_or s (p + 3) 0) (get_or s (p + 4) 0) g in
          let x : low (get_or s (p + 4) 0) ≤ get_or s (p + 5) 0 = w.over e top in
          let y : get_or s (p + 5) 0 ≤ high (get_or s (p + 4) 0) = w.under e top in
          record { over = omega (arith, x, low_ge (get_or s (p + 4) 0)); under = omega (arith, y, high_le (get_or s (p + 4) 0)) }

      fourth : p < at + 29 → 0xF0 ≤ get_or s (p + 3) 0 → In 0x80 0xBF (get_or s (p + 6) 0)
      fourth l g =
          let w = window (p + 3) (p + 4) (p + 5) (p + 6) (omega arith) (omega arith) (omega arith) (omega arith) (omega arith) in
          let e = held_3 (get_or s (p + 3) 0) (get_or s (p + 4) 0) (get_or s (p + 5) 0) g in
          let x : low (get_or s (p + 5) 0) ≤ get_or s (p + 6) 0 = w.over e top in
          let y : get_or s (p + 6) 0 ≤ high (get_or s (p + 5) 0) = w.under e top in
          record { over = omega (arith, x, low_ge (get_or s (p + 5) 0)); under = omega (arith, y, high_le (get_or s (p + 5) 0)) }

      -- the byte behind, within 80 and BF
      second_in : p < at + 31 → In 0x80 0xBF (get_or s (p + 4) 0)
      second_in l =
          let j = second l in
          let x : low (get_or s (p + 3) 0) ≤ get_or s (p + 4) 0 = j.over in
          let y : get_or s (p + 4) 0 ≤ high (get_or s (p + 3) 0) = j.under in
          record { over = omega (arith, x, low_ge (get_or s (p + 3) 0)); under = omega (arith, y, high_le (get_or s (p + 3) 0)) }

      next_2 : get_or s (p + 3) 0 ≤ 0xDF → p < at + 31 → Next p
      next_2 g l =
          let e : p + 2 + 1 ≡ p + 3 = omega arith in
          let e' : p + 2 + 2 ≡ p + 4 = omega arith in
          let q : p + 3 + 1 ≡ p + 4 = omega arith in
          let j = second_in l in
          let y : get_or s (p + 4) 0 ≤ 0xBF = j.under in
          on 2 (omega arith) (omega arith) (rw (e, e') (free_of (get_or s (p + 2) 0) (get_or s (p + 3) 0) (get_or s (p + 4) 0) (omega (arith, f.third)) (omega arith) (omega arith)))
          (past_2 barred s (p + 3) (omega arith) (record { over = h; under = g }) (rw q j))

      next_3 : 0xE0 ≤ get_or s (p + 3) 0 → get_or s (p + 3) 0 ≤ 0xEF → p < at + 30 → Next p
      next_3 g i l =
          let e : p + 3 + 1 ≡ p + 4 = omega arith in
          let e' : p + 3 + 2 ≡ p + 5 = omega arith in
          let j = second_in (omega arith) in
          let k = third l g in
          let x : get_or s (p + 4) 0 ≤ 0xBF = j.under in
          let y : get_or s (p + 5) 0 ≤ 0xBF = k.under in
          on 3 (omega arith) (omega arith) (rw (e, e') (free_of (get_or s (p + 3) 0) (get_or s (p + 4) 0) (get_or s (p + 5) 0) (omega arith) (omega arith) (omega arith)))
          (past_3 barred s (p + 3) (omega arith) (record { over = g; under = i }) (rw e (second (omega arith))) (rw e' k) (λ b. rw (e, e') (clear b p low-p l)))

      next_4 : 0xF0 ≤ get_or s (p + 3) 0 → p < at + 29 → Next p
      next_4 g l =
          let e : p + 3 + 1 ≡ p + 4 = omega arith in
          let e' : p + 3 + 2 ≡ p + 5 = omega arith in
          let e'' : p + 3 + 3 ≡ p + 6 = omega arith in
          let n : p + 4 + 1 ≡ p + 5 = omega arith in
          let n' : p + 4 + 2 ≡ p + 6 = omega arith in
          let j = second_in (omega arith) in
          let k = third (omega arith) (omega arith) in
          let o = fourth l g in
          let x : get_or s (p + 4) 0 ≤ 0xBF = j.under in
          let y : get_or s (p + 5) 0 ≤ 0xBF = k.under in
          let z : get_or s (p + 6) 0 ≤ 0xBF = o.under in
          let t : get_or s (p + 3) 0 ≤ m = here.most in
          on 4 (omega arith) (omega arith) (rw (n, n') (free_of (get_or s (p + 4) 0) (get_or s (p + 5) 0) (get_or s (p + 6) 0) (omega arith) (omega arith) (omega arith)))
          (past_4 barred s (p + 3) (omega arith) (record { over = g; under = omega (arith, top) }) (rw e (second (omega arith))) (rw e' k) (rw e'' o))

      stop_31 : p ≡ at + 31 → Next p
      stop_31 e = stop (omega (arith, size_31 p (omega arith) (omega arith)))

      stop_30 : p ≡ at + 30 → 0xE0 ≤ get_or s (p + 3) 0 → Next p
      stop_30 e g =
          let y : get_or s (p + 4) 0 ≤ 0xBF = (second_in (omega arith)).under in
          stop (omega (arith, size_30 p (omega arith) (omega arith) g (omega arith)))

      stop_29 : p ≡ at + 29 → 0xF0 ≤ get_or s (p + 3) 0 → Next p
      stop_29 e g =
          let x : get_or s (p + 4) 0 ≤ 0xBF = (second_in (omega arith)).under in
          let y : get_or s (p + 5) 0 ≤ 0xBF = (third (omega arith) (omega arith)).under in
          stop (omega (arith, size_29 p (omega arith) (omega arith) (omega arith) g (omega arith) (omega arith)))

      next_wide : Next p
      next_wide =
          elim (ℕ_discrete p (at + 31)) [
            | yes e ↦ stop_31 e
            | no n ↦ elim (dec_le (get_or s (p + 3) 0) 0xDF) [
              | yes g ↦ next_2 g (omega arith)
              | no o ↦ elim (ℕ_discrete p (at + 30)) [
                | yes e ↦ stop_30 e (omega arith)
                | no q ↦ elim (dec_le (get_or s (p + 3) 0) 0xEF) [
                  | yes g ↦ next_3 (omega arith) g (omega arith)
                  | no r ↦ elim (ℕ_discrete p (at + 29)) [ yes e ↦ stop_29 e (omega arith) | no v ↦ next_4 (omega arith) (omega arith) ]
                ]
              ]
            ]
          ]

    next : Next p
    next =
        elim (dec_le (get_or s (p + 3) 0) 0x7F) [
          | yes h ↦ next_1 h
          | no n ↦ next_wide (here.begins (free_of (get_or s p 0) (get_or s (p + 1) 0) (get_or s (p + 2) 0) f.first f.second f.third) top (omega arith))
        ]

  ends : (p : ℕ) → p ≡ at + 32 → Free (get_or s p 0) (get_or s (p + 1) 0) (get_or s (p + 2) 0) → p + 3 ≡ at + 3 + size
  ends p e f =
      let x : at + 32 + 1 ≡ at + 33 = omega arith in
      let y : at + 32 + 2 ≡ at + 34 = omega arith in
      omega (arith, size_32 (rw (x, y) at (rw e at f)))

  go : (n p : ℕ) → at + 32 ≤ n + p → at ≤ p → p ≤ at + 32 → free (get_or s p 0) (get_or s (p + 1) 0) (get_or s (p + 2) 0) ≡ true → Passed (stops barred) s (at + 3) (p + 3) → Passed (stops barred) s (at + 3) (at + 3 + size)
  go zero p g h i f w =
      let e = ends p (omega arith) (free_parts (get_or s p 0) (get_or s (p + 1) 0) (get_or s (p + 2) 0) f) in rw e at w
  go (suc n) p g h i f w =
      let q = free_parts (get_or s p 0) (get_or s (p + 1) 0) (get_or s (p + 2) 0) f in
      elim (ℕ_discrete p (at + 32)) [
        | yes e ↦ let e' = ends p e q in rw e' at w
        | no x ↦ elim (next p h (omega arith) q) [
          | on k a b c d ↦
              let e : p + 3 + k ≡ p + k + 3 = omega arith in
              go n (p + k) (omega arith) (omega arith) b c (passed_then w (rw e at d))
          | stop e ↦ rw e at w
        ]
      ]

  pub passed_wide : free (get_or s at 0) (get_or s (at + 1) 0) (get_or s (at + 2) 0) ≡ true → Passed (stops barred) s (at + 3) (at + 3 + size)
  passed_wide f = go 32 at (omega arith) (omega arith) (omega arith) f (passed_none (omega arith))

-- as `search` takes it from what a need knows
pub walk_wide : {barred : Bool} {s : List ℕ} {from at m n r : ℕ} {t u : Bool} → at ≡ from - 3 → 3 ≤ from → 32 ≤ length s - from → t ≡ free (get_or s at 0) (get_or s (at + 1) 0) (get_or s (at + 2) 0) → t ≡ true → ((k : ℕ) → k < 32 → Stood (get_or s (at + k) 0) (get_or s (at + k + 1) 0) (get_or s (at + k + 2) 0) (get_or s (at + k + 3) 0) m) → m ≤ 0xF4 → (u ≡ false → barred ≡ true → Clear s at) → u ≡ false → n ≡ whole (get_or s (at + 32) 0) (get_or s (at + 33) 0) (get_or s (at + 34) 0) → r ≡ from + n → Passed (stops barred) s from r
walk_wide {barred} {s} {from} {at} {m} {n} {r} {t} e g l f x h k b y w q =
    let i : from ≡ at + 3 = omega arith in
    let p = passed_wide barred s at m (omega arith) k (b y) h (sym f ∙ x) in
    rw (q, w, i) p
