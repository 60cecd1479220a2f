-- Where a number ends, and its first misplaced underscore in its own bytes.
-- Assumes nothing.
use Prim.Native.Nat.{ℕ, suc, ◌+◌, ◌-◌, ◌≤◌, ◌<◌}
use native.Mathlib.Decide.{dec_lt}
use native.Mathlib.Omega.{arith}
use mathlib.Core.Path.{◌≡◌, refl, ap, sym, ◌∙◌}
use mathlib.Core.Bool.{Bool, true, false, not, cond, ◌&&◌, ◌||◌, false≢true}
use mathlib.Core.Logic.{◌⊎◌, inl, inr}
use mathlib.Core.List.{List, [], ◌∷◌, tail}
use lib.ListN.{take, drop, get_or}
use lib.Dec.{eqb, leb}
use borrow.Author.Tests.{ne_eqb, le-leb, lt-leb}
use Rattle.lists.specs.Eat.{eat}
use Rattle.lists.proofs.Bools.{by_test, on_cond, and_false}
use Rattle.lists.proofs.Eat.{eat_nil, eat_more, eat_stop}
use Rattle.characters.specs.Ranges.{◌to◌, in_range}
use Rattle.characters.specs.Text.{left}
use Rattle.cutters.specs.Kinds.{is_number, int, float}
use Rattle.cutters.specs.Digits.{peek, is_digit, is_hex_digit}
use Rattle.cutters.specs.Underscores.{misplaced_in}
use Rattle.cutters.specs.Steps.{first_of}
use Rattle.cutters.proofs.Underscores.{Stays, byte_own, in_low, in_join, in_point, in_own}
use Rattle.lexer.specs.Cut.{is_e, or_underscore, met, digits, exponent, exponent_of, point, fraction, based, number}
use Rattle.lexer.specs.Steps.{Misplaced}
use Rattle.lexer.proofs.Bytewise.{peek_ascii, peek_drop}
use Rattle.lexer.proofs.Underscores.{Digital, digital, stays}

-- ---- behind digits no digit stands
neither : (a b : Bool) → (a || b) ≡ false → (a ≡ false) × (b ≡ false)
neither a b h = by_test a (λ t. absurd (false≢true (sym h ∙ rw t))) (λ t. (t, rw t at h))

digits_stop : {p : ℕ → Bool} → Digital p → (t : List ℕ) → p (peek (digits p t).1) ≡ false
unfolding digits
digits_stop {p} q = go false
  where
    go : (b : Bool) (t : List ℕ) → p (peek (eat (or_underscore p) (met p) b t).1) ≡ false
    go b [] = rw (eat_nil (or_underscore p) (met p) b) q.end
    go b (c ∷ t) =
        by_test (or_underscore p c)
        (λ h. rw (eat_more (or_underscore p) (met p) b c t h) (go (met p b c) t))
        (λ h. rw (eat_stop (or_underscore p) (met p) b c t h) (neither (eqb c 0x5F) (p c) h).1)

-- a number, by its kind and what is left behind it
record Ended (x : ℕ × List ℕ) : Type 0 where
  kind : is_number x.0 ≡ true
  stop : is_digit (peek x.1) ≡ false

is_number_lem : (k : ℕ) → 40 ≤ k → k ≤ 55 → is_number k ≡ true
is_number_lem k a b = rw (le-leb 40 k a, le-leb k 55 b)

module _ {base : ℕ} (known : base ≤ 3) where
  int_is : (b : Bool) → is_number (int base b) ≡ true
  int_is true = is_number_lem (int base true) (omega arith) (omega arith)
  int_is false = is_number_lem (int base false) (omega arith) (omega arith)

  float_is : (b : Bool) → is_number (float base b) ≡ true
  float_is true = is_number_lem (float base true) (omega arith) (omega arith)
  float_is false = is_number_lem (float base false) (omega arith) (omega arith)

  exponent_ended : (t : List ℕ) → Ended (exponent_of base t)
  unfolding exponent_of exponent
  exponent_ended t =
      record { kind = float_is (not (exponent t).0); stop = digits_stop (digital false) (cond (eqb (peek t) 0x2D || eqb (peek t) 0x2B) (tail t) t) }

  point_ended : (t : List ℕ) → Ended (point base t)
  unfolding point
  point_ended t =
      let r = (digits is_digit t).1 in
      by_test (is_digit (peek t))
      (λ h. rw h (on_cond Ended (is_e (peek r)) (exponent_ended (tail r)) (record { kind = float_is false; stop = digits_stop (digital false) t })))
      (λ h. rw h (record { kind = float_is false; stop = h }))

  fraction_ended : (t : List ℕ) → is_digit (peek t) ≡ false → Ended (fraction base t)
  unfolding fraction
  fraction_ended t h =
      on_cond Ended (eqb (peek t) 0x2E) (point_ended (tail t))
      (on_cond Ended (is_e (peek t)) (exponent_ended (tail t)) (record { kind = int_is false; stop = h }))

  based_ended : (any : Bool) (t : List ℕ) → is_digit (peek t) ≡ false → Ended (based base any t)
  unfolding based
  based_ended any t h = on_cond Ended any (fraction_ended t h) (record { kind = int_is true; stop = h })

-- what is no hexadecimal digit is no digit
no_hex : (c : ℕ) → is_hex_digit c ≡ false → is_digit c ≡ false
unfolding is_hex_digit
no_hex c h = (neither (is_digit c) (in_range c (0x41 to 0x46) || in_range c (0x61 to 0x66)) h).0

number_ended : (c : ℕ) (t : List ℕ) → Ended (number c t)
unfolding number
number_ended c t =
    let d = digits is_digit (tail t) in
    let h = digits is_hex_digit (tail t) in
    on_cond Ended (eqb c 0x30 && eqb (peek t) 0x62) (based_ended (omega arith) d.0 d.1 (digits_stop (digital false) (tail t)))
    (on_cond Ended (eqb c 0x30 && eqb (peek t) 0x6F) (based_ended (omega arith) d.0 d.1 (digits_stop (digital false) (tail t)))
    (on_cond Ended (eqb c 0x30 && eqb (peek t) 0x78) (based_ended (omega arith) h.0 h.1 (no_hex (peek h.1) (digits_stop (digital true) (tail t))))
    (fraction_ended (omega arith) (digits is_digit t).1 (digits_stop (digital false) t))))

pub number_kind : (c : ℕ) (t : List ℕ) → is_number (number c t).0 ≡ true
number_kind c t = (number_ended c t).kind

-- by the byte there
pub number_stop : (c : ℕ) (t s : List ℕ) (end : ℕ) → left s end ≡ (number c t).1 → is_digit (get_or s end 0) ≡ false
unfolding is_digit
number_stop c t s end e =
    elim (dec_lt (get_or s end 0) 0x80) [
      | yes l ↦ let p : peek (left s end) ≡ get_or s end 0 = peek_ascii (drop end s) (rw (peek_drop end s) l) ∙ peek_drop end s in rw (← p, e) (number_ended c t).stop
      | no n ↦ rw (lt-leb (get_or s end 0) 0x39 (omega arith)) (and_false (leb 0x30 (get_or s end 0)))
    ]

-- ---- in the bytes from the first digit on
less_first : (a b own : ℕ) → (a ≡ 0) ⊎ (own < a) → first_of a b - own ≡ first_of (a - own) (b - own)
less_first a b own (inl z) = let n : 0 - own ≡ 0 = omega arith in rw (z, n)
less_first a b own (inr l) =
    let x : a ≡ 0 → ⊥ = λ e. omega arith in
    let y : a - own ≡ 0 → ⊥ = λ e. omega arith in
    rw (ne_eqb a 0 x, ne_eqb (a - own) 0 y)

module _ {s : List ℕ} {at end found : ℕ} where
  pub own_decimal : Misplaced false s at end 0 found → is_digit (get_or s end 0) ≡ false → (own : ℕ) → at ≡ suc own → found - own ≡ misplaced_in false (take (end - own) (drop own s)) 1 (end - at)
  own_decimal m h own e =
      let l = m.after in
      let n : own + (1 + (end - at)) ≡ end = omega arith in
      let k : own + 1 ≡ at = omega arith in
      let g = in_own s own (end - own) false (end - at) 1 (omega arith) (omega arith) (λ k a b. refl) (rw n h) in
      sym (g ∙ rw (k, ← m.first (omega arith)))

-- hexadecimal digits up to e, and behind them nothing or a point
module _ {s : List ℕ} {at e end x found : ℕ} (no_point : (k : ℕ) → at ≤ k → k < e → get_or s k 0 ≡ 0x2E → ⊥) (m : Misplaced true s at e 0 x) (hex : is_hex_digit (get_or s e 0) ≡ false) (n : Misplaced false s e end x found) (point_at : e < end → get_or s e 0 ≡ 0x2E) (last : is_digit (get_or s end 0) ≡ false) (own : ℕ) (q : at ≡ suc own) where
  abbrev r : List ℕ
  r = take (end - own) (drop own s)

  abbrev i : ℕ
  i = 1 + (e - at)

  order : (at ≤ e) × (e ≤ end)
  order = (m.after, n.after)

  there : own + i ≡ e
  there = omega (arith, order.0)

  before_point : misplaced_in true r 1 (e - at) ≡ misplaced_in true s at (e - at) - own
  before_point =
      let k : own + 1 ≡ at = omega arith in
      in_own s own (end - own) true (e - at) 1 (omega arith) (omega (arith, order.0, order.1)) (stays true s (own + 1) (e - at) (λ j a b. no_point j (omega arith) (omega (arith, order.0)))) (rw there hex) ∙ rw k

  behind_point : misplaced_in true r i (end - e) ≡ misplaced_in false s e (end - e) - own
  unfolding misplaced_in
  behind_point =
      elim (dec_lt e end) [
        | yes l ↦
            in_point r i (end - e) (byte_own s own (end - own) i (omega (arith, order.0)) ∙ ap (λ (j : ℕ). get_or s j 0) there ∙ point_at l)
            ∙ in_own s own (end - own) false (end - e) i (omega arith) (omega (arith, order.0, order.1)) (λ j a b. refl) (rw (the_end) last)
            ∙ rw there
        | no l ↦ let z : end - e ≡ 0 = omega arith in rw z (omega arith)
      ]
    where
      the_end : own + (i + (end - e)) ≡ end
      the_end = omega (arith, order.0, order.1)

  no_points : Stays true r 1 (e - at)
  no_points =
      stays true r 1 (e - at) (λ j a b z. no_point (own + j) (omega arith) (omega (arith, order.0)) (sym (byte_own s own (end - own) j (omega (arith, order.0, order.1))) ∙ z))

  low : (misplaced_in true s at (e - at) ≡ 0) ⊎ (own < misplaced_in true s at (e - at))
  low = elim (in_low true s at (e - at)) [ inl z ↦ inl z | inr l ↦ inr (omega (arith, l.0)) ]

  pub own_hex : found - own ≡ misplaced_in true r 1 (end - at)
  own_hex =
      let a = misplaced_in true s at (e - at) in
      let b = misplaced_in false s e (end - e) in
      let k : end - at ≡ (e - at) + (end - e) = omega (arith, order.0, order.1) in
      let j : misplaced_in true r 1 (end - at) ≡ first_of (a - own) (b - own) =
      ap (misplaced_in true r 1) k ∙ in_join true r (e - at) (end - e) 1 (omega arith) no_points ∙ rw (before_point, behind_point) in
      let f : found ≡ first_of a b = n.first (omega (arith, order.0)) ∙ rw (m.first (omega arith)) in
      sym (j ∙ sym (less_first a b own low) ∙ rw f)
