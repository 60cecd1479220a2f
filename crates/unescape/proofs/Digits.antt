-- Hexadecimal digits: the laws of `to_digit`, and of the loop that reads the digits of \u{..}.
-- Assumes nothing.
use Prim.Native.Nat.{ℕ, suc, ◌+◌, ◌-◌, ◌*◌, ◌^◌, ◌≤◌, ◌<◌, min}
use native.Mathlib.Omega.{arith}
use native.Mathlib.Nat.{pow-suc, pow-le-pow_right}
use mathlib.Core.Path.{◌≡◌, refl}
use mathlib.Core.Bool.{true, false, false≢true}
use lib.Dec.{eqb, ltb}
use borrow.Author.Tests.{lt-leb, ltb-true, ltb-false, ne_eqb}
use Rattle.std.specs.Prelude.{Option, Some, None, IfSome}
use Rattle.std.specs.Bool.{then_some}
use Rattle.unescape.specs.declared.escapes.Digits.{Digits}
use Rattle.unescape.specs.Steps.{is_digit, with_digit}
use Rattle.lists.proofs.Bools.{by_test, and_false}
use Rattle.characters.specs.Ranges.{◌to◌, in_range}
use Rattle.characters.proofs.Rows.{in_range_lem}
use Rattle.unescape.specs.Escapes.{to_digit, or_underscore, add_digit}

-- ---- the value of a digit, by its range
-- what lies beyond the high end of a range does not lie in it
beyond : (lo hi c : ℕ) → hi < c → in_range c (lo to hi) ≡ false
beyond lo hi c h = simp (lt-leb c hi h, and_false)

module _ (c : ℕ) {r : ℕ} where
  pub digit_decimal : in_range c (0x30 to 0x39) ≡ true → r ≡ c - 0x30 → r ≡ to_digit c
  unfolding to_digit
  digit_decimal h e = rw h e

  pub digit_upper : in_range c (0x41 to 0x46) ≡ true → r ≡ c - 0x41 + 10 → r ≡ to_digit c
  unfolding to_digit
  digit_upper h e = let l = in_range_lem 0x41 0x46 c h in rw (beyond 0x30 0x39 c (omega arith), h) e

  pub digit_lower : in_range c (0x61 to 0x66) ≡ true → r ≡ c - 0x61 + 10 → r ≡ to_digit c
  unfolding to_digit
  digit_lower h e = let l = in_range_lem 0x61 0x66 c h in rw (beyond 0x30 0x39 c (omega arith), beyond 0x41 0x46 c (omega arith), h) e

  pub digit_none : in_range c (0x30 to 0x39) ≡ false → in_range c (0x41 to 0x46) ≡ false → in_range c (0x61 to 0x66) ≡ false → r ≡ 16 → r ≡ to_digit c
  unfolding to_digit
  digit_none h k l e = rw (h, k, l) e

  pub digit_most : r ≡ to_digit c → r ≤ 16
  unfolding to_digit
  digit_most e =
      by_test (in_range c (0x30 to 0x39)) (λ h. omega (arith, rw h at e, in_range_lem 0x30 0x39 c h))
      (λ h. by_test (in_range c (0x41 to 0x46)) (λ k. omega (arith, rw (h, k) at e, in_range_lem 0x41 0x46 c k))
      (λ k. by_test (in_range c (0x61 to 0x66)) (λ l. omega (arith, rw (h, k, l) at e, in_range_lem 0x61 0x66 c l)) (λ l. omega (arith, rw (h, k, l) at e))))

-- the value, where it is that of a digit
pub digit_kept : (c : ℕ) {v : ℕ} {d : Option ℕ} → v ≡ to_digit c → d ≡ then_some (ltb v 16) v → is_digit c d
digit_kept c {v} e f =
    by_test (ltb v 16) (λ h. rw (f, h) (e, ltb-true v 16 h))
    (λ h. rw (f, h) (omega (arith, e, digit_most c e, ltb-false v 16 h)))

-- none before `0`, and none behind `f`, is a digit
pub digit_below : (c : ℕ) → c < 0x30 → 16 ≡ to_digit c
digit_below c h = digit_none c (simp (lt-leb 0x30 c h)) (simp (lt-leb 0x41 c (omega arith))) (simp (lt-leb 0x61 c (omega arith))) refl

pub digit_above : (c : ℕ) → 0x66 < c → 16 ≡ to_digit c
digit_above c h = digit_none c (beyond 0x30 0x39 c (omega arith)) (beyond 0x41 0x46 c (omega arith)) (beyond 0x61 0x66 c h) refl

-- only ASCII is a digit
pub digit_wide : (c : ℕ) → 0x80 ≤ c → or_underscore c ≡ false
digit_wide c h = rw (ne_eqb c 0x5F (λ e. omega arith), ← digit_above c (omega arith))

-- ---- the value of the first six digits
abbrev cap : ℕ → ℕ
cap n = 16 ^ min n 6

-- n digits of the value v
pub record Small (n v : ℕ) : Type 0 where
  pub below : v < cap n

pub small_first : {n v : ℕ} → n ≡ 1 → v < 16 → Small n v
small_first e h = rw e (record { below = h })

pub small_cap : {n v : ℕ} → Small n v → n < 6 → v < 1048576
small_cap {n} {v} s h =
    let e : min n 6 ≡ n = omega arith in
    let k : 16 ^ n ≤ 16 ^ 5 = pow-le-pow_right {n = 16} (omega arith) {i = n} {j = 5} (omega arith) in
    let b : v < 16 ^ n = rw e at s.below in
    omega arith

small_digit : (n v d : ℕ) → Small n v → n < 6 → d < 16 → Small (n + 1) (v * 16 + d)
small_digit n v d s h k =
    let e : min n 6 ≡ n = omega arith in
    let f : min (n + 1) 6 ≡ suc n = omega arith in
    let b : v < 16 ^ n = rw e at s.below in
    let p = pow-suc 16 n in
    record { below = rw (f, p) (omega arith) }

-- ---- what a character behind the first digit does
-- no underscore is a digit, and what is neither is not eaten
not_underscore : (c : ℕ) {d : ℕ} → d ≡ to_digit c → d < 16 → eqb c 0x5F ≡ false
unfolding to_digit
not_underscore c e l = ne_eqb c 0x5F (λ h. omega (arith, rw h at e))

underscore : (c : ℕ) → 16 ≡ to_digit c → or_underscore c ≡ true → eqb c 0x5F ≡ true
underscore c e h = by_test (eqb c 0x5F) (λ k. k) (λ k. absurd (false≢true (rw (k, ← e) at h)))

-- with a digit more, or none
pub digit_adds : (c : ℕ) (x : Digits) (d : Option ℕ) → is_digit c d → or_underscore c ≡ true → ((with_digit x d).count, (with_digit x d).value) ≡ add_digit (x.count, x.value) c
digit_adds c x None i h = rw (underscore c i h)
digit_adds c x (Some d) i h = rw (not_underscore c i.0 i.1, ← i.0)

pub small_on : (c : ℕ) (x : Digits) (d : Option ℕ) → is_digit c d → Small x.count x.value → Small (with_digit x d).count (with_digit x d).value
small_on c x None i s = s
small_on c x (Some d) i s =
    by_test (ltb x.count 6) (λ k. rw k (small_digit x.count x.value d s (ltb-true x.count 6 k) i.1))
    (λ k.
    let l = ltb-false x.count 6 k in
    let e : min x.count 6 ≡ 6 = omega arith in
    let f : min (x.count + 1) 6 ≡ 6 = omega arith in
    rw k (record { below = rw f (rw e at s.below) }))

-- what is asked of it
pub room_on : (c : ℕ) (x : Digits) (d : Option ℕ) → is_digit c d → Small x.count x.value → x.count < 18446744073709551615 →
    IfSome d (λ v. (v < 16) × (x.count < 18446744073709551615) × (x.count < 6 → x.value < 1048576))
room_on c x None i s l = tt
room_on c x (Some d) i s l = (i.1, l, small_cap s)

-- no more digits than bytes
pub count_few : (at : ℕ) (x : Digits) (d : Option ℕ) → x.count ≤ at + 1 → (with_digit x d).count ≤ at + 1 + 1
count_few at x None h = omega (arith, h)
count_few at x (Some d) h = omega (arith, h)
