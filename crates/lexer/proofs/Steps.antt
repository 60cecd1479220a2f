-- What the functions of the cutter say of the places they reach, as `search` takes the laws: each premise is what a call or a test gives,
-- and what the code computes is an equation.
-- Assumes nothing.
use Prim.Native.Nat.{ℕ, ◌+◌, ◌≤◌}
use native.Mathlib.Decide.{dec_lt}
use native.Mathlib.Omega.{arith}
use mathlib.Core.Path.{◌≡◌, refl, ap, sym, ◌∙◌}
use mathlib.Core.List.{List, tail}
use lib.ListN.{length, drop}
use Rattle.characters.specs.Utf8.{first}
use Rattle.characters.specs.Text.{Decoded, left}
use Rattle.characters.specs.Steps.{Place}
use Rattle.characters.proofs.Text.{decoded_point, decoded_end, left_end}
use Rattle.cutters.specs.Digits.{peek}

-- ---- the next character, and the place behind it
pub first_is : {s : List ℕ} {at code wide : ℕ} → Decoded s at code wide → code ≡ peek (left s at)
first_is {s} {at} {code} {wide} d =
    elim (dec_lt at (length s)) [
      | yes h ↦ sym (ap peek (decoded_point d h).view)
      | no n ↦ (decoded_end d (omega arith)).0 ∙ sym (ap peek (left_end s at (omega arith)))
    ]

-- the character alone
pub peeked : (s : List ℕ) (at : ℕ) {code : ℕ} → code ≡ (first (drop at s)).0 → code ≡ peek (left s at)
peeked s at {code} e =
    let d : Decoded s at code (first (drop at s)).1 = record { code_is = e; wide_is = refl } in
    first_is d

pub bumped : {s : List ℕ} {at code wide : ℕ} → Decoded s at code wide → at ≤ length s → Place s at (at + wide) (tail (left s at))
bumped {s} {at} {code} {wide} d l =
    elim (dec_lt at (length s)) [
      | yes h ↦ let c = decoded_point d h in record { after = omega arith; within = c.within; there = sym (ap tail c.view) }
      | no n ↦
          let z = (decoded_end d (omega arith)).1 in
          record { after = omega arith; within = omega arith; there = left_end s (at + wide) (omega arith) ∙ sym (ap tail (left_end s at (omega arith))) }
    ]
