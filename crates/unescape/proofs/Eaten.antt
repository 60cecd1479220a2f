-- Bytes eaten one by one behind a place of a text, of which only ASCII is eaten.
-- Assumes nothing.
use Prim.Native.Nat.{ℕ, ◌+◌, ◌-◌, ◌≤◌, ◌<◌}
use native.Mathlib.Omega.{arith}
use mathlib.Core.Path.{◌≡◌, refl, ap, ◌∙◌}
use mathlib.Core.Bool.{Bool, true, false}
use mathlib.Core.List.{List}
use lib.ListN.{length, get_or, take, drop, length-drop}
use borrow.Author.Tests.{ne_eqb}
use Rattle.std.proofs.lemmas.List.{take_all, get_or-drop}
use Rattle.characters.proofs.Ascii.{Going, going_on, going_halt, going_end}
use Rattle.unescape.specs.Bodies.{is_skipped}
use Rattle.unescape.specs.Steps.{AteOn}

-- what stands behind a place
abbrev pub behind : List ℕ → ℕ → List ℕ
behind s at = take (length s - at) (drop at s)

behind_is : (s : List ℕ) (at : ℕ) → behind s at ≡ drop at s
behind_is s at = take_all (length s - at) (drop at s) (omega (arith, length-drop at s))

module _ {S : Type 0} {p : ℕ → Bool} {g : S → ℕ → S} (none : (c : ℕ) → 0x80 ≤ c → p c ≡ false) {s : List ℕ} {at i : ℕ} {x₀ x : S} (e : Going p g s at x₀ (at + i) x) where
  pub eaten_end : {s' : List ℕ} → length (behind s at) ≤ i → s' ≡ s → AteOn p g s at x₀ s' (length s') x
  eaten_end h k =
      let l : length s ≤ at + i = omega (arith, rw (behind_is s at) at h, length-drop at s) in
      let q : at + i ≡ length s = omega (arith, e.within) in
      record { same = k; ate = rw k (rw q at (going_end none e l)) }

  module _ (h : i < length (behind s at)) where
    inside : at + i < length s
    inside = omega (arith, rw (behind_is s at) at h, length-drop at s)

    byte : get_or (behind s at) i 0 ≡ get_or s (at + i) 0
    byte = ap (λ (l : List ℕ). get_or l i 0) (behind_is s at) ∙ get_or-drop at s i 0

    pub eaten_halt : {s' : List ℕ} {at' : ℕ} → p (get_or (behind s at) i 0) ≡ false → s' ≡ s → at' ≡ at → AteOn p g s at x₀ s' (at' + i) x
    eaten_halt f k u = record { same = k; ate = rw u (going_halt none e byte inside refl f) }

    pub eaten_more : {x' : S} → p (get_or (behind s at) i 0) ≡ true → x' ≡ g x (get_or (behind s at) i 0) → Going p g s at x₀ (at + (i + 1)) x'
    eaten_more f w = going_on e byte inside refl f (omega arith) w

-- only ASCII is skipped
pub skipped_wide : (c : ℕ) → 0x80 ≤ c → is_skipped c ≡ false
skipped_wide c h =
    rw (ne_eqb c 0x20 (λ e. omega arith), ne_eqb c 0x09 (λ e. omega arith), ne_eqb c 0x0A (λ e. omega arith), ne_eqb c 0x0D (λ e. omega arith))
