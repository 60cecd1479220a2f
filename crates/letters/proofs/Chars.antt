-- A number that is no scalar value passes none of the tests on single characters; and white space below 64 by the bits of one number.
-- Assumes nothing.
use mathlib.Core.Path.{◌≡◌, refl}
use mathlib.Core.Bool.{Bool, true, false, not}
use Prim.Native.Nat.{ℕ, ◌/◌, ◌%◌, ◌^◌, ◌<◌}
use lib.Dec.{T, eqb}
use borrow.Author.Tests.{eqb-true}
use native.Mathlib.Omega.{arith}
use Rattle.lists.proofs.Bools.{by_test}
use Rattle.characters.specs.Utf8.{is_scalar}
use Rattle.characters.specs.Ranges.{in_table}
use Rattle.characters.proofs.First.{scalar_low}
use Rattle.characters.proofs.Rows.{each}
use Rattle.ucd.proofs.Rising.{scalar_in, start_scalar, continue_scalar}
use Rattle.letters.specs.Chars.{whitespace, is_whitespace, is_id_start, is_id_continue}

module _ (c : ℕ) where
  pub whitespace_scalar : is_whitespace c ≡ true → is_scalar c ≡ true
  unfolding whitespace
  whitespace_scalar = scalar_in whitespace tt c

  pub id_start_scalar : is_id_start c ≡ true → is_scalar c ≡ true
  id_start_scalar h =
      by_test (eqb c 0x5F) (λ e. let p = eqb-true c 0x5F e in scalar_low c (omega arith)) (λ e. start_scalar c (rw e at h))

  pub id_continue_scalar : is_id_continue c ≡ true → is_scalar c ≡ true
  id_continue_scalar = continue_scalar c

-- ---- white space below 64: one test, which antt computes, at each of these numbers
abbrev agree : Bool → Bool → Bool
agree true b = b
agree false b = not b

agreed : (a b : Bool) → T (agree a b) → a ≡ b
agreed true true t = refl
agreed true false t = absurd t
agreed false true t = absurd t
agreed false false t = refl

abbrev low_space : ℕ → Bool
low_space c = eqb (0x100003E00 / 2 ^ c % 2) 1

pub low_spaces : (c : ℕ) → c < 64 → low_space c ≡ is_whitespace c
unfolding whitespace in_table
low_spaces c h = agreed (low_space c) (is_whitespace c) (each (λ k. agree (low_space k) (is_whitespace k)) 64 tt c h)
