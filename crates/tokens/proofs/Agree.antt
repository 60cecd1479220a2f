-- How far a text agrees with a word: the laws of `agree`.
-- Assumes nothing.
use Prim.Native.Nat.{ℕ, zero, suc, ◌≤◌, ◌<◌, min}
use native.Mathlib.Decide.{dec_lt}
use native.Mathlib.Omega.{arith}
use mathlib.Core.Path.{◌≡◌, refl, ap}
use mathlib.Core.List.{List, [], ◌∷◌, ◌++◌}
use lib.Dec.{eqb}
use lib.ListN.{length, take, drop}
use borrow.Author.Tests.{ne_eqb, eqb-true}
use Rattle.lists.specs.All.{Each}
use Rattle.lists.proofs.Bools.{by_test}
use Rattle.characters.specs.Utf8.{first, chars}
use Rattle.characters.proofs.Text.{chars_nil, chars_first}
use Rattle.characters.proofs.Ascii.{chars_ascii, wide_code}
use Rattle.lexer.specs.Cut.{agree}

pub agree_most : (w l : List ℕ) → agree w l ≤ length w
unfolding agree
agree_most [] l = omega arith
agree_most (x ∷ w) [] = omega arith
agree_most (x ∷ w) (c ∷ l) =
    let ih = agree_most w l in by_test (eqb c x) (λ h. rw h (omega arith)) (λ h. rw h (omega arith))

-- with the whole word: the list begins with it
pub agree_all : (w l : List ℕ) → agree w l ≡ length w → l ≡ w ++ drop (length w) l
unfolding agree
agree_all [] l e = refl
agree_all (x ∷ w) [] e = absurd (omega arith)
agree_all (x ∷ w) (c ∷ l) e =
    by_test (eqb c x)
    (λ h.
    let f : suc (agree w l) ≡ suc (length w) = rw h at e in
    let g : agree w l ≡ length w = omega arith in
    rw (eqb-true c x h) (ap (λ (r : List ℕ). x ∷ r) (agree_all w l g)))
    (λ h. absurd (omega (arith, rw h at e)))

-- of the first n elements
pub agree_take : (w : List ℕ) (n : ℕ) (l : List ℕ) → agree w (take n l) ≡ min n (agree w l)
unfolding agree
agree_take [] n l = omega arith
agree_take (x ∷ w) zero l = omega arith
agree_take (x ∷ w) (suc n) [] = omega arith
agree_take (x ∷ w) (suc n) (c ∷ l) =
    let ih = agree_take w n l in by_test (eqb c x) (λ h. rw h (omega arith)) (λ h. rw h (omega arith))

-- a word of ASCII agrees with the bytes as far as with the characters
pub agree_chars : (w s : List ℕ) → Each (λ x. x < 0x80) w → agree w (chars s) ≡ agree w s
unfolding agree
agree_chars [] s a = refl
agree_chars (x ∷ w) [] a = rw chars_nil
agree_chars (x ∷ w) (c ∷ s) a =
    let ih = agree_chars w s a.1 in
    elim (dec_lt c 0x80) [
      | yes h ↦ by_test (eqb c x) (λ e. rw (chars_ascii c s h, e) (ap suc ih)) (λ e. rw (chars_ascii c s h, e))
      | no n ↦
          let far : (first (c ∷ s)).0 ≡ x → ⊥ = λ e. omega (arith, wide_code c s (omega arith), a.0) in
          let not : c ≡ x → ⊥ = λ e. omega (arith, a.0) in
          rw (chars_first (c ∷ s) (omega arith), ne_eqb (first (c ∷ s)).0 x far, ne_eqb c x not)
    ]
