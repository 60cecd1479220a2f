-- UNFINISHED, BY THE FIRST THREE BYTES: what the table says of bytes that more may follow is said by how many they are and by three of them.
-- Assumes nothing.
use Prim.Native.Nat.{ℕ, suc, ◌≤◌, ◌<◌}
use mathlib.Core.Path.{◌≡◌, refl, sym, ◌∙◌}
use mathlib.Core.Bool.{Bool, true, false}
use mathlib.Core.List.{List, [], ◌∷◌}
use mathlib.Core.Option.{none, some}
use native.Mathlib.Decide.{dec_le}
use native.Mathlib.Omega.{arith}
use lib.ListN.{length, get_or}
use borrow.Author.Tests.{le-leb, lt-leb, le-ltb, ne_eqb}
use Rattle.lists.proofs.Bools.{and_false, and_true}
use Rattle.characters.specs.Ranges.{Range, ◌to◌, in_range}
use Rattle.characters.specs.Utf8.{begins as starts}
use Rattle.characters.specs.Unfinished.{goes_with, unfinished}
use Rattle.characters.specs.Steps.{low, high, begun}
use Rattle.characters.proofs.Rows.{want_3, want_4, behind_1, behind_gap, behind_2, behind_3, behind_4, behind_over}

nil : (s : List ℕ) → goes_with (some []) s ≡ false
unfolding goes_with
nil [] = refl
nil (b ∷ s) = rw (le-ltb (length (b ∷ s)) 0 (omega arith))

no_row : (s : List ℕ) → goes_with none s ≡ false
unfolding goes_with
no_row s = refl

-- more than three bytes behind a first one are no beginning
many : (a b c d : ℕ) (s : List ℕ) → begun (suc (length (b ∷ c ∷ d ∷ s))) a b c ≡ false
unfolding begun
many a b c d s =
    let m = suc (length (b ∷ c ∷ d ∷ s)) in
    rw (ne_eqb m 1 (λ e. omega (arith, e)), ne_eqb m 2 (λ e. omega (arith, e)), ne_eqb m 3 (λ e. omega (arith, e)), and_false)

over : (n : ℕ) (s : List ℕ) (more : List Range) → n ≡ length more → n ≤ length s → goes_with (some more) s ≡ false
unfolding goes_with
over n s more e h = rw (le-ltb (length s) (length more) (omega arith))

module _ (a : ℕ) where
  -- too low or too high for a first byte that others follow
  none_2 : in_range a (0xC2 to 0xF4) ≡ false → in_range a (0xE0 to 0xF4) ≡ false → in_range a (0xF0 to 0xF4) ≡ false → (s : List ℕ) → false ≡ begun (suc (length s)) a (get_or s 0 0) (get_or s 1 0)
  unfolding begun
  none_2 e f g [] = sym e
  none_2 e f g (b ∷ []) = simp (f, and_false)
  none_2 e f g (b ∷ c ∷ []) = simp (g, and_false)
  none_2 e f g (b ∷ c ∷ d ∷ s) = sym (many a b c d s)

  one_2 : in_range a (0xC2 to 0xF4) ≡ true → in_range a (0xE0 to 0xF4) ≡ false → in_range a (0xF0 to 0xF4) ≡ false → (s : List ℕ) → goes_with (some (0x80 to 0xBF ∷ [])) s ≡ begun (suc (length s)) a (get_or s 0 0) (get_or s 1 0)
  unfolding begun goes_with starts
  one_2 e f g [] = sym e
  one_2 e f g (b ∷ []) = simp (f, and_false)
  one_2 e f g (b ∷ c ∷ []) = simp (g, and_false)
  one_2 e f g (b ∷ c ∷ d ∷ s) = over 1 (b ∷ c ∷ d ∷ s) (0x80 to 0xBF ∷ []) refl (omega arith) ∙ sym (many a b c d s)

  two_2 : in_range a (0xC2 to 0xF4) ≡ true → in_range a (0xE0 to 0xF4) ≡ true → in_range a (0xF0 to 0xF4) ≡ false → (s : List ℕ) → goes_with (want_3 a) s ≡ begun (suc (length s)) a (get_or s 0 0) (get_or s 1 0)
  unfolding begun goes_with starts
  two_2 e f g [] = sym e
  two_2 e f g (b ∷ []) = simp (f, and_true)
  two_2 e f g (b ∷ c ∷ []) = simp (g, and_false)
  two_2 e f g (b ∷ c ∷ d ∷ s) = over 2 (b ∷ c ∷ d ∷ s) (low a to high a ∷ 0x80 to 0xBF ∷ []) refl (omega arith) ∙ sym (many a b c d s)

  three_2 : in_range a (0xC2 to 0xF4) ≡ true → in_range a (0xE0 to 0xF4) ≡ true → in_range a (0xF0 to 0xF4) ≡ true → (s : List ℕ) → goes_with (want_4 a) s ≡ begun (suc (length s)) a (get_or s 0 0) (get_or s 1 0)
  unfolding begun goes_with starts
  three_2 e f g [] = sym e
  three_2 e f g (b ∷ []) = simp (f, and_true)
  three_2 e f g (b ∷ c ∷ []) = simp (g, and_true)
  three_2 e f g (b ∷ c ∷ d ∷ s) = over 3 (b ∷ c ∷ d ∷ s) (low a to high a ∷ 0x80 to 0xBF ∷ 0x80 to 0xBF ∷ []) refl (omega arith) ∙ sym (many a b c d s)

  out : (lo hi : ℕ) → a < lo → in_range a (lo to hi) ≡ false
  out lo hi h = simp (lt-leb lo a h)

  past : (lo hi : ℕ) → hi < a → in_range a (lo to hi) ≡ false
  past lo hi h = simp (lt-leb a hi h, and_false)

  inn : (lo hi : ℕ) → lo ≤ a → a ≤ hi → in_range a (lo to hi) ≡ true
  inn lo hi g h = simp (le-leb lo a g, le-leb a hi h)

  pub unfinished_is : (s : List ℕ) → unfinished (a ∷ s) ≡ begun (suc (length s)) a (get_or s 0 0) (get_or s 1 0)
  unfolding unfinished
  unfinished_is s =
      elim (dec_le a 0x7F) [
        | yes h ↦ rw (behind_1 a h) (nil s ∙ none_2 (out 0xC2 0xF4 (omega arith)) (out 0xE0 0xF4 (omega arith)) (out 0xF0 0xF4 (omega arith)) s)
        | no n₁ ↦ elim (dec_le a 0xC1) [
          | yes h ↦ rw (behind_gap a (omega arith) h) (no_row s ∙ none_2 (out 0xC2 0xF4 (omega arith)) (out 0xE0 0xF4 (omega arith)) (out 0xF0 0xF4 (omega arith)) s)
          | no n₂ ↦ elim (dec_le a 0xDF) [
            | yes h ↦ rw (behind_2 a (omega arith) h) (one_2 (inn 0xC2 0xF4 (omega arith) (omega arith)) (out 0xE0 0xF4 (omega arith)) (out 0xF0 0xF4 (omega arith)) s)
            | no n₃ ↦ elim (dec_le a 0xEF) [
              | yes h ↦ rw (behind_3 a (omega arith) h) (two_2 (inn 0xC2 0xF4 (omega arith) (omega arith)) (inn 0xE0 0xF4 (omega arith) (omega arith)) (out 0xF0 0xF4 (omega arith)) s)
              | no n₄ ↦ elim (dec_le a 0xF4) [
                | yes h ↦ rw (behind_4 a (omega arith) h) (three_2 (inn 0xC2 0xF4 (omega arith) h) (inn 0xE0 0xF4 (omega arith) h) (inn 0xF0 0xF4 (omega arith) h) s)
                | no n₅ ↦ rw (behind_over a (omega arith)) (no_row s ∙ none_2 (past 0xC2 0xF4 (omega arith)) (past 0xE0 0xF4 (omega arith)) (past 0xF0 0xF4 (omega arith)) s)
              ]
            ]
          ]
        ]
      ]

-- ---- a text with a first byte
pub unfinished_text : (s : List ℕ) → (length s ≡ 0 → ⊥) → {a b c : ℕ} → a ≡ get_or s 0 0 → b ≡ get_or s 1 0 → c ≡ get_or s 2 0 → {r : Bool} → r ≡ begun (length s) a b c → r ≡ unfinished s
unfinished_text [] n e f g h = absurd (n refl)
unfinished_text (x ∷ s) n e f g h = h ∙ rw (e, f, g) (sym (unfinished_is x s))

pub unfinished_nil : (s : List ℕ) → length s ≡ 0 → true ≡ unfinished s
unfolding unfinished
unfinished_nil [] e = refl
unfinished_nil (x ∷ s) e = absurd (omega (arith, e))
