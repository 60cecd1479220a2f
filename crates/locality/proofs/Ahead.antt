-- Tokens that have two whole characters behind them are the same however the text goes on.
-- Assumes nothing.
use Prim.Native.Nat.{ℕ, ◌≤◌}
use native.Mathlib.Omega.{arith}
use mathlib.Core.Path.{◌≡◌, refl, ap, sym, ◌∙◌}
use mathlib.Core.List.{List, [], ◌∷◌, ◌++◌}
use lib.ListN.{length}
use Rattle.characters.specs.Utf8.{chars, width, Encoded, WellFormed}
use Rattle.characters.specs.Text.{byte_length}
use Rattle.characters.proofs.Valid.{width_some, read_back, well_formed_encoded, encode_bytes, read_all}
use Rattle.cutters.specs.Records.{Token, total}
use Rattle.lexer.specs.Cut.{Letters, next_token, tokens}
use Rattle.lexer.specs.Unicode.{unicode}
use Rattle.lexer.specs.Promises.{tokens3}
use Rattle.locality.specs.Phases.{act, Usual}
use Rattle.locality.proofs.Phases.{two, ends}
use Rattle.locality.proofs.Swap.{swap_two}
use Rattle.locality.proofs.Cuts.{Item, texts, Cuts, cuts_text, split, cuts_tokens, total_bytes}
use Rattle.locality.proofs.Between.{next_swap, cuts_swap}
use Rattle.locality.proofs.Clause.{unicode_usual}

module _ (u : Letters) (usual : Usual u) (profile : ℕ) where
  -- ---- one token, on characters
  pub next_ahead : (c : ℕ) (e : List ℕ) (x y : ℕ) (r s : List ℕ) (k : Token) → next_token u profile c (e ++ x ∷ y ∷ r) ≡ (k, x ∷ y ∷ r) → next_token u profile c (e ++ x ∷ y ∷ s) ≡ (k, x ∷ y ∷ s)
  next_ahead c e x y r s k h = next_swap u usual profile (swap_two (act u) (ends u) (two u) x y r s) c e k tt h

  -- TWO CHARACTERS BEHIND, on characters: where tokens are cut from a text and x ∷ y ∷ r is left, the same are cut from what they took, and x ∷ y ∷ s is left
  pub ahead_chars : (i : List Item) {l : List ℕ} (x y : ℕ) (r s : List ℕ) → Cuts u profile i l (x ∷ y ∷ r) → Cuts u profile i (texts i ++ x ∷ y ∷ s) (x ∷ y ∷ s)
  ahead_chars i x y r s h = cuts_swap u usual profile (swap_two (act u) (ends u) (two u) x y r s) h

-- ---- on bytes
-- two fronts of a list that take as many bytes are the same
same_front : (x y r s : List ℕ) → x ++ r ≡ y ++ s → byte_length x ≡ byte_length y → (x ≡ y) × (r ≡ s)
unfolding byte_length
same_front [] [] r s e n = (refl, e)
same_front [] (d ∷ y) r s e n = absurd (omega (arith, width_some d))
same_front (c ∷ x) [] r s e n = absurd (omega (arith, width_some c))
same_front (c ∷ x) (d ∷ y) r s e n =
    let h : c ≡ d = cc in
    let t : x ++ r ≡ y ++ s = cc in
    let i = same_front x y r s t (omega (arith, ap width h)) in
    (rw (h, i.0), i.1)

-- the characters of a text that is well-formed up to s
pub read_front : (a s : List ℕ) (e : Encoded a) → chars (a ++ s) ≡ e.of ++ chars s
read_front a s e = ap (λ (z : List ℕ). chars (z ++ s)) e.same ∙ read_back e.of s e.scalars

module _ (profile : ℕ) where
  -- behind tokens that take the characters A stand those of D, two at least
  front_same : (A D r s : List ℕ) (p q : List Token) → 2 ≤ length D → tokens unicode profile (A ++ (D ++ r)) ≡ p ++ q → total p ≡ byte_length A → tokens unicode profile (A ++ (D ++ s)) ≡ p ++ tokens unicode profile (D ++ s)
  front_same A [] r s p q l h n = absurd (omega arith)
  front_same A (x ∷ []) r s p q l h n = absurd (omega arith)
  front_same A (x ∷ y ∷ D) r s p q l h n =
      let t = split unicode profile p q (A ++ (x ∷ y ∷ (D ++ r))) h in
      let e = cuts_text unicode profile t.cuts in
      let m : byte_length (texts t.items) ≡ byte_length A = omega (arith, total_bytes unicode profile t.cuts, ap total t.same) in
      let f = same_front (texts t.items) A t.left (x ∷ y ∷ (D ++ r)) (sym e) m in
      let c = ahead_chars unicode unicode_usual profile t.items x y (D ++ r) (D ++ s) (rw f.1 at t.cuts) in
      ap (λ (z : List ℕ). tokens unicode profile (z ++ x ∷ y ∷ (D ++ s))) (sym f.0) ∙ cuts_tokens unicode profile c
      ∙ ap (λ (z : List Token). z ++ tokens unicode profile (x ∷ y ∷ (D ++ s))) t.same

  -- TWO WHOLE CHARACTERS BEHIND: where tokens p of a text take the bytes a, and behind these stand the bytes d of two whole characters or more, then
  -- p are the first tokens of every text that begins with a and d, whatever bytes r' stand behind these, and the rest are the tokens from d on
  pub two_behind : (a d r r' : List ℕ) (p q : List Token) → WellFormed a → WellFormed d → 2 ≤ length (chars d) → tokens3 profile (a ++ (d ++ r)) ≡ p ++ q → total p ≡ length a →
      tokens3 profile (a ++ (d ++ r')) ≡ p ++ tokens3 profile (d ++ r')
  unfolding tokens3
  two_behind a d r r' p q f g n h m =
      let A = well_formed_encoded a f in
      let D = well_formed_encoded d g in
      let view : (s : List ℕ) → chars (a ++ (d ++ s)) ≡ A.of ++ (D.of ++ chars s) = λ s. read_front a (d ++ s) A ∙ ap (λ (z : List ℕ). A.of ++ z) (read_front d s D) in
      let i : 2 ≤ length D.of = omega (arith, ap length (ap chars D.same ∙ read_all D.of D.scalars)) in
      let j : total p ≡ byte_length A.of = omega (arith, ap length A.same, encode_bytes A.of A.scalars) in
      ap (tokens unicode profile) (view r')
      ∙ front_same A.of D.of (chars r) (chars r') p q i (ap (tokens unicode profile) (sym (view r)) ∙ h) j
      ∙ ap (λ (z : List ℕ). p ++ tokens unicode profile z) (sym (read_front d r' D))
