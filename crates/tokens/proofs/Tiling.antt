-- The tokens tile the text, and each is formed as it has to be.
-- Assumes nothing.
use Prim.Native.Nat.{ℕ, ◌-◌}
use native.Mathlib.Omega.{arith}
use mathlib.Core.Path.{◌≡◌, refl, ap}
use mathlib.Core.Bool.{true, not, ◌&&◌}
use mathlib.Core.List.{List, ◌∷◌}
use lib.ListN.{length}
use lib.Dec.{leb, eqb}
use borrow.Author.Tests.{leb-true}
use Rattle.lists.proofs.Bools.{both, or_true}
use Rattle.lists.proofs.Cut.{by_length}
use Rattle.lists.proofs.Ends.{ends_length}
use Rattle.characters.specs.Utf8.{chars}
use Rattle.characters.specs.Text.{byte_length}
use Rattle.characters.proofs.Text.{bytes_chars, ends_bytes}
use Rattle.characters.proofs.Valid.{width_some}
use Rattle.cutters.specs.Kinds.{is_plain, is_literal}
use Rattle.lexer.specs.Cut.{Letters, Piece, advance, next_token, tokens}
use Rattle.lexer.specs.Unicode.{unicode}
use Rattle.lexer.specs.Promises.{tokens3}
use Rattle.lexer.proofs.Shapes.{Shape, plain, literal, advance_shape, ends_advance, tokens_nil, tokens_cons}
use Rattle.tokens.specs.Tiling.{Formed, Tiles}

-- no kind is both
not_both : (k : ℕ) → is_plain k ≡ true → is_literal k ≡ true → ⊥
not_both k p l =
    let a = (both (leb k 37) (not (eqb k 20)) (both (leb 1 k) (leb k 37 && not (eqb k 20)) p).1).0 in
    let b = (both (leb 40 k) (leb k 61 && not (eqb k 45)) l).0 in
    omega (arith, leb-true k 37 a, leb-true 40 k b)

-- the record of a token of that shape
pub formed_of : (c : ℕ) (t : List ℕ) (a : Piece) → Shape c t a →
    Formed (record { kind = a.kind; len = byte_length (c ∷ t) - byte_length a.rest; suffix = byte_length (c ∷ t) - byte_length a.from_suffix })
unfolding byte_length
formed_of c t a (plain k m e) =
    record {
      listed = rw k;
      some = omega (arith, width_some c, ends_bytes e);
      plain = λ h. omega (arith, ap byte_length m);
      literal = λ h. absurd (not_both a.kind k h);
    }
formed_of c t a (literal k m e) =
    record {
      listed = rw k (or_true (is_plain a.kind));
      some = omega (arith, width_some c, ends_bytes m, ends_bytes e);
      plain = λ h. absurd (not_both a.kind h k);
      literal = λ h. (omega (arith, width_some c, ends_bytes m), omega (arith, ends_bytes m, ends_bytes e));
    }

module _ (u : Letters) (profile : ℕ) where
  tiles_cons : (c : ℕ) (t : List ℕ) → Tiles (tokens u profile (advance u profile c t).rest) (byte_length (advance u profile c t).rest) → Tiles (tokens u profile (c ∷ t)) (byte_length (c ∷ t))
  unfolding next_token byte_length
  tiles_cons c t h =
      let a = advance u profile c t in
      rw (tokens_cons u profile c t)
      (record { each = (formed_of c t a (advance_shape u profile c t), h.each); all = omega (arith, h.all, ends_bytes (ends_advance u profile c t)) })

  pub tiles_chars : (l : List ℕ) → Tiles (tokens u profile l) (byte_length l)
  unfolding byte_length
  tiles_chars =
      by_length (λ (l : List ℕ). Tiles (tokens u profile l) (byte_length l)) (rw (tokens_nil u profile) (record { each = tt; all = refl }))
      (λ c t ih. tiles_cons c t (ih (advance u profile c t).rest (ends_length (ends_advance u profile c t))))

-- ---- the theorem: each token of a text has a kind that is listed and at least one byte, the suffix start of its kind, and the lengths add
-- up to the text's
pub tiles : (profile : ℕ) (s : List ℕ) → Tiles (tokens3 profile s) (length s)
unfolding tokens3
tiles profile s = rw (← bytes_chars s) (tiles_chars unicode profile (chars s))
