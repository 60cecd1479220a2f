-- The tokens of a text stored one by one: the place behind i of them, and the row then.
-- Assumes nothing.
use Prim.Native.Nat.{ℕ, zero, suc, ◌+◌, ◌≤◌, ◌<◌}
use native.Mathlib.Omega.{arith}
use native.Mathlib.Nat.{zero-add}
use mathlib.Core.Path.{◌≡◌, refl, sym, ap, ◌∙◌}
use mathlib.Core.List.{List, [], ◌∷◌, ◌++◌}
use lib.ListN.{length, drop, length-set, length-drop}
use lib.Seq.{sets, sets-eq, drop-drop}
use lib.Dec.{ltb}
use borrow.Author.Tests.{ltb-true, ltb-false}
use Rattle.lists.proofs.Bools.{by_test}
use Rattle.characters.specs.Text.{left}
use Rattle.characters.proofs.Text.{point_at, bytes_chars}
use Rattle.cutters.specs.Records as definitions
use Rattle.cutters.specs.Records.{total}
use Rattle.lexer.specs.Cut.{Letters, next_token}
use Rattle.lexer.proofs.Places.{tokens_first, none_left}
use Rattle.tokens.proofs.Tiling.{tiles_chars}
use Rattle.rows.specs.Rows.{records}
use Rattle.lexer.specs.Promises.{front, tokens_by}
use Rattle.rows.specs.Steps.{record_at, place_after, record_no, row_after, Filled}
use Rattle.rows.specs.declared.Token.{Token}

pub length_records : (s : List ℕ) (at : ℕ) (ts : List definitions.Token) → length (records s at ts) ≡ length ts
unfolding records
length_records s at [] = refl
length_records s at (t ∷ ts) = ap suc (length_records s (at + t.len) ts)

module _ (u : Letters) (profile : ℕ) (s : List ℕ) where
  abbrev from : ℕ → List definitions.Token
  from at = tokens_by u profile (drop at s)

  -- the token at a place before the end
  record Stepped (at : ℕ) : Type 0 where
    pub token : definitions.Token
    pub first_is : front (from at) ≡ token
    pub tokens_are : from at ≡ token ∷ from (at + token.len)
    pub within : at + token.len ≤ length s

  stepped : (at : ℕ) → at < length s → Stepped at
  unfolding front
  stepped at h =
      let c = point_at s at h in
      let p = (next_token u profile _ _).0 in
      let e : from at ≡ p ∷ tokens_by u profile (drop p.len (drop at s)) = tokens_first u profile _ _ (drop at s) c.view in
      let f : from at ≡ p ∷ from (at + p.len) = e ∙ rw drop-drop in
      record {
        token = p;
        first_is = rw f;
        tokens_are = f;
        within = omega (arith, ap total f, (tiles_chars u profile (left s at)).all, bytes_chars (drop at s), length-drop at s);
      }

  -- i tokens are stored in a row: to go on from here comes to the same
  pub record Filling (row : List Token) (i : ℕ) : Type 0 where
    pub within : place_after u profile s i ≤ length s
    pub count : i + length (from (place_after u profile s i)) ≡ length (tokens_by u profile s)
    pub same : sets (row_after u profile s row i) i (records s (place_after u profile s i) (from (place_after u profile s i))) ≡ sets row 0 (records s 0 (tokens_by u profile s))

  filling_on : (row : List Token) (i : ℕ) → Filling row i → place_after u profile s i < length s → Filling row (suc i)
  unfolding records
  filling_on row i f h =
      let at = place_after u profile s i in
      let d = stepped at h in
      let e : from at ≡ d.token ∷ from (at + (record_at u profile s at).len) = d.tokens_are ∙ rw d.first_is in
      record {
        within = omega (arith, d.within, ap (λ (t : definitions.Token). t.len) d.first_is);
        count = omega (arith, f.count, ap length e);
        same = (rw d.first_is (ap (λ (ts : List definitions.Token). sets (row_after u profile s row i) i (records s at ts)) (sym d.tokens_are))) ∙ f.same;
      }

  pub filling : (row : List Token) (i : ℕ) → i ≤ length (tokens_by u profile s) → Filling row i
  filling row zero h = record { within = omega arith; count = omega arith; same = refl }
  filling row (suc i) h =
      let f = filling row i (omega (arith, h)) in
      by_test (ltb (place_after u profile s i) (length s))
      (λ t. filling_on row i f (ltb-true _ _ t))
      (λ t. absurd (omega (arith, h, f.count, ap length (none_left u profile s (place_after u profile s i) (ltb-false _ _ t)))))

  -- ---- as `fill` asks them
  module _ (row : List Token) where
    pub row_length : (i : ℕ) → length (row_after u profile s row i) ≡ length row
    row_length zero = refl
    row_length (suc i) = length-set (row_after u profile s row i) i (record_no u profile s i) ∙ row_length i

    pub not_all : (i : ℕ) → i ≤ length (tokens_by u profile s) → place_after u profile s i < length s → i < length (tokens_by u profile s)
    not_all i h l = omega (arith, (filling row i h).count, ap length (stepped (place_after u profile s i) l).tokens_are)

    pub next_within : (i : ℕ) → i < length (tokens_by u profile s) → place_after u profile s (suc i) ≤ length s
    next_within i h = (filling row (suc i) (omega (arith, h))).within

    pub all_stored : (i : ℕ) → i ≤ length (tokens_by u profile s) → length s ≤ place_after u profile s i → length (tokens_by u profile s) ≤ length row →
        Filled u profile s row i (row_after u profile s row i)
    unfolding records
    all_stored i h l r =
        let f = filling row i h in
        let z = none_left u profile s (place_after u profile s i) l in
        let n : i ≡ length (tokens_by u profile s) = omega (arith, f.count, ap length z) in
        let k = length_records s 0 (tokens_by u profile s) in
        let e : sets (row_after u profile s row i) i (records s (place_after u profile s i) (from (place_after u profile s i))) ≡ row_after u profile s row i = rw z in
        let g : sets row 0 (records s 0 (tokens_by u profile s)) ≡ records s 0 (tokens_by u profile s) ++ drop i row =
        sets-eq (records s 0 (tokens_by u profile s)) row 0 (omega (arith, k, r)) ∙ rw (zero-add, k, ← n) in
        record { count = n; row_is = sym e ∙ f.same ∙ g }
