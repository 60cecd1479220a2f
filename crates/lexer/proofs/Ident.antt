-- Whether a whole text is an identifier.
-- Assumes nothing.
use Prim.Native.Nat.{ℕ}
use native.Mathlib.Omega.{arith}
use native.Mathlib.Nat.{zero-add}
use native.Mathlib.Decide.{dec_lt}
use mathlib.Core.Path.{◌≡◌, refl, ap, sym, ◌∙◌}
use mathlib.Core.Bool.{Bool, true, false, cond, ◌&&◌}
use mathlib.Core.List.{List, [], ◌∷◌, nil≢cons}
use lib.Dec.{eqb}
use lib.ListN.{length}
use borrow.Author.Tests.{eq-eqb, ne_eqb}
use Rattle.lists.specs.All.{all}
use Rattle.lists.proofs.Bools.{by_test}
use Rattle.characters.specs.Utf8.{chars}
use Rattle.characters.specs.Text.{Decoded, left, skip}
use Rattle.characters.specs.Steps.{Place}
use Rattle.characters.proofs.Text.{decoded_point, point_at, left_end, skip_nil, skip_more, skip_stop}
use Rattle.text.specs.declared.Refusal.{Refusal}
use Rattle.text.specs.Refusals.{refused}
use Rattle.text.specs.Answer.{done, check_text}
use Rattle.text.proofs.Checks.{never_done}
use Rattle.letters.specs.Chars.{ident_by, is_ident}
use Rattle.lexer.specs.Cut.{Letters}
use Rattle.lexer.specs.Unicode.{unicode}
use Rattle.lexer.specs.Promises.{identified}

-- ---- all pass where nothing is left
module _ (p : ℕ → Bool) where
  all_left : (l : List ℕ) → skip p l ≡ [] → all p l ≡ true
  unfolding all
  all_left [] e = refl
  all_left (c ∷ l) e =
      by_test (p c)
      (λ t. rw t (all_left l (sym (skip_more p c l t) ∙ e)))
      (λ f. absurd (nil≢cons (sym e ∙ skip_stop p c l f)))

  not_all : (l : List ℕ) {c : ℕ} {t : List ℕ} → skip p l ≡ c ∷ t → all p l ≡ false
  unfolding all
  not_all [] e = absurd (nil≢cons (sym (skip_nil p) ∙ e))
  not_all (a ∷ l) e = by_test (p a) (λ t. rw t (not_all l (sym (skip_more p a l t) ∙ e))) (λ f. rw f)

  -- by the place where eating stops
  all_by : {s : List ℕ} {at end : ℕ} → Place s at end (skip p (left s at)) → all p (left s at) ≡ eqb end (length s)
  all_by {s} {at} {end} h =
      elim (dec_lt end (length s)) [
        | yes l ↦ not_all (left s at) (sym h.there ∙ (point_at s end l).view) ∙ sym (ne_eqb end (length s) (λ e. omega arith))
        | no n ↦ all_left (left s at) (sym h.there ∙ left_end s end (omega arith)) ∙ sym (eq-eqb end (length s) (omega (arith, h.within)))
      ]

-- ---- the three ways, as `search` takes them
module _ (p q : ℕ → Bool) (s : List ℕ) where
  pub ident_none : length s ≡ 0 → false ≡ ident_by p q (chars s)
  unfolding ident_by
  ident_none e = let z : chars s ≡ [] = left_end s 0 (omega arith) in rw z

  module _ {code wide : ℕ} {b : Bool} (d : Decoded s 0 code wide) (some : (length s ≡ 0 → ⊥)) (t : b ≡ p code) where
    ident_is : ident_by p q (chars s) ≡ (p code && all q (left s wide))
    unfolding ident_by
    ident_is = ap (ident_by p q) (decoded_point d (omega arith)).view ∙ rw zero-add

    pub ident_not : b ≡ false → false ≡ ident_by p q (chars s)
    ident_not h = rw (ident_is, ← t, h)

    pub ident_by_lem : {end : ℕ} {r : Bool} → b ≡ true → Place s wide end (skip q (left s wide)) → r ≡ eqb end (length s) → r ≡ ident_by p q (chars s)
    ident_by_lem h k e = rw (ident_is, ← t, h) (e ∙ sym (all_by q k))

-- over Unicode's letters
ident_unicode : (s : List ℕ) {u : Letters} {r : Bool} → u ≡ unicode → r ≡ ident_by u.start u.more (chars s) → r ≡ is_ident (chars s)
unfolding unicode
ident_unicode s e h = h ∙ ap (λ (u : Letters). ident_by u.start u.more (chars s)) e

-- ---- the answer
module _ (s : List ℕ) where
  pub identified_refused : (r : Refusal) → refused r ≡ check_text s → refused r ≡ identified s
  unfolding identified
  identified_refused r a = rw (sym a, ne_eqb (refused r).0 done (never_done r)) refl

  pub identified_done : {u : Letters} {b : Bool} → (done, 0) ≡ check_text s → u ≡ unicode → b ≡ ident_by u.start u.more (chars s) → (done, cond b 1 0) ≡ identified s
  unfolding identified
  identified_done a e h = rw (sym a) (ap (λ (b : Bool). (done, cond b 1 0)) (ident_unicode s e h))

pub ruleset identifying = (ident_none, ident_not, ident_by_lem)
