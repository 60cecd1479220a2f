-- Which first characters an uncounted token has: a slash, or white space.
-- Assumes nothing.
use Prim.Native.Nat.{ℕ, ◌≤◌}
use native.Mathlib.Omega.{arith}
use mathlib.Core.Path.{◌≡◌, refl, ap, sym, ◌∙◌}
use mathlib.Core.Bool.{Bool, true, false, cond, not, ◌&&◌, false≢true}
use mathlib.Core.List.{List, ◌∷◌, tail}
use lib.Dec.{eqb}
use borrow.Author.Tests.{ne_eqb}
use Rattle.lists.specs.All.{all}
use Rattle.lists.proofs.Bools.{by_test, on_cond}
use Rattle.characters.specs.Text.{skip}
use Rattle.letters.specs.Chars.{is_whitespace}
use Rattle.cutters.specs.Kinds.{marks, mark_in, int, float, bit_str, str, whitespace_kind}
use Rattle.cutters.specs.Digits.{peek, is_digit}
use Rattle.lexer.specs.Cut.{Letters, Piece, Quote, is_e, block, slash, digits, exponent, exponent_of, point, fraction, based, number, quoted, quote_kind, is_bit, without_lf, twice, pragma_word, agree, pound, wide_emoji, name, word, annotated, hardware, advance}
use Rattle.lexer.proofs.Shapes.{mark_has}
use Rattle.tokens.specs.Members.{is_counted}

-- numbers and quoted texts have large kinds
large : (k : ℕ) → 5 ≤ k → is_counted k ≡ true
unfolding is_counted
large k h = rw (ne_eqb k 1 (λ e. omega arith), ne_eqb k 2 (λ e. omega arith), ne_eqb k 4 (λ e. omega arith))

abbrev Counts : ℕ × List ℕ → Type 0
Counts r = is_counted r.0 ≡ true

int_counts : (base : ℕ) (b : Bool) → is_counted (int base b) ≡ true
int_counts base b = large (int base b) (omega arith)

float_counts : (base : ℕ) (b : Bool) → is_counted (float base b) ≡ true
float_counts base b = large (float base b) (omega arith)

exponent_counts : (base : ℕ) (t : List ℕ) → Counts (exponent_of base t)
unfolding exponent_of
exponent_counts base t = float_counts base (not (exponent t).0)

point_counts : (base : ℕ) (t : List ℕ) → Counts (point base t)
unfolding point
point_counts base t =
    let r = (digits is_digit t).1 in
    on_cond Counts (is_digit (peek t)) (on_cond Counts (is_e (peek r)) (exponent_counts base (tail r)) (float_counts base false)) (float_counts base false)

fraction_counts : (base : ℕ) (t : List ℕ) → Counts (fraction base t)
unfolding fraction
fraction_counts base t =
    on_cond Counts (eqb (peek t) 0x2E) (point_counts base (tail t)) (on_cond Counts (is_e (peek t)) (exponent_counts base (tail t)) (int_counts base false))

based_counts : (base : ℕ) (any : Bool) (t : List ℕ) → Counts (based base any t)
unfolding based
based_counts base any t = on_cond Counts any (fraction_counts base t) (int_counts base true)

number_counts : (c : ℕ) (t : List ℕ) → Counts (number c t)
unfolding number
number_counts c t =
    on_cond Counts (eqb c 0x30 && eqb (peek t) 0x62) (based_counts 0 _ _)
    (on_cond Counts (eqb c 0x30 && eqb (peek t) 0x6F) (based_counts 1 _ _)
    (on_cond Counts (eqb c 0x30 && eqb (peek t) 0x78) (based_counts 3 _ _) (fraction_counts 2 _)))

quote_counts : (q : Quote) → is_counted (quote_kind q) ≡ true
unfolding quote_kind
quote_counts q =
    on_cond (λ (k : ℕ). is_counted k ≡ true) (all is_bit (cond q.closed q.body (without_lf q.body)))
    (large (bit_str q.closed (twice q.body)) (omega arith)) (large (str q.closed) (omega arith))

-- the kinds of all marks count
all_count : all (λ m. is_counted m.1) marks ≡ true
unfolding marks is_counted all
all_count = refl

module _ (u : Letters) where
  name_counts : (t : List ℕ) → Counts (name u.more u.emoji t)
  unfolding name is_counted
  name_counts t = on_cond Counts (wide_emoji u.emoji (peek (skip u.more t))) refl refl

  word_counts : (profile c : ℕ) (t : List ℕ) → Counts (word u.more u.emoji profile c t)
  unfolding word is_counted
  word_counts profile c t = on_cond Counts (eqb profile 1 && eqb (agree pragma_word (c ∷ t)) 6) refl (name_counts t)

  pound_counts : (t : List ℕ) → Counts (pound t)
  unfolding pound is_counted
  pound_counts t = on_cond Counts (eqb (agree pragma_word t) 6) refl refl

  annotated_counts : (t : List ℕ) → Counts (annotated u.start t)
  unfolding annotated is_counted
  annotated_counts t = on_cond Counts (u.start (peek t)) refl refl

  hardware_counts : (t : List ℕ) → Counts (hardware u.more u.emoji t)
  unfolding hardware is_counted
  hardware_counts t = on_cond Counts (wide_emoji u.emoji (peek t)) refl (on_cond (λ (k : ℕ). is_counted k ≡ true) (digits is_digit t).0 refl refl)

  -- ---- behind any other first character a token counts
  pub others_count : (profile c : ℕ) (t : List ℕ) → eqb c 0x2F ≡ false → is_whitespace c ≡ false → is_counted (advance u profile c t).kind ≡ true
  unfolding advance is_counted
  others_count profile c t h k =
      let P : Piece → Type 0 = λ a. is_counted a.kind ≡ true in
      let m = mark_in marks c in
      rw (h, k)
      (on_cond P (u.start c) (word_counts profile c t)
      (on_cond P (is_digit c) (number_counts c t)
      (on_cond P (eqb c 0x23) (pound_counts t)
      (on_cond P (eqb c 0x40) (annotated_counts t)
      (on_cond P (eqb c 0x24) (hardware_counts t)
      (by_test (eqb m 0)
      (λ e. rw e (on_cond P (eqb c 0x22) (quote_counts (quoted t)) (on_cond P (wide_emoji u.emoji c) refl refl)))
      (λ e. rw e (mark_has is_counted marks c all_count e))))))))

  -- ---- only white space is of its kind
  slash_kind : (t : List ℕ) → (slash t).0 ≡ whitespace_kind → ⊥
  unfolding slash
  slash_kind t =
      let P : ℕ × List ℕ → Type 0 = λ r. (r.0 ≡ whitespace_kind → ⊥) in
      on_cond P (eqb (peek t) 0x2F) (omega arith)
      (on_cond P (eqb (peek t) 0x2A) (on_cond (λ (k : ℕ). (k ≡ whitespace_kind → ⊥)) (block 1 (tail t)).0 (omega arith) (omega arith)) (omega arith))

  pub white_first : (profile c : ℕ) (t : List ℕ) → (advance u profile c t).kind ≡ whitespace_kind → is_whitespace c ≡ true
  unfolding advance is_counted
  white_first profile c t h =
      by_test (is_whitespace c) (λ k. k)
      (λ k. by_test (eqb c 0x2F) (λ e. absurd (slash_kind t (rw e at h)))
      (λ e. absurd (false≢true (ap is_counted (sym h) ∙ others_count profile c t e k))))
