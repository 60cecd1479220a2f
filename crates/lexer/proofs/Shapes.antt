-- What each rule leaves is an end of the text that it was given, and the kinds that it gives are among those that are listed: so every
-- token takes at least its first character, and the text is cut to its end.
-- Assumes nothing.
use Prim.Native.Nat.{ℕ, suc, ◌+◌, ◌-◌}
use mathlib.Core.Path.{◌≡◌, refl, sym}
use mathlib.Core.Bool.{Bool, true, false, cond, not, ◌&&◌, ◌||◌, false≢true}
use mathlib.Core.List.{List, [], ◌∷◌, tail}
use lib.Dec.{eqb, leb}
use Rattle.lists.specs.All.{all}
use Rattle.lists.specs.Steps.{Ends}
use Rattle.lists.proofs.Bools.{by_test, both, on_cond}
use Rattle.lists.proofs.Cut.{cut_nil, cut_cons}
use Rattle.lists.proofs.Ends.{ends_all, ends_cons, ends_then, ends_tail, ends_drop, ends_eat, ends_length}
use Rattle.characters.specs.Text.{skip, keep}
use Rattle.letters.specs.Chars.{is_whitespace}
use Rattle.cutters.specs.Kinds.{marks, mark_in, is_plain, is_literal, int, float, bit_str}
use Rattle.cutters.specs.Digits.{peek, is_digit, is_hex_digit}
use Rattle.lexer.specs.Cut.{Letters, Piece, Quote, not_lf, is_e, or_underscore, met, opens, closes, block, slash, digits, exponent, exponent_of, point, fraction, based, number, is_unit, escapes, quoted, quote_kind, is_bit, without_lf, twice, pragma_word, agree, pound, wide_emoji, goes_on, name, word, annotated, hardware, identifier, number_suffix, advance, next_token, tokens}

ends_skip : (p : ℕ → Bool) (l : List ℕ) → Ends (skip p l) l
unfolding skip
ends_skip p l = ends_eat p keep tt l

ends_digits : (p : ℕ → Bool) (l : List ℕ) → Ends (digits p l).1 l
unfolding digits
ends_digits p l = ends_eat (or_underscore p) (met p) false l

-- ---- a kind that passes a test, and an end of the text
pub record Part (kinds : ℕ → Bool) (t : List ℕ) (r : ℕ × List ℕ) : Type 0 where
  pub listed : kinds r.0 ≡ true
  pub ends : Ends r.1 t

abbrev pub Plain : List ℕ → ℕ × List ℕ → Type 0
Plain = Part is_plain

abbrev Number : List ℕ → ℕ × List ℕ → Type 0
Number = Part is_literal

-- of an end of the text
part_of : {p : ℕ → Bool} {x t : List ℕ} {r : ℕ × List ℕ} → Ends x t → Part p x r → Part p t r
part_of e q = record { listed = q.listed; ends = ends_then e q.ends }

-- ---- comments
ends_block : (l : List ℕ) (d : ℕ) → Ends (block d l).1 l
unfolding block
ends_block [] d = ends_all []
ends_block (c ∷ []) d = ends_cons c (ends_all [])
ends_block (c ∷ x ∷ t) d =
    let past : (e : ℕ) → Ends (block e t).1 (c ∷ x ∷ t) = λ e. ends_cons c (ends_cons x (ends_block t e)) in
    let next : Ends (block d (x ∷ t)).1 (c ∷ x ∷ t) = ends_cons c (ends_block (x ∷ t) d) in
    by_test (opens c x)
    (λ h. rw h (past (suc d)))
    (λ h. by_test (closes c x)
    (λ k. rw (h, k) (on_cond (λ (r : Bool × List ℕ). Ends r.1 (c ∷ x ∷ t)) (leb d 1) (ends_cons c (ends_cons x (ends_all t))) (past (d - 1))))
    (λ k. rw (h, k) next))

slash_part : (t : List ℕ) → Plain t (slash t)
unfolding slash
slash_part t =
    on_cond (Plain t) (eqb (peek t) 0x2F)
    (part_of (ends_tail t) (record { listed = refl; ends = ends_skip not_lf (tail t) }))
    (on_cond (Plain t) (eqb (peek t) 0x2A)
    (part_of (ends_tail t) (record { listed = on_cond (λ (k : ℕ). is_plain k ≡ true) (block 1 (tail t)).0 refl refl; ends = ends_block (tail t) 1 }))
    (record { listed = refl; ends = ends_all t }))

-- ---- numbers; the base is one of the four
data Base : ℕ → Type 0 where
  binary : Base 0
  octal : Base 1
  decimal : Base 2
  hexadecimal : Base 3

float_listed : {base : ℕ} → Base base → (b : Bool) → is_literal (float base b) ≡ true
float_listed binary b = on_cond (λ (k : ℕ). is_literal (48 + k) ≡ true) b refl refl
float_listed octal b = on_cond (λ (k : ℕ). is_literal (50 + k) ≡ true) b refl refl
float_listed decimal b = on_cond (λ (k : ℕ). is_literal (52 + k) ≡ true) b refl refl
float_listed hexadecimal b = on_cond (λ (k : ℕ). is_literal (54 + k) ≡ true) b refl refl

int_listed : {base : ℕ} → Base base → is_literal (int base false) ≡ true
int_listed binary = refl
int_listed octal = refl
int_listed decimal = refl
int_listed hexadecimal = refl

ends_exponent : (t : List ℕ) → Ends (exponent t).1 t
unfolding exponent
ends_exponent t =
    let signed = eqb (peek t) 0x2D || eqb (peek t) 0x2B in
    ends_then (on_cond (λ (r : List ℕ). Ends r t) signed (ends_tail t) (ends_all t)) (ends_digits is_digit (cond signed (tail t) t))

module _ {base : ℕ} (known : Base base) where
  exponent_of_part : (t : List ℕ) → Number t (exponent_of base t)
  unfolding exponent_of
  exponent_of_part t = record { listed = float_listed known (not (exponent t).0); ends = ends_exponent t }

  point_part : (t : List ℕ) → Number t (point base t)
  unfolding point
  point_part t =
      let r = (digits is_digit t).1 in
      on_cond (Number t) (is_digit (peek t))
      (part_of (ends_digits is_digit t)
      (on_cond (Number r) (is_e (peek r)) (part_of (ends_tail r) (exponent_of_part (tail r))) (record { listed = float_listed known false; ends = ends_all r })))
      (record { listed = float_listed known false; ends = ends_all t })

  fraction_part : (t : List ℕ) → Number t (fraction base t)
  unfolding fraction
  fraction_part t =
      on_cond (Number t) (eqb (peek t) 0x2E)
      (part_of (ends_tail t) (point_part (tail t)))
      (on_cond (Number t) (is_e (peek t)) (part_of (ends_tail t) (exponent_of_part (tail t))) (record { listed = int_listed known; ends = ends_all t }))

  -- no digits: an empty Int, which is listed but for the decimal base
  based_part : (any : Bool) (t : List ℕ) → is_literal (int base true) ≡ true → Number t (based base any t)
  unfolding based
  based_part any t e = on_cond (Number t) any (fraction_part t) (record { listed = e; ends = ends_all t })

pub number_part : (c : ℕ) (t : List ℕ) → Number t (number c t)
unfolding number
number_part c t =
    let d = digits is_digit (tail t) in
    let h = digits is_hex_digit (tail t) in
    let eats : (p : ℕ → Bool) → Ends (digits p (tail t)).1 t = λ p. ends_then (ends_tail t) (ends_digits p (tail t)) in
    on_cond (Number t) (eqb c 0x30 && eqb (peek t) 0x62) (part_of (eats is_digit) (based_part binary d.0 d.1 refl))
    (on_cond (Number t) (eqb c 0x30 && eqb (peek t) 0x6F) (part_of (eats is_digit) (based_part octal d.0 d.1 refl))
    (on_cond (Number t) (eqb c 0x30 && eqb (peek t) 0x78) (part_of (eats is_hex_digit) (based_part hexadecimal h.0 h.1 refl))
    (part_of (ends_digits is_digit t) (fraction_part decimal (digits is_digit t).1))))

-- ---- quoted texts
ends_quoted : (t : List ℕ) → Ends (quoted t).rest t
unfolding quoted
ends_quoted [] = ends_all []
ends_quoted (c ∷ []) = ends_cons c (ends_all [])
ends_quoted (c ∷ x ∷ t) =
    let past = ends_quoted t in
    let next = ends_quoted (x ∷ t) in
    by_test (eqb c 0x22) (λ h. rw h (ends_cons c (ends_all (x ∷ t))))
    (λ h. by_test (escapes c x) (λ k. rw (h, k) (ends_cons c (ends_cons x past))) (λ k. rw (h, k) (ends_cons c next)))

pub quote_listed : (q : Quote) → is_literal (quote_kind q) ≡ true
unfolding quote_kind
quote_listed q =
    let P : ℕ → Type 0 = λ k. is_literal k ≡ true in
    let bits : (b d : Bool) → P (bit_str b d) = λ b d. on_cond (λ (k : ℕ). P (58 + k + cond d 2 0)) b (on_cond (λ (k : ℕ). P (59 + k)) d refl refl) (on_cond (λ (k : ℕ). P (58 + k)) d refl refl) in
    on_cond P (all is_bit (cond q.closed q.body (without_lf q.body))) (bits q.closed (twice q.body))
    (on_cond (λ (k : ℕ). P (56 + k)) q.closed refl refl)

-- ---- words
pound_part : (t : List ℕ) → Plain t (pound t)
unfolding pound
pound_part t =
    on_cond (Plain t) (eqb (agree pragma_word t) 6) (record { listed = refl; ends = ends_skip not_lf t }) (record { listed = refl; ends = ends_drop (agree pragma_word t) t })

-- ---- marks: what holds of the kinds of a whole list of marks, by one computed test, holds of the kind that it has for a character
pub mark_has : (p : ℕ → Bool) (ms : List (ℕ × ℕ)) (c : ℕ) → all (λ m. p m.1) ms ≡ true → eqb (mark_in ms c) 0 ≡ false → p (mark_in ms c) ≡ true
unfolding mark_in all
mark_has p [] c h n = absurd (false≢true (sym n))
mark_has p (m ∷ ms) c h n =
    let b = both (p m.1) (all (λ m. p m.1) ms) h in
    by_test (eqb c m.0) (λ e. rw e b.0) (λ e. rw e (mark_has p ms c b.1 (rw e at n)))

all_marked : all (λ m. is_plain m.1) marks ≡ true
unfolding marks all
all_marked = refl

-- ---- a token: a plain kind and no suffix start, or a literal, whose suffix starts behind its first character
pub data Shape (c : ℕ) (t : List ℕ) (a : Piece) : Type 0 where
  plain : is_plain a.kind ≡ true → a.from_suffix ≡ c ∷ t → Ends a.rest t → Shape c t a
  literal : is_literal a.kind ≡ true → Ends a.from_suffix t → Ends a.rest a.from_suffix → Shape c t a

plainly : {c : ℕ} {t : List ℕ} {r : ℕ × List ℕ} → Plain t r → Shape c t (record { kind = r.0; from_suffix = c ∷ t; rest = r.1 })
plainly p = plain p.listed refl p.ends

module _ (u : Letters) where
  pub name_part : (t : List ℕ) → Plain t (name u.more u.emoji t)
  unfolding name
  name_part t =
      let r = skip u.more t in
      part_of (ends_skip u.more t)
      (on_cond (Plain r) (wide_emoji u.emoji (peek r)) (record { listed = refl; ends = ends_skip (goes_on u.more u.emoji) r }) (record { listed = refl; ends = ends_all r }))

  word_part : (profile c : ℕ) (t : List ℕ) → Plain t (word u.more u.emoji profile c t)
  unfolding word
  word_part profile c t =
      on_cond (Plain t) (eqb profile 1 && eqb (agree pragma_word (c ∷ t)) 6) (record { listed = refl; ends = ends_skip not_lf t }) (name_part t)

  annotated_part : (t : List ℕ) → Plain t (annotated u.start t)
  unfolding annotated
  annotated_part t = on_cond (Plain t) (u.start (peek t)) (record { listed = refl; ends = ends_skip not_lf t }) (record { listed = refl; ends = ends_all t })

  hardware_part : (t : List ℕ) → Plain t (hardware u.more u.emoji t)
  unfolding hardware
  hardware_part t =
      on_cond (Plain t) (wide_emoji u.emoji (peek t))
      (part_of (ends_skip u.more t) (record { listed = refl; ends = ends_skip (goes_on u.more u.emoji) (skip u.more t) }))
      (record { listed = on_cond (λ (k : ℕ). is_plain k ≡ true) (digits is_digit t).0 refl refl; ends = ends_digits is_digit t })

  ends_identifier : (t : List ℕ) → Ends (identifier u.start u.more t) t
  unfolding identifier
  ends_identifier t = on_cond (λ (x : List ℕ). Ends x t) (u.start (peek t)) (ends_then (ends_tail t) (ends_skip u.more (tail t))) (ends_all t)

  ends_suffix : (t : List ℕ) → Ends (number_suffix u.start u.more t) t
  unfolding number_suffix
  ends_suffix t = on_cond (λ (x : List ℕ). Ends x t) (is_unit (peek t) (peek (tail t))) (ends_all t) (ends_identifier t)

  pub advance_shape : (profile c : ℕ) (t : List ℕ) → Shape c t (advance u profile c t)
  unfolding advance
  advance_shape profile c t =
      let P = Shape c t in
      let n = number c t in
      let q = quoted t in
      let m = mark_in marks c in
      on_cond P (eqb c 0x2F) (plainly (slash_part t))
      (on_cond P (is_whitespace c) (plainly (record { listed = refl; ends = ends_skip is_whitespace t }))
      (on_cond P (u.start c) (plainly (word_part profile c t))
      (on_cond P (is_digit c) (literal (number_part c t).listed (number_part c t).ends (ends_suffix n.1))
      (on_cond P (eqb c 0x23) (plainly (pound_part t))
      (on_cond P (eqb c 0x40) (plainly (annotated_part t))
      (on_cond P (eqb c 0x24) (plainly (hardware_part t))
      (by_test (eqb m 0)
      (λ e. rw e
      (on_cond P (eqb c 0x22)
      (literal (quote_listed q) (ends_quoted t) (on_cond (λ (x : List ℕ). Ends x q.rest) q.closed (ends_identifier q.rest) (ends_all q.rest)))
      (on_cond P (wide_emoji u.emoji c) (plainly (record { listed = refl; ends = ends_skip (goes_on u.more u.emoji) t })) (plainly (record { listed = refl; ends = ends_all t })))))
      (λ e. rw e (plainly (record { listed = mark_has is_plain marks c all_marked e; ends = ends_all t }))))))))))

  -- ---- so each token takes at least its first character
  ends_rest : (c : ℕ) (t : List ℕ) (a : Piece) → Shape c t a → Ends a.rest t
  ends_rest c t a (plain k m e) = e
  ends_rest c t a (literal k m e) = ends_then m e

  pub ends_advance : (profile c : ℕ) (t : List ℕ) → Ends (advance u profile c t).rest t
  ends_advance profile c t = ends_rest c t (advance u profile c t) (advance_shape profile c t)

  pub tokens_nil : (profile : ℕ) → tokens u profile [] ≡ []
  unfolding tokens
  tokens_nil profile = cut_nil (next_token u profile)

  pub tokens_cons : (profile c : ℕ) (t : List ℕ) → tokens u profile (c ∷ t) ≡ (next_token u profile c t).0 ∷ tokens u profile (advance u profile c t).rest
  unfolding tokens next_token
  tokens_cons profile c t = cut_cons (next_token u profile) (λ a l. ends_length (ends_advance profile a l)) c t
