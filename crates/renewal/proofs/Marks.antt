-- A token of a kind whose body is empty is one byte, the mark's own.
-- Assumes nothing.
use Prim.Native.Nat.{ℕ, ◌<◌}
use native.Mathlib.Omega.{arith}
use mathlib.Core.Path.{◌≡◌, refl, ap, sym, ◌∙◌}
use mathlib.Core.Bool.{Bool, true, false, ◌&&◌, not, false≢true}
use mathlib.Core.List.{List, [], ◌∷◌, tail}
use lib.Dec.{eqb, leb, ltb}
use borrow.Author.Tests.{le-leb, lt-leb, leb-true, ltb-true, eqb-true}
use Rattle.lists.proofs.Bools.{by_test, both, on_cond}
use Rattle.characters.specs.Text.{skip}
use Rattle.letters.specs.Chars.{is_whitespace}
use Rattle.cutters.specs.Kinds.{marks, mark_in, is_literal}
use Rattle.cutters.specs.Digits.{peek, is_digit}
use Rattle.lexer.specs.Cut.{Letters, Piece, block, slash, digits, quoted, agree, pragma_word, pound, wide_emoji, name, word, annotated, hardware, advance}
use Rattle.lexer.proofs.Shapes.{number_part, quote_listed}
use Rattle.renewal.specs.Key.{is_mark}
use Rattle.renewal.specs.Rules.{byte_in, own_bytes}

-- ---- each mark of the list has its own byte, which is ASCII: a test over the whole list
abbrev is_byte : List ℕ → ℕ → Bool
is_byte [] b = false
is_byte (x ∷ []) b = eqb x b
is_byte (x ∷ y ∷ l) b = false

byte_is : (l : List ℕ) (b : ℕ) → is_byte l b ≡ true → l ≡ b ∷ []
byte_is [] b h = absurd (false≢true h)
byte_is (x ∷ []) b h = rw (eqb-true x b h)
byte_is (x ∷ y ∷ l) b h = absurd (false≢true h)

abbrev own : List (ℕ × ℕ) → Bool
own [] = true
own (m ∷ ms) = (ltb m.0 0x80 && is_byte (own_bytes m.1) m.0) && own ms

all_own : own marks ≡ true
unfolding own_bytes byte_in marks
all_own = refl

mark_own : (ms : List (ℕ × ℕ)) (c : ℕ) → own ms ≡ true → eqb (mark_in ms c) 0 ≡ false → (c < 0x80) × (own_bytes (mark_in ms c) ≡ c ∷ [])
unfolding mark_in
mark_own [] c h n = absurd (false≢true (sym n))
mark_own (m ∷ ms) c h n =
    let b = both (ltb m.0 0x80 && is_byte (own_bytes m.1) m.0) (own ms) h in
    let d = both (ltb m.0 0x80) (is_byte (own_bytes m.1) m.0) b.0 in
    by_test (eqb c m.0)
    (λ e. let q : c ≡ m.0 = eqb-true c m.0 e in
    rw e (omega (arith, ltb-true m.0 0x80 d.0), byte_is (own_bytes m.1) m.0 d.1 ∙ ap (λ (x : ℕ). x ∷ []) (sym q)))
    (λ e. rw e (mark_own ms c b.1 (rw e at n)))

-- ---- a token that is one byte, its own
pub record Own (c : ℕ) (t : List ℕ) (a : Piece) : Type 0 where
  pub rest : a.rest ≡ t
  pub bytes : own_bytes a.kind ≡ c ∷ []
  pub small : c < 0x80

abbrev Marked : ℕ → List ℕ → Piece → Type 0
Marked c t a = is_mark a.kind ≡ true → Own c t a

-- with no suffix start
abbrev Part : ℕ → List ℕ → ℕ × List ℕ → Type 0
Part c t r = Marked c t (record { kind = r.0; from_suffix = c ∷ t; rest = r.1 })

never : {c : ℕ} {t : List ℕ} {a : Piece} → is_mark a.kind ≡ false → Marked c t a
never h e = absurd (false≢true (sym h ∙ e))

literal_mark : {c : ℕ} {t : List ℕ} {a : Piece} → is_literal a.kind ≡ true → Marked c t a
literal_mark {a = a} h =
    let k = a.kind in
    let l = leb-true 40 k (both (leb 40 k) (leb k 61 && not (eqb k 45)) h).0 in
    never (rw (le-leb 10 k (omega arith), lt-leb k 36 (omega arith)))

slash_mark_lem : (c : ℕ) (t : List ℕ) → c ≡ 0x2F → Part c t (slash t)
unfolding slash own_bytes byte_in
slash_mark_lem c t e =
    on_cond (Part c t) (eqb (peek t) 0x2F) (never refl)
    (on_cond (Part c t) (eqb (peek t) 0x2A)
    (never (on_cond (λ (k : ℕ). is_mark k ≡ false) (block 1 (tail t)).0 refl refl))
    (λ m. rw e (record { rest = refl; bytes = refl; small = omega arith })))

pound_mark : (c : ℕ) (t : List ℕ) → Part c t (pound t)
unfolding pound
pound_mark c t = on_cond (Part c t) (eqb (agree pragma_word t) 6) (never refl) (never refl)

module _ (u : Letters) where
  word_mark : (profile c : ℕ) (t : List ℕ) → Part c t (word u.more u.emoji profile c t)
  unfolding word name
  word_mark profile c t =
      on_cond (Part c t) (eqb profile 1 && eqb (agree pragma_word (c ∷ t)) 6) (never refl)
      (on_cond (Part c t) (wide_emoji u.emoji (peek (skip u.more t))) (never refl) (never refl))

  annotated_mark : (c : ℕ) (t : List ℕ) → c ≡ 0x40 → Part c t (annotated u.start t)
  unfolding annotated own_bytes byte_in
  annotated_mark c t e =
      on_cond (Part c t) (u.start (peek t)) (never refl) (λ m. rw e (record { rest = refl; bytes = refl; small = omega arith }))

  hardware_mark : (c : ℕ) (t : List ℕ) → Part c t (hardware u.more u.emoji t)
  unfolding hardware
  hardware_mark c t =
      on_cond (Part c t) (wide_emoji u.emoji (peek t)) (never refl) (never (on_cond (λ (k : ℕ). is_mark k ≡ false) (digits is_digit t).0 refl refl))

  pub advance_mark : (profile c : ℕ) (t : List ℕ) → Marked c t (advance u profile c t)
  unfolding advance
  advance_mark profile c t =
      let P = Marked c t in
      let m = mark_in marks c in
      by_test (eqb c 0x2F)
      (λ e. rw e (slash_mark_lem c t (eqb-true c 0x2F e)))
      (λ e. rw e
      (on_cond P (is_whitespace c) (never refl)
      (on_cond P (u.start c) (word_mark profile c t)
      (on_cond P (is_digit c) (literal_mark (number_part c t).listed)
      (on_cond P (eqb c 0x23) (pound_mark c t)
      (by_test (eqb c 0x40)
      (λ f. rw f (annotated_mark c t (eqb-true c 0x40 f)))
      (λ f. rw f
      (on_cond P (eqb c 0x24) (hardware_mark c t)
      (by_test (eqb m 0)
      (λ h. rw h
      (on_cond P (eqb c 0x22) (literal_mark (quote_listed (quoted t)))
      (on_cond P (wide_emoji u.emoji c) (never refl) (never refl))))
      (λ h. rw h (λ k. let o = mark_own marks c all_own h in record { rest = refl; bytes = o.1; small = o.0 })))))))))))
