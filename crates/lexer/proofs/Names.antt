-- Identifiers, pragmas, annotations and hardware identifiers, as `search` takes the laws.
-- Assumes nothing.
use Prim.Native.Nat.{ℕ, suc, ◌+◌, ◌-◌, ◌≤◌, ◌<◌}
use native.Mathlib.Decide.{dec_lt}
use native.Mathlib.Omega.{arith}
use native.Mathlib.Numerals.{one-add}
use mathlib.Core.Path.{◌≡◌, refl, ap, sym, ◌∙◌}
use mathlib.Core.Bool.{Bool, true, false, cond, false≢true}
use mathlib.Core.List.{List, [], ◌∷◌}
use lib.ListN.{length, take, drop, get_or, length-drop}
use lib.Seq.{drop-drop}
use lib.Dec.{eqb, leb}
use borrow.Author.Tests.{eq-eqb, eqb-true, ne_eqb, lt-leb}
use Rattle.std.proofs.Math.Dec.{eqb-suc-suc}
use Rattle.std.specs.List.{prefix_len, zip}
use Rattle.std.specs.Cmp.Lexicographic.{pointwise}
use Rattle.lists.proofs.Bools.{by_test}
use Rattle.characters.specs.Utf8.{first, chars}
use Rattle.characters.specs.Text.{left, skip}
use Rattle.characters.specs.Steps.{Place}
use Rattle.characters.proofs.Text.{chars_nil, chars_first, decoded_point, left_end, from_place, skip_nil, skip_stop}
use Rattle.characters.proofs.Ascii.{ascii_decoded, chars_ascii, wide_code}
use Rattle.cutters.specs.Digits.{peek, is_digit}
use Rattle.lexer.specs.Cut.{not_lf, digits, agree, pragma_word, pound, wide_emoji, goes_on, name, word, annotated, hardware}
use Rattle.cutters.specs.Kinds.{ident, hardware_ident, invalid_ident, pragma, annotation, at_sign, dollar, is_wire}
use Rattle.lexer.specs.Unicode.{start_in, more_in, emoji_in}
use Rattle.lexer.specs.Steps.{Parted, Ran, Run, Wired}
use Rattle.lexer.proofs.Digits.{stay, parted, ate_digits}

-- ---- a word against the text
-- what `zip` and `take_while` count
pub agree_zip : (w t : List ℕ) → prefix_len (λ (p : ℕ × ℕ). eqb p.0 p.1) (zip t w) ≡ agree w t
unfolding agree
agree_zip [] [] = refl
agree_zip [] (c ∷ t) = refl
agree_zip (w ∷ ws) [] = refl
agree_zip (w ∷ ws) (c ∷ t) = by_test (eqb c w) (λ h. rw (h, one-add) (ap suc (agree_zip ws t))) (λ h. rw h)

-- what `starts_with` says
pub agree_starts : (w t : List ℕ) → pointwise eqb w (take (length w) t) ≡ eqb (agree w t) (length w)
unfolding agree
agree_starts [] t = refl
agree_starts (w ∷ ws) [] = sym (ne_eqb 0 (length (w ∷ ws)) (λ e. omega arith))
agree_starts (w ∷ ws) (c ∷ t) =
    by_test (eqb c w)
    (λ h. rw (h, eq-eqb w c (sym (eqb-true c w h))) (agree_starts ws t ∙ sym (eqb-suc-suc (agree ws t) (length ws))))
    (λ h. rw (h, ne_eqb w c (λ e. false≢true (sym h ∙ eq-eqb c w (sym e)))) (sym (ne_eqb 0 (length (w ∷ ws)) (λ e. omega arith))))

-- a word of ASCII agrees with as many bytes as characters, and what is left behind them is the same
abbrev low : List ℕ → Type 0
low [] = Unit {0}
low (w ∷ ws) = (w < 0x80) × low ws

record Alike (w t : List ℕ) : Type 0 where
  many : agree w (chars t) ≡ agree w t
  rest : chars (drop (agree w t) t) ≡ drop (agree w t) (chars t)

alike : (w t : List ℕ) → low w → Alike w t
unfolding agree
alike [] t h = record { many = refl; rest = refl }
alike (w ∷ ws) [] h = record { many = rw chars_nil; rest = refl }
alike (w ∷ ws) (a ∷ t) h =
    elim (dec_lt a 0x80) [
      | yes l ↦
          let i = alike ws t h.1 in
          by_test (eqb a w)
          (λ e. record { many = rw (chars_ascii a t l, e, i.many); rest = rw (e, chars_ascii a t l) i.rest })
          (λ e. record { many = rw (chars_ascii a t l, e); rest = rw e })
      | no n ↦
          let k : eqb (first (a ∷ t)).0 w ≡ false = ne_eqb _ w (λ e. omega (arith, wide_code a t (omega arith), h.0)) in
          let e : eqb a w ≡ false = ne_eqb a w (λ y. omega (arith, h.0)) in
          record { many = rw (chars_first (a ∷ t) (omega arith), k, e); rest = rw e }
    ]

agree_most : (w t : List ℕ) → agree w t ≤ length t
unfolding agree
agree_most [] t = omega arith
agree_most (w ∷ ws) [] = omega arith
agree_most (w ∷ ws) (c ∷ t) = by_test (eqb c w) (λ h. rw h (omega (arith, agree_most ws t))) (λ h. rw h (omega arith))

pragma_alike : (t : List ℕ) → Alike pragma_word t
pragma_alike t = alike pragma_word t (omega arith, (omega arith, (omega arith, (omega arith, (omega arith, (omega arith, tt))))))

-- ---- behind #
module _ (s : List ℕ) (at : ℕ) {n : ℕ} (e : n ≡ agree pragma_word (drop at s)) where
  agreed : n ≡ agree pragma_word (left s at)
  agreed = e ∙ sym (pragma_alike (drop at s)).many

  -- the bytes that agree stand in the text
  pub agree_within : n ≤ length s - at
  agree_within = omega (arith, e, agree_most pragma_word (drop at s), length-drop at s)

  pub pound_pragma : {end kind : ℕ} → n ≡ 6 → Place s at end (skip not_lf (left s at)) → kind ≡ pragma → Parted pound s at kind end
  unfolding pound
  pound_pragma h p k = parted pound s at (pragma, skip not_lf (left s at)) (rw (eq-eqb _ 6 (sym agreed ∙ h))) k p

  pub pound_else : {kind : ℕ} → at ≤ length s → (n ≡ 6 → ⊥) → kind ≡ invalid_ident → Parted pound s at kind (at + n)
  unfolding pound
  pound_else l h k =
      parted pound s at (invalid_ident, drop (agree pragma_word (left s at)) (left s at)) (rw (ne_eqb _ 6 (λ z. h (agreed ∙ z)))) k
      (record { after = omega arith; within = omega (arith, agree_within); there = ap chars (sym (drop-drop n at s)) ∙ rw e (pragma_alike (drop at s)).rest ∙ ap (λ m. drop m (left s at)) (sym e ∙ agreed) })

-- ---- identifiers
module _ (more emoji s : List ℕ) (at : ℕ) where
  module _ {e x : ℕ} {b : Bool} (p : Place s at e (skip (more_in more) (left s at))) (f : x ≡ peek (left s e)) (o : b ≡ wide_emoji (emoji_in emoji) x) where
    seen : peek (skip (more_in more) (left s at)) ≡ x
    seen = ap peek (sym p.there) ∙ sym f

    pub name_fake : {end kind : ℕ} → b ≡ true → Place s e end (skip (goes_on (more_in more) (emoji_in emoji)) (left s e)) → kind ≡ invalid_ident → Parted (name (more_in more) (emoji_in emoji)) s at kind end
    unfolding name
    name_fake t q k =
        let h : wide_emoji (emoji_in emoji) (peek (skip (more_in more) (left s at))) ≡ true = rw seen (sym o ∙ t) in
        parted (name (more_in more) (emoji_in emoji)) s at (invalid_ident, skip (goes_on (more_in more) (emoji_in emoji)) (skip (more_in more) (left s at))) (rw h) k
        (from_place p q (ap (skip (goes_on (more_in more) (emoji_in emoji))) p.there))

    pub name_plain : {kind : ℕ} → b ≡ false → kind ≡ ident → Parted (name (more_in more) (emoji_in emoji)) s at kind e
    unfolding name
    name_plain t k =
        let h : wide_emoji (emoji_in emoji) (peek (skip (more_in more) (left s at))) ≡ false = rw seen (sym o ∙ t) in
        parted (name (more_in more) (emoji_in emoji)) s at (ident, skip (more_in more) (left s at)) (rw h) k p

  -- behind a run of ASCII: it ends there, or goes on from there
  abbrev by_skip : List ℕ → ℕ × List ℕ
  by_skip r = cond (wide_emoji (emoji_in emoji) (peek r)) (invalid_ident, skip (goes_on (more_in more) (emoji_in emoji)) r) (ident, r)

  module _ {e : ℕ} (p : Ran (more_in more) s at e) where
    name_same : name (more_in more) (emoji_in emoji) (left s at) ≡ by_skip (skip (more_in more) (left s e))
    unfolding name
    name_same = ap by_skip (sym p.same)

    -- what is left there, where the byte is ASCII or the end
    left_there : get_or s e 0 < 0x80 → (skip (more_in more) (left s e) ≡ left s e) × (peek (left s e) < 0x80)
    left_there h =
        elim (dec_lt e (length s)) [
          | yes l ↦
              let v : left s e ≡ get_or s e 0 ∷ left s (e + 1) = (decoded_point (ascii_decoded refl l h) l).view in
              (ap (skip (more_in more)) v ∙ skip_stop (more_in more) (get_or s e 0) (left s (e + 1)) (p.stop l h) ∙ sym v, rw v h)
          | no n ↦
              let z : left s e ≡ [] = left_end s e (omega arith) in
              (ap (skip (more_in more)) z ∙ skip_nil (more_in more) ∙ sym z, rw z (omega arith))
        ]

    pub name_ascii : {b kind : ℕ} → b ≡ get_or s e 0 → b < 0x80 → kind ≡ ident → Parted (name (more_in more) (emoji_in emoji)) s at kind e
    name_ascii f h k =
        let q = left_there (omega arith) in
        let g : leb 0x80 (peek (left s e)) ≡ false = lt-leb 0x80 (peek (left s e)) q.1 in
        parted (name (more_in more) (emoji_in emoji)) s at (ident, left s e) (name_same ∙ ap by_skip q.0 ∙ rw g) k (record { after = p.after; within = p.within; there = refl })

    pub name_run : {end kind end' kind' : ℕ} → Parted (name (more_in more) (emoji_in emoji)) s e kind end → kind' ≡ kind → end' ≡ end → Parted (name (more_in more) (emoji_in emoji)) s at kind' end'
    unfolding name
    name_run q k u =
        parted (name (more_in more) (emoji_in emoji)) s at (by_skip (skip (more_in more) (left s e))) name_same (k ∙ q.what)
        (rw u (record { after = omega (arith, p.after, q.place.after); within = q.place.within; there = q.place.there }))

  -- behind c, which stands at `own`
  module _ (profile c own : ℕ) {b : Bool} (v : left s own ≡ c ∷ left s at) (o : b ≡ pointwise eqb pragma_word (take 6 (drop own s))) where
    spelled : eqb (agree pragma_word (c ∷ left s at)) 6 ≡ b
    spelled = ap (λ t. eqb (agree pragma_word t) 6) (sym v) ∙ ap (λ n. eqb n 6) (pragma_alike (drop own s)).many ∙ sym (agree_starts pragma_word (drop own s)) ∙ sym o

    pub word_pragma : {end kind : ℕ} → profile ≡ 1 → b ≡ true → Place s at end (skip not_lf (left s at)) → kind ≡ pragma → Parted (word (more_in more) (emoji_in emoji) profile c) s at kind end
    unfolding word
    word_pragma z t p k =
        parted (word (more_in more) (emoji_in emoji) profile c) s at (pragma, skip not_lf (left s at)) (rw (eq-eqb profile 1 z, spelled, t)) k p

    pub word_not_pragma : {end kind : ℕ} → profile ≡ 1 → b ≡ false → Parted (name (more_in more) (emoji_in emoji)) s at kind end → Parted (word (more_in more) (emoji_in emoji) profile c) s at kind end
    unfolding word
    word_not_pragma z t r =
        parted (word (more_in more) (emoji_in emoji) profile c) s at (name (more_in more) (emoji_in emoji) (left s at)) (rw (eq-eqb profile 1 z, spelled, t)) r.what r.place

  module _ (profile c : ℕ) where
    pub word_plain : {end kind : ℕ} → (profile ≡ 1 → ⊥) → Parted (name (more_in more) (emoji_in emoji)) s at kind end → Parted (word (more_in more) (emoji_in emoji) profile c) s at kind end
    unfolding word
    word_plain z r =
        parted (word (more_in more) (emoji_in emoji) profile c) s at (name (more_in more) (emoji_in emoji) (left s at)) (rw (ne_eqb profile 1 z)) r.what r.place

  -- ---- behind $
  module _ {x : ℕ} {b : Bool} (f : x ≡ peek (left s at)) (o : b ≡ wide_emoji (emoji_in emoji) x) where
    pub hardware_fake : {e end kind : ℕ} → b ≡ true → Place s at e (skip (more_in more) (left s at)) → Place s e end (skip (goes_on (more_in more) (emoji_in emoji)) (left s e)) → kind ≡ invalid_ident → Parted (hardware (more_in more) (emoji_in emoji)) s at kind end
    unfolding hardware
    hardware_fake t p q k =
        let h : wide_emoji (emoji_in emoji) (peek (left s at)) ≡ true = rw f at (sym o ∙ t) in
        parted (hardware (more_in more) (emoji_in emoji)) s at (invalid_ident, skip (goes_on (more_in more) (emoji_in emoji)) (skip (more_in more) (left s at))) (rw h) k
        (from_place p q (ap (skip (goes_on (more_in more) (emoji_in emoji))) p.there))

    pub hardware_digits : {found end kind : ℕ} {any : Bool} → b ≡ false → Run is_digit false s at any found end → kind ≡ cond any hardware_ident dollar → Parted (hardware (more_in more) (emoji_in emoji)) s at kind end
    unfolding hardware
    hardware_digits t q k =
        let h : wide_emoji (emoji_in emoji) (peek (left s at)) ≡ false = rw f at (sym o ∙ t) in
        let d = ate_digits is_digit q.ate in
        parted (hardware (more_in more) (emoji_in emoji)) s at (cond (digits is_digit (left s at)).0 hardware_ident dollar, (digits is_digit (left s at)).1) (rw h) (rw (← d.what) k) d.place

module _ {s : List ℕ} {at end kind found : ℕ} where
  pub wired_fake : kind ≡ invalid_ident → found ≡ 0 → Wired s at kind found end
  wired_fake k z = record { run = λ t. absurd (false≢true (rw k at t)); none = λ t. (rw k, z) }

  pub wired_digits : {any : Bool} → Run is_digit false s at any found end → kind ≡ cond any hardware_ident dollar → Wired s at kind found end
  wired_digits {any} q k = record { run = λ t. (q.first, q.stop); none = λ t. absurd (false≢true (sym t ∙ ap is_wire k ∙ either any)) }
    where
      either : (b : Bool) → is_wire (cond b hardware_ident dollar) ≡ true
      either true = refl
      either false = refl

-- ---- behind @
module _ (start s : List ℕ) (at : ℕ) {x : ℕ} {b : Bool} (f : x ≡ peek (left s at)) (o : b ≡ start_in start x) where
  pub annotated_line : {end kind : ℕ} → b ≡ true → Place s at end (skip not_lf (left s at)) → kind ≡ annotation → Parted (annotated (start_in start)) s at kind end
  unfolding annotated
  annotated_line t p k =
      let h : start_in start (peek (left s at)) ≡ true = rw f at (sym o ∙ t) in
      parted (annotated (start_in start)) s at (annotation, skip not_lf (left s at)) (rw h) k p

  pub annotated_none : {kind : ℕ} → b ≡ false → at ≤ length s → kind ≡ at_sign → Parted (annotated (start_in start)) s at kind at
  unfolding annotated
  annotated_none t l k =
      let h : start_in start (peek (left s at)) ≡ false = rw f at (sym o ∙ t) in
      parted (annotated (start_in start)) s at (at_sign, left s at) (rw h) k (stay l)

pub ruleset naming = (name_fake, name_plain, name_ascii, name_run, annotated_line, annotated_none, hardware_fake, hardware_digits, wired_fake, wired_digits)
