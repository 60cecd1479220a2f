-- The machine of `specs/Phases.antt` cuts as the rules of `lexer/specs/Cut.antt` say: for each state, what the machine finds from there on.
-- Assumes nothing.
use Prim.Native.Nat.{ℕ, zero, suc, ◌-◌, ◌≤◌, ◌<◌}
use native.Mathlib.Omega.{arith}
use mathlib.Core.Path.{◌≡◌, refl, ap, sym, subst, ◌∙◌, fun_ext}
use mathlib.Core.Bool.{Bool, true, false, cond, not, ◌&&◌, ◌||◌, false≢true}
use mathlib.Core.List.{List, [], ◌∷◌, tail}
use lib.Dec.{eqb, leb}
use lib.ListN.{length, drop}
use borrow.Author.Tests.{eq-eqb, ne_eqb, eqb-true, eqb-false}
use Rattle.lists.specs.All.{all}
use Rattle.lists.specs.Cut.{cut}
use Rattle.lists.specs.Eat.{eat}
use Rattle.lists.proofs.Bools.{by_test, both, and_false, or_true, on_cond}
use Rattle.lists.proofs.Eat.{eat_nil, eat_more, eat_stop}
use Rattle.characters.specs.Utf8.{width}
use Rattle.characters.specs.Text.{byte_length, skip, keep}
use Rattle.characters.proofs.Text.{skip_nil, skip_more, skip_stop}
use Rattle.letters.specs.Chars.{is_whitespace}
use Rattle.cutters.specs.Kinds.{block_comment, unclosed_comment, whitespace_kind, ident, hardware_ident, invalid_ident, pragma, at_sign, dollar, slash_mark, unknown, marks, mark_in, int, float, str, bit_str}
use Rattle.cutters.specs.Records.{Token}
use Rattle.cutters.specs.Digits.{peek, is_digit}
use Rattle.lexer.specs.Cut.{Letters, Piece, not_lf, is_e, or_underscore, met, opens, closes, block, slash, digits, exponent, exponent_of, point, fraction, based, number, is_unit, escapes, quoted, quote_kind, is_bit, without_lf, twice, pragma_word, agree, pound, Quote, wide_emoji, goes_on, name, word, annotated, hardware, identifier, number_suffix, advance, next_token, tokens}
use Rattle.locality.specs.Machine.{Act, eats, halts, run, LooksAtTwo, cut_by}
use Rattle.locality.specs.Phases as Phases
use Rattle.locality.specs.Phases.{Seen, bits, broken, other, seeing, seen_kind, Line, of_comment, of_pragma, of_annotation, line_kind, Phase, behind_slash, line, inside, into, closing, closed, space, emoji_name, spelling, behind_at, behind_dollar, wire, zero_first, figures, pointed, decimals, behind_e, power, quote, quote_closed, suffixed, single, next_is, letter, figure, suffix_acts, number_ends, fraction_acts, act, first, Usual}
use Rattle.locality.proofs.Machine.{walk, walk_eats, walk_halts, walk_same, walk_while, counted_from, run_walk}

-- where eating stops, no next character passes the test
eat_rest : {S : Type 0} (p : ℕ → Bool) (g : S → ℕ → S) (s : S) (l : List ℕ) → next_is p (eat p g s l).1 ≡ false
eat_rest p g s [] = rw (eat_nil p g s)
eat_rest p g s (c ∷ t) =
    let ih = eat_rest p g (g s c) t in
    by_test (p c) (λ h. rw (eat_more p g s c t h) ih) (λ h. rw (eat_stop p g s c t h) h)

-- what is left does not depend on the state
eat_left : {S : Type 0} (p : ℕ → Bool) (g : S → ℕ → S) (s s' : S) (l : List ℕ) → (eat p g s l).1 ≡ (eat p g s' l).1
eat_left p g s s' [] = rw (eat_nil p g s, eat_nil p g s')
eat_left p g s s' (c ∷ t) =
    let ih = eat_left p g (g s c) (g s' c) t in
    by_test (p c) (λ h. rw (eat_more p g s c t h, eat_more p g s' c t h) ih) (λ h. rw (eat_stop p g s c t h, eat_stop p g s' c t h))

-- a digit met is met
eat_met : (p f : ℕ → Bool) (l : List ℕ) → (eat p (met f) true l).0 ≡ true
eat_met p f [] = rw (eat_nil p (met f) true)
eat_met p f (c ∷ t) =
    let ih = eat_met p f t in
    by_test (p c) (λ h. rw (eat_more p (met f) true c t h) ih) (λ h. rw (eat_stop p (met f) true c t h))

-- the letters of `pragma` are small letters
letter_small : (n : ℕ) → 0x61 ≤ letter n
letter_small zero = omega arith
letter_small (suc zero) = omega arith
letter_small (suc (suc zero)) = omega arith
letter_small (suc (suc (suc zero))) = omega arith
letter_small (suc (suc (suc (suc zero)))) = omega arith
letter_small (suc (suc (suc (suc (suc zero))))) = omega arith
letter_small (suc (suc (suc (suc (suc (suc n)))))) = omega arith

pub no_letter : (c n : ℕ) → c < 0x61 → eqb c (letter n) ≡ false
no_letter c n h = ne_eqb c (letter n) (λ e. omega (arith, letter_small n))

-- a plain token, whose suffix would start at m
abbrev tok : List ℕ → ℕ × List ℕ → Piece
tok m r = record { kind = r.0; from_suffix = m; rest = r.1 }

-- ---- what is seen of a quoted text, to its end
unfoldable sees : Seen → List ℕ → Seen
sees s [] = s
sees s (c ∷ t) = sees (seeing s c) t

sees_other : (b : List ℕ) → sees other b ≡ other
unfolding sees
sees_other [] = refl
sees_other (c ∷ b) = sees_other b

abbrev is_low : ℕ → Bool
is_low c = eqb c 0x5F

-- two underscores, the first of them perhaps before the text
abbrev pairs : Bool → List ℕ → Bool
pairs low b = (low && next_is is_low b) || twice b

twice_cons : (c : ℕ) (t : List ℕ) → twice (c ∷ t) ≡ pairs (is_low c) t
unfolding twice
twice_cons c [] = rw (and_false (is_low c))
twice_cons c (x ∷ t) = refl

or_assoc : (a b c : Bool) → ((a || b) || c) ≡ (a || (b || c))
or_assoc true b c = refl
or_assoc false b c = refl

pairs_cons : (two low : Bool) (c : ℕ) (t : List ℕ) → ((two || (low && is_low c)) || pairs (is_low c) t) ≡ (two || pairs low (c ∷ t))
pairs_cons two low c t = rw (or_assoc two (low && is_low c) (pairs (is_low c) t), twice_cons c t)

pairs_nil : (two low : Bool) → two ≡ (two || pairs low [])
unfolding twice
pairs_nil true low = refl
pairs_nil false low = rw (and_false low)

no_bit : (c : ℕ) → eqb c 0x0A ≡ true → is_bit c ≡ false
no_bit c h = rw (eqb-true c 0x0A h)

-- closed: all are bits
kind_closed : (b : List ℕ) (two low : Bool) → seen_kind true (sees (bits two low) b) ≡ cond (all is_bit b) (bit_str true (two || pairs low b)) (str true)
unfolding sees all
kind_closed [] two low = ap (bit_str true) (pairs_nil two low)
kind_closed (c ∷ b) two low =
    let ih : (two low : Bool) → seen_kind true (sees (bits two low) b) ≡ cond (all is_bit b) (bit_str true (two || pairs low b)) (str true) = λ two low. kind_closed b two low in
    by_test (eqb c 0x0A) (λ h. rw (h, no_bit c h) (after b two))
    (λ h. by_test (is_bit c)
    (λ k. rw (h, k) (ih (two || (low && is_low c)) (is_low c) ∙ rw (pairs_cons two low c b)))
    (λ k. rw (h, k, sees_other b)))
  where
    after : (b : List ℕ) (two : Bool) → seen_kind true (sees (broken two) b) ≡ str true
    after [] two = refl
    after (c ∷ b) two = rw (sees_other b)

-- not closed: all but one LF at the end are bits
kind_open : (b : List ℕ) (two low : Bool) → seen_kind false (sees (bits two low) b) ≡ cond (all is_bit (without_lf b)) (bit_str false (two || pairs low b)) (str false)
unfolding sees all without_lf twice
kind_open [] two low = ap (bit_str false) (pairs_nil two low)
kind_open (c ∷ []) two low =
    by_test (eqb c 0x0A) (λ h. rw h (ap (bit_str false) (last h)))
    (λ h. by_test (is_bit c) (λ k. rw (h, k) (ap (bit_str false) (pairs_nil (two || (low && is_low c)) (is_low c) ∙ pairs_cons two low c []))) (λ k. rw (h, k)))
  where
    last : eqb c 0x0A ≡ true → two ≡ (two || pairs low (c ∷ []))
    last h = rw (eqb-true c 0x0A h) (pairs_nil two low)
kind_open (c ∷ x ∷ t) two low =
    let ih : (two low : Bool) → seen_kind false (sees (bits two low) (x ∷ t)) ≡ cond (all is_bit (without_lf (x ∷ t))) (bit_str false (two || pairs low (x ∷ t))) (str false) = λ two low. kind_open (x ∷ t) two low in
    by_test (eqb c 0x0A) (λ h. rw (h, no_bit c h, sees_other t))
    (λ h. by_test (is_bit c)
    (λ k. rw (h, k) (ih (two || (low && is_low c)) (is_low c) ∙ rw (pairs_cons two low c (x ∷ t))))
    (λ k. rw (h, k, sees_other t)))

kind_seen : (q : Quote) → seen_kind q.closed (sees (bits false false) q.body) ≡ quote_kind q
unfolding quote_kind
kind_seen q = by_test q.closed (λ h. rw h (kind_closed q.body false false)) (λ h. rw h (kind_open q.body false false))

module _ (u : Letters) where
  abbrev go : Phase → List ℕ → List ℕ → Piece
  go = walk (act u)

  -- the states that eat while a test holds
  walk_skip : (q : Phase) (p : ℕ → Bool) (k : ℕ) → ((l : List ℕ) → act u q l ≡ cond (next_is p l) (eats false q) (halts false k)) → (m l : List ℕ) → go q m l ≡ tok m (k, skip p l)
  unfolding skip
  walk_skip q p k acts m l =
      let r = (eat p keep tt l).1 in
      let a : act u q r ≡ halts false k = acts r ∙ rw (eat_rest p keep tt l) in
      walk_while (act u) (λ s. q) p keep (λ s c t h. acts (c ∷ t) ∙ rw h) tt m l ∙ walk_halts (act u) m r a

  line_walk : (k : Line) (m l : List ℕ) → go (line k) m l ≡ tok m (line_kind k, skip not_lf l)
  unfolding act
  line_walk k = walk_skip (line k) not_lf (line_kind k) (λ l. refl)

  space_walk : (m l : List ℕ) → go space m l ≡ tok m (whitespace_kind, skip is_whitespace l)
  unfolding act
  space_walk = walk_skip space is_whitespace whitespace_kind (λ l. refl)

  emoji_walk : (m l : List ℕ) → go emoji_name m l ≡ tok m (invalid_ident, skip (goes_on u.more u.emoji) l)
  unfolding act
  emoji_walk = walk_skip emoji_name (goes_on u.more u.emoji) invalid_ident (λ l. refl)

  suffixed_walk : (k : ℕ) (m l : List ℕ) → go (suffixed k) m l ≡ tok m (k, skip u.more l)
  unfolding act
  suffixed_walk k = walk_skip (suffixed k) u.more k (λ l. refl)

  single_walk : (k : ℕ) (m l : List ℕ) → go (single k) m l ≡ tok m (k, l)
  unfolding act
  single_walk k m l = walk_halts (act u) m l refl

  -- ---- comments
  abbrev commented : Bool × List ℕ → ℕ × List ℕ
  commented b = (cond b.0 block_comment unclosed_comment, b.1)

  closed_walk : (m l : List ℕ) → go closed m l ≡ tok m (block_comment, l)
  unfolding act
  closed_walk m l = walk_halts (act u) m l refl

  inside_walk : (l : List ℕ) (d : ℕ) (m : List ℕ) → go (inside d) m l ≡ tok m (commented (block d l))
  unfolding act block
  inside_walk [] d m = walk_halts (act u) m [] refl
  inside_walk (c ∷ []) d m =
      let a : act u (inside d) (c ∷ []) ≡ eats false (inside d) = rw (and_false (eqb c 0x2F), and_false (eqb c 0x2A)) in
      walk_eats (act u) m a ∙ walk_halts (act u) m [] refl
  inside_walk (c ∷ x ∷ t) d m =
      let past : (e : ℕ) → go (inside e) m t ≡ tok m (commented (block e t)) = λ e. inside_walk t e m in
      let next = inside_walk (x ∷ t) d m in
      by_test (opens c x)
      (λ h.
      let a : act u (inside d) (c ∷ x ∷ t) ≡ eats false (into (suc d)) = rw h in
      rw h (walk_eats (act u) m a ∙ walk_eats (act u) m refl ∙ past (suc d)))
      (λ h. by_test (closes c x)
      (λ k. by_test (leb d 1)
      (λ z.
      let a : act u (inside d) (c ∷ x ∷ t) ≡ eats false closing = rw (h, k, z) in
      rw (h, k, z) (walk_eats (act u) m a ∙ walk_eats (act u) m refl ∙ closed_walk m t))
      (λ z.
      let a : act u (inside d) (c ∷ x ∷ t) ≡ eats false (into (d - 1)) = rw (h, k, z) in
      rw (h, k, z) (walk_eats (act u) m a ∙ walk_eats (act u) m refl ∙ past (d - 1))))
      (λ k.
      let a : act u (inside d) (c ∷ x ∷ t) ≡ eats false (inside d) = rw (h, k) in
      rw (h, k) (walk_eats (act u) m a ∙ next)))

  slash_walk : (m l : List ℕ) → go behind_slash m l ≡ tok m (slash l)
  unfolding act slash
  slash_walk m [] = walk_halts (act u) m [] refl
  slash_walk m (c ∷ t) =
      by_test (eqb c 0x2F)
      (λ h.
      let a : act u behind_slash (c ∷ t) ≡ eats false (line of_comment) = rw h in
      rw h (walk_eats (act u) m a ∙ line_walk of_comment m t))
      (λ h. by_test (eqb c 0x2A)
      (λ k.
      let a : act u behind_slash (c ∷ t) ≡ eats false (inside 1) = rw (h, k) in
      rw (h, k) (walk_eats (act u) m a ∙ inside_walk t 1 m))
      (λ k.
      let a : act u behind_slash (c ∷ t) ≡ halts false slash_mark = rw (h, k) in
      rw (h, k) (walk_halts (act u) m (c ∷ t) a)))

  -- ---- names
  name_behind : (m r : List ℕ) → next_is u.more r ≡ false → go Phases.name m r ≡ tok m (cond (wide_emoji u.emoji (peek r)) (invalid_ident, skip (goes_on u.more u.emoji) r) (ident, r))
  unfolding act
  name_behind m [] n = walk_halts (act u) m [] refl
  name_behind m (c ∷ t) n =
      by_test (wide_emoji u.emoji c)
      (λ h.
      let a : act u Phases.name (c ∷ t) ≡ eats false emoji_name = rw (n, h) in
      let g : goes_on u.more u.emoji c ≡ true = rw h (or_true (u.more c)) in
      rw (h, skip_more (goes_on u.more u.emoji) c t g) (walk_eats (act u) m a ∙ emoji_walk m t))
      (λ h.
      let a : act u Phases.name (c ∷ t) ≡ halts false ident = rw (n, h) in
      rw h (walk_halts (act u) m (c ∷ t) a))

  name_walk : (m l : List ℕ) → go Phases.name m l ≡ tok m (name u.more u.emoji l)
  unfolding act name skip
  name_walk m l =
      walk_while (act u) (λ s. Phases.name) u.more keep (λ s c t h. rw h) tt m l ∙ name_behind m (eat u.more keep tt l).1 (eat_rest u.more keep tt l)

  -- ---- where a literal ends
  identifier_nil : identifier u.start u.more [] ≡ []
  unfolding identifier
  identifier_nil = by_test (u.start 0) (λ h. rw (h, skip_nil u.more)) (λ h. rw h)

  abbrev ending : ℕ → List ℕ → List ℕ → Piece
  ending k m r = record { kind = k; from_suffix = m; rest = r }

  suffix_walk : (q : Phase) (k : ℕ) (m l : List ℕ) → act u q l ≡ suffix_acts u k l → go q m l ≡ ending k l (identifier u.start u.more l)
  unfolding act identifier
  suffix_walk q k m [] e = walk_halts (act u) m [] e ∙ ap (ending k []) (sym identifier_nil)
  suffix_walk q k m (c ∷ t) e =
      by_test (u.start c)
      (λ h.
      let a : act u q (c ∷ t) ≡ eats true (suffixed k) = e ∙ rw h in
      rw h (walk_eats (act u) m a ∙ suffixed_walk k (c ∷ t) t))
      (λ h.
      let a : act u q (c ∷ t) ≡ halts true k = e ∙ rw h in
      rw h (walk_halts (act u) m (c ∷ t) a))

  -- a number of a kind, and what is left where its suffix starts
  abbrev lit : ℕ × List ℕ → Piece
  lit x = ending x.0 x.1 (number_suffix u.start u.more x.1)

  ends_walk : (q : Phase) (k : ℕ) (m l : List ℕ) → act u q l ≡ number_ends u k l → go q m l ≡ lit (k, l)
  unfolding number_suffix
  ends_walk q k m l e =
      by_test (is_unit (peek l) (peek (tail l)))
      (λ h.
      let a : act u q l ≡ halts true k = e ∙ rw h in
      rw h (walk_halts (act u) m l a))
      (λ h.
      let a : act u q l ≡ suffix_acts u k l = e ∙ rw h in
      rw h (suffix_walk q k m l a))

  -- ---- numbers
  module _ (base : ℕ) where
    power_walk : (any : Bool) (m l : List ℕ) → let e = eat (or_underscore is_digit) (met is_digit) any l in go (power base any) m l ≡ lit (float base (not e.0), e.1)
    unfolding act
    power_walk any m l =
        let e = eat (or_underscore is_digit) (met is_digit) any l in
        let a : act u (power base e.0) e.1 ≡ number_ends u (float base (not e.0)) e.1 = rw (eat_rest (or_underscore is_digit) (met is_digit) any l) in
        walk_while (act u) (power base) (or_underscore is_digit) (met is_digit) (λ s c t h. rw h) any m l ∙ ends_walk (power base e.0) (float base (not e.0)) m e.1 a

    e_walk : (m l : List ℕ) → go (behind_e base) m l ≡ lit (exponent_of base l)
    unfolding act exponent_of exponent digits
    e_walk m [] = walk_same (act u) m [] refl ∙ power_walk false m []
    e_walk m (c ∷ t) =
        by_test (eqb c 0x2D || eqb c 0x2B)
        (λ h.
        let a : act u (behind_e base) (c ∷ t) ≡ eats false (power base false) = rw h in
        rw h (walk_eats (act u) m a ∙ power_walk false m t))
        (λ h.
        let a : act u (behind_e base) (c ∷ t) ≡ act u (power base false) (c ∷ t) = rw h in
        rw h (walk_same (act u) m (c ∷ t) a ∙ power_walk false m (c ∷ t)))

    abbrev after_decimals : List ℕ → ℕ × List ℕ
    after_decimals r = cond (is_e (peek r)) (exponent_of base (tail r)) (float base false, r)

    decimals_behind : (m r : List ℕ) → next_is (or_underscore is_digit) r ≡ false → go (decimals base) m r ≡ lit (after_decimals r)
    unfolding act
    decimals_behind m [] n = ends_walk (decimals base) (float base false) m [] refl
    decimals_behind m (c ∷ t) n =
        by_test (is_e c)
        (λ h.
        let a : act u (decimals base) (c ∷ t) ≡ eats false (behind_e base) = rw (n, h) in
        rw h (walk_eats (act u) m a ∙ e_walk m t))
        (λ h.
        let a : act u (decimals base) (c ∷ t) ≡ number_ends u (float base false) (c ∷ t) = rw (n, h) in
        rw h (ends_walk (decimals base) (float base false) m (c ∷ t) a))

    decimals_walk : (any : Bool) (m l : List ℕ) → go (decimals base) m l ≡ lit (after_decimals (eat (or_underscore is_digit) (met is_digit) any l).1)
    unfolding act
    decimals_walk any m l =
        walk_while (act u) (λ s. decimals base) (or_underscore is_digit) (met is_digit) (λ s c t h. rw h) any m l
        ∙ decimals_behind m (eat (or_underscore is_digit) (met is_digit) any l).1 (eat_rest (or_underscore is_digit) (met is_digit) any l)

    point_walk : (m l : List ℕ) → go (pointed base) m l ≡ lit (point base l)
    unfolding act point digits is_digit
    point_walk m [] = ends_walk (pointed base) (float base false) m [] refl
    point_walk m (c ∷ t) =
        by_test (is_digit c)
        (λ h.
        let a : act u (pointed base) (c ∷ t) ≡ eats false (decimals base) = rw h in
        let o : or_underscore is_digit c ≡ true = rw h (or_true (eqb c 0x5F)) in
        rw (h, eat_more (or_underscore is_digit) (met is_digit) false c t o) (walk_eats (act u) m a ∙ decimals_walk (met is_digit false c) m t))
        (λ h.
        let a : act u (pointed base) (c ∷ t) ≡ number_ends u (float base false) (c ∷ t) = rw h in
        rw h (ends_walk (pointed base) (float base false) m (c ∷ t) a))

    fraction_walk : (q : Phase) (m l : List ℕ) → act u q l ≡ fraction_acts u base l → go q m l ≡ lit (fraction base l)
    unfolding act fraction
    fraction_walk q m [] e = ends_walk q (int base false) m [] e
    fraction_walk q m (c ∷ t) e =
        by_test (eqb c 0x2E)
        (λ h.
        let a : act u q (c ∷ t) ≡ eats false (pointed base) = e ∙ rw h in
        rw h (walk_eats (act u) m a ∙ point_walk m t))
        (λ h. by_test (is_e c)
        (λ k.
        let a : act u q (c ∷ t) ≡ eats false (behind_e base) = e ∙ rw (h, k) in
        rw (h, k) (walk_eats (act u) m a ∙ e_walk m t))
        (λ k.
        let a : act u q (c ∷ t) ≡ number_ends u (int base false) (c ∷ t) = e ∙ rw (h, k) in
        rw (h, k) (ends_walk q (int base false) m (c ∷ t) a)))

    figures_walk : (any : Bool) (m l : List ℕ) → let d = eat (or_underscore (figure base)) (met (figure base)) any l in go (figures base any) m l ≡ lit (based base d.0 d.1)
    unfolding act based
    figures_walk any m l =
        let d = eat (or_underscore (figure base)) (met (figure base)) any l in
        let n = eat_rest (or_underscore (figure base)) (met (figure base)) any l in
        walk_while (act u) (figures base) (or_underscore (figure base)) (met (figure base)) (λ s c t h. rw h) any m l
        ∙ by_test d.0
        (λ h.
        let a : act u (figures base true) d.1 ≡ fraction_acts u base d.1 = rw n in
        rw h (fraction_walk (figures base true) m d.1 a))
        (λ h.
        let a : act u (figures base false) d.1 ≡ number_ends u (int base true) d.1 = rw n in
        rw h (ends_walk (figures base false) (int base true) m d.1 a))

  -- a decimal number: its digits, and no flag
  decimal_walk : (m l : List ℕ) → go (figures 2 true) m l ≡ lit (fraction 2 (digits is_digit l).1)
  unfolding digits based
  decimal_walk m l =
      figures_walk 2 true m l
      ∙ rw (eat_met (or_underscore is_digit) is_digit l, eat_left (or_underscore is_digit) (met is_digit) true false l)

  base_walk : (base : ℕ) (m t : List ℕ) → let d = digits (figure base) t in go (figures base false) m t ≡ lit (based base d.0 d.1)
  unfolding digits
  base_walk base m t = figures_walk base false m t

  zero_walk : (m l : List ℕ) → go zero_first m l ≡ lit (number 0x30 l)
  unfolding act number
  zero_walk m [] = walk_same (act u) m [] refl ∙ decimal_walk m []
  zero_walk m (c ∷ t) =
      by_test (eqb c 0x62)
      (λ h.
      let a : act u zero_first (c ∷ t) ≡ eats false (figures 0 false) = rw h in
      rw h (walk_eats (act u) m a ∙ base_walk 0 m t))
      (λ h. by_test (eqb c 0x6F)
      (λ k.
      let a : act u zero_first (c ∷ t) ≡ eats false (figures 1 false) = rw (h, k) in
      rw (h, k) (walk_eats (act u) m a ∙ base_walk 1 m t))
      (λ k. by_test (eqb c 0x78)
      (λ j.
      let a : act u zero_first (c ∷ t) ≡ eats false (figures 3 false) = rw (h, k, j) in
      rw (h, k, j) (walk_eats (act u) m a ∙ base_walk 3 m t))
      (λ j.
      let a : act u zero_first (c ∷ t) ≡ act u (figures 2 true) (c ∷ t) = rw (h, k, j) in
      rw (h, k, j) (walk_same (act u) m (c ∷ t) a ∙ decimal_walk m (c ∷ t)))))

  number_walk : (c : ℕ) (m l : List ℕ) → go (cond (eqb c 0x30) zero_first (figures 2 true)) m l ≡ lit (number c l)
  unfolding number
  number_walk c m l =
      by_test (eqb c 0x30) (λ h. rw h (zero_walk m l)) (λ h. rw h (decimal_walk m l))

  -- ---- behind @ and $
  at_walk : (m l : List ℕ) → go behind_at m l ≡ tok m (annotated u.start l)
  unfolding act annotated
  at_walk m l =
      by_test (u.start (peek l))
      (λ h.
      let a : act u behind_at l ≡ act u (line of_annotation) l = rw h in
      rw h (walk_same (act u) m l a ∙ line_walk of_annotation m l))
      (λ h.
      let a : act u behind_at l ≡ halts false at_sign = rw h in
      rw h (walk_halts (act u) m l a))

  wire_walk : (any : Bool) (m l : List ℕ) → let d = eat (or_underscore is_digit) (met is_digit) any l in go (wire any) m l ≡ tok m (cond d.0 hardware_ident dollar, d.1)
  unfolding act
  wire_walk any m l =
      let d = eat (or_underscore is_digit) (met is_digit) any l in
      let a : act u (wire d.0) d.1 ≡ halts false (cond d.0 hardware_ident dollar) = rw (eat_rest (or_underscore is_digit) (met is_digit) any l) in
      walk_while (act u) wire (or_underscore is_digit) (met is_digit) (λ s c t h. rw h) any m l ∙ walk_halts (act u) m d.1 a

  -- what goes on with an identifier goes on with one that holds an emoji
  skip_both : (l : List ℕ) → skip (goes_on u.more u.emoji) (skip u.more l) ≡ skip (goes_on u.more u.emoji) l
  skip_both [] = rw (skip_nil u.more)
  skip_both (c ∷ t) =
      let ih = skip_both t in
      by_test (u.more c)
      (λ h.
      let g : goes_on u.more u.emoji c ≡ true = rw h in
      rw (skip_more u.more c t h, skip_more (goes_on u.more u.emoji) c t g) ih)
      (λ h. rw (skip_stop u.more c t h))

  dollar_walk : (m l : List ℕ) → go behind_dollar m l ≡ tok m (hardware u.more u.emoji l)
  unfolding act hardware digits
  dollar_walk m [] = walk_same (act u) m [] refl ∙ wire_walk false m []
  dollar_walk m (c ∷ t) =
      by_test (wide_emoji u.emoji c)
      (λ h.
      let a : act u behind_dollar (c ∷ t) ≡ eats false emoji_name = rw h in
      let g : goes_on u.more u.emoji c ≡ true = rw h (or_true (u.more c)) in
      rw (h, skip_both (c ∷ t), skip_more (goes_on u.more u.emoji) c t g) (walk_eats (act u) m a ∙ emoji_walk m t))
      (λ h.
      let a : act u behind_dollar (c ∷ t) ≡ act u (wire false) (c ∷ t) = rw h in
      rw h (walk_same (act u) m (c ∷ t) a ∙ wire_walk false m (c ∷ t)))

  -- ---- quoted texts
  abbrev quote_end : Seen → Quote → Piece
  quote_end s q = ending (seen_kind q.closed (sees s q.body)) q.rest (cond q.closed (identifier u.start u.more q.rest) q.rest)

  shut_walk : (s : Seen) (c : ℕ) (m t : List ℕ) → eqb c 0x22 ≡ true → go (quote false s) m (c ∷ t) ≡ ending (seen_kind true s) t (identifier u.start u.more t)
  unfolding act
  shut_walk s c m t h =
      let a : act u (quote false s) (c ∷ t) ≡ eats false (quote_closed (seen_kind true s)) = rw h in
      walk_eats (act u) m a ∙ suffix_walk (quote_closed (seen_kind true s)) (seen_kind true s) m t refl

  -- a character that closes nothing, then a state that does as one behind no backslash
  on_walk : (s : Seen) (c : ℕ) (m t : List ℕ) → eqb c 0x22 ≡ false → act u (quote (eqb c 0x5C && true) (seeing s c)) t ≡ act u (quote false (seeing s c)) t → go (quote false s) m (c ∷ t) ≡ go (quote false (seeing s c)) m t
  unfolding act
  on_walk s c m t h e =
      let a : act u (quote false s) (c ∷ t) ≡ eats false (quote (eqb c 0x5C && true) (seeing s c)) = rw h in
      walk_eats (act u) m a ∙ walk_same (act u) m t e

  -- a backslash and what it takes along
  pair_walk : (s : Seen) (c x : ℕ) (m t : List ℕ) → eqb c 0x22 ≡ false → eqb c 0x5C ≡ true → go (quote false s) m (c ∷ x ∷ t) ≡ go (quote false (seeing (seeing s c) x)) m t
  unfolding act
  pair_walk s c x m t h k =
      let a : act u (quote false s) (c ∷ x ∷ t) ≡ eats false (quote true (seeing s c)) = rw (h, k) in
      let b : act u (quote true (seeing s c)) (x ∷ t) ≡ eats false (quote false (seeing (seeing s c) x)) = rw (and_false (eqb x 0x22), and_false (eqb x 0x5C)) in
      walk_eats (act u) m a ∙ walk_eats (act u) m b

  quote_walk : (l : List ℕ) (s : Seen) (m : List ℕ) → go (quote false s) m l ≡ quote_end s (quoted l)
  unfolding act quoted sees
  quote_walk [] s m = walk_halts (act u) m [] refl
  quote_walk (c ∷ []) s m =
      by_test (eqb c 0x22) (λ h. rw h (shut_walk s c m [] h)) (λ h. rw h (on_walk s c m [] h refl ∙ walk_halts (act u) m [] refl))
  quote_walk (c ∷ x ∷ t) s m =
      let past : (s : Seen) → go (quote false s) m t ≡ quote_end s (quoted t) = λ s. quote_walk t s m in
      let next : (s : Seen) → go (quote false s) m (x ∷ t) ≡ quote_end s (quoted (x ∷ t)) = λ s. quote_walk (x ∷ t) s m in
      by_test (eqb c 0x22) (λ h. rw h (shut_walk s c m (x ∷ t) h))
      (λ h. by_test (escapes c x)
      (λ k. rw (h, k) (pair_walk s c x m t h (both (eqb c 0x5C) (eqb x 0x5C || eqb x 0x22) k).0 ∙ past (seeing (seeing s c) x)))
      (λ k. rw (h, k) (on_walk s c m (x ∷ t) h (by_test (eqb c 0x5C) (λ j. rw j (plain_next (seeing s c) x t (rw j at k))) (λ j. rw j)) ∙ next (seeing s c))))
    where
      plain_next : (s : Seen) (x : ℕ) (t : List ℕ) → (eqb x 0x5C || eqb x 0x22) ≡ false → act u (quote true s) (x ∷ t) ≡ act u (quote false s) (x ∷ t)
      plain_next s x t e =
          by_test (eqb x 0x5C) (λ h. absurd (false≢true (sym e ∙ rw h)))
          (λ h.
          let i : eqb x 0x22 ≡ false = rw h at e in
          rw (h, i))

  -- ---- the letters of `pragma`, of which those of w are still to come
  abbrev spelled : Bool → List ℕ → List ℕ → ℕ × List ℕ
  spelled bare w l = cond (eqb (agree w l) (length w)) (pragma, skip not_lf l) (cond bare (name u.more u.emoji l) (invalid_ident, drop (agree w l) l))

  name_more : (c : ℕ) (t : List ℕ) → u.more c ≡ true → name u.more u.emoji (c ∷ t) ≡ name u.more u.emoji t
  unfolding name
  name_more c t h = rw (skip_more u.more c t h)

  -- where the next character is not the letter
  unspelled : (bare : Bool) (n : ℕ) (m l : List ℕ) → eqb (peek l) (letter n) ≡ false → go (spelling bare n) m l ≡ tok m (cond bare (name u.more u.emoji l) (invalid_ident, l))
  unfolding act
  unspelled true n m l h =
      let a : act u (spelling true n) l ≡ act u Phases.name l = rw h in
      walk_same (act u) m l a ∙ name_walk m l
  unspelled false n m l h =
      let a : act u (spelling false n) l ≡ halts false invalid_ident = rw h in
      walk_halts (act u) m l a

  eqb_suc : (a b : ℕ) → eqb (suc a) (suc b) ≡ eqb a b
  eqb_suc a b =
      by_test (eqb a b) (λ h. rw h (eq-eqb (suc a) (suc b) (omega (arith, eqb-true a b h))))
      (λ h. rw h (ne_eqb (suc a) (suc b) (λ e. eqb-false a b h (omega arith))))

  spell : (bare : Bool) (n : ℕ) (w m : List ℕ) → not_lf (letter n) ≡ true → (bare ≡ true → u.more (letter n) ≡ true) →
      ((l : List ℕ) → go (cond (leb 5 n) (line of_pragma) (spelling bare (suc n))) m l ≡ tok m (spelled bare w l)) → (l : List ℕ) → go (spelling bare n) m l ≡ tok m (spelled bare (letter n ∷ w) l)
  unfolding agree act
  spell bare n w m f i next [] =
      let e : eqb 0 (suc (length w)) ≡ false = ne_eqb 0 (suc (length w)) (λ q. omega arith) in
      rw e (unspelled bare n m [] (no_letter 0 n (omega arith)))
  spell bare n w m f i next (c ∷ t) =
      by_test (eqb c (letter n))
      (λ h.
      let a : act u (spelling bare n) (c ∷ t) ≡ eats false (cond (leb 5 n) (line of_pragma) (spelling bare (suc n))) = rw h in
      let q : c ≡ letter n = eqb-true c (letter n) h in
      let g : skip not_lf (c ∷ t) ≡ skip not_lf t = skip_more not_lf c t (ap not_lf q ∙ f) in
      rw (h, eqb_suc (agree w t) (length w), g) (walk_eats (act u) m a ∙ next t ∙ ap (λ (x : ℕ × List ℕ). tok m (cond (eqb (agree w t) (length w)) (pragma, skip not_lf t) x)) (named bare q i (agree w t))))
      (λ h.
      let e : eqb 0 (suc (length w)) ≡ false = ne_eqb 0 (suc (length w)) (λ q. omega arith) in
      rw (h, e) (unspelled bare n m (c ∷ t) h))
    where
      named : (bare : Bool) → c ≡ letter n → (bare ≡ true → u.more (letter n) ≡ true) → (a : ℕ) → cond bare (name u.more u.emoji t) (invalid_ident, drop a t) ≡ cond bare (name u.more u.emoji (c ∷ t)) (invalid_ident, drop (suc a) (c ∷ t))
      named true q i a = sym (name_more c t (ap u.more q ∙ i refl))
      named false q i a = refl

  -- the last five
  spell_on : (bare : Bool) → (bare ≡ true → all u.more (tail pragma_word) ≡ true) → (m l : List ℕ) → go (spelling bare 1) m l ≡ tok m (spelled bare (tail pragma_word) l)
  unfolding agree not_lf all
  spell_on bare i m =
      let r : bare ≡ true → (u.more 0x72 ≡ true) × (u.more 0x61 ≡ true) × (u.more 0x67 ≡ true) × (u.more 0x6D ≡ true) = λ h. letters (i h) in
      spell bare 1 (0x61 ∷ 0x67 ∷ 0x6D ∷ 0x61 ∷ []) m refl (λ h. (r h).0)
      (spell bare 2 (0x67 ∷ 0x6D ∷ 0x61 ∷ []) m refl (λ h. (r h).1)
      (spell bare 3 (0x6D ∷ 0x61 ∷ []) m refl (λ h. (r h).2)
      (spell bare 4 (0x61 ∷ []) m refl (λ h. (r h).3)
      (spell bare 5 [] m refl (λ h. (r h).1) (line_walk of_pragma m)))))
    where
      letters : all u.more (tail pragma_word) ≡ true → (u.more 0x72 ≡ true) × (u.more 0x61 ≡ true) × (u.more 0x67 ≡ true) × (u.more 0x6D ≡ true)
      letters e =
          let a = both (u.more 0x72) (all u.more (0x61 ∷ 0x67 ∷ 0x6D ∷ 0x61 ∷ [])) e in
          let b = both (u.more 0x61) (all u.more (0x67 ∷ 0x6D ∷ 0x61 ∷ [])) a.1 in
          let c = both (u.more 0x67) (all u.more (0x6D ∷ 0x61 ∷ [])) b.1 in
          let d = both (u.more 0x6D) (all u.more (0x61 ∷ [])) c.1 in
          (a.0, b.0, c.0, d.0)

  pound_walk : (m l : List ℕ) → go (spelling false 0) m l ≡ tok m (pound l)
  unfolding pound not_lf
  pound_walk m l =
      spell false 0 (tail pragma_word) m refl (λ h. absurd (false≢true h)) (spell_on false (λ h. absurd (false≢true h)) m) l

  -- ---- THE MACHINE CUTS AS THE RULES SAY
  choose : (q p : Phase) (b : Bool) (m t : List ℕ) {v w : Piece} → go q m t ≡ v → go p m t ≡ w → go (cond b q p) m t ≡ cond b v w
  choose q p true m t e f = e
  choose q p false m t e f = f

  module _ (usual : Usual u) (profile : ℕ) where
    word_walk : (c : ℕ) (m t : List ℕ) → go (cond (eqb profile 1 && eqb c 0x70) (spelling true 1) Phases.name) m t ≡ tok m (word u.more u.emoji profile c t)
    unfolding word agree
    word_walk c m t =
        by_test (eqb profile 1)
        (λ h. by_test (eqb c 0x70)
        (λ k. rw (h, k, eqb_suc (agree (tail pragma_word) t) 5) (spell_on true (λ e. usual.word) m t))
        (λ k. rw (h, k) (name_walk m t)))
        (λ h. rw h (name_walk m t))

    pub advance_walk : (c : ℕ) (t : List ℕ) → walk (act u) (first u profile c) (c ∷ t) t ≡ advance u profile c t
    unfolding first advance
    advance_walk c t =
        let l = c ∷ t in
        let m = mark_in marks c in
        choose _ _ (eqb c 0x2F) l t (slash_walk l t)
        (choose _ _ (is_whitespace c) l t (space_walk l t)
        (choose _ _ (u.start c) l t (word_walk c l t)
        (choose _ _ (is_digit c) l t (number_walk c l t)
        (choose _ _ (eqb c 0x23) l t (pound_walk l t)
        (choose _ _ (eqb c 0x40) l t (at_walk l t)
        (choose _ _ (eqb c 0x24) l t (dollar_walk l t)
        (choose _ _ (not (eqb m 0)) l t (single_walk m l t)
        (choose _ _ (eqb c 0x22) l t (quote_walk t (bits false false) l ∙ ap (λ (k : ℕ). ending k (quoted t).rest (cond (quoted t).closed (identifier u.start u.more (quoted t).rest) (quoted t).rest)) (kind_seen (quoted t)))
        (choose _ _ (wide_emoji u.emoji c) l t (emoji_walk l t) (single_walk unknown l t))))))))))

    -- each token, with its counts
    pub next_run : (c : ℕ) (t : List ℕ) → run (act u) (first u profile c) (width c) 0 t ≡ next_token u profile c t
    unfolding next_token byte_length
    next_run c t =
        run_walk (act u) t (first u profile c) (width c) 0 (byte_length (c ∷ t)) (c ∷ t) refl (omega arith) ∙ ap (counted_from (act u) (byte_length (c ∷ t))) (advance_walk c t)

    -- and the tokens of a text
    pub machine_tokens : (l : List ℕ) → cut_by (act u) (first u profile) l ≡ tokens u profile l
    unfolding cut_by tokens
    machine_tokens l = ap (λ (f : ℕ → List ℕ → Token × List ℕ). cut f l) (fun_ext (λ c. fun_ext (λ t. next_run c t)))

  -- ---- it looks at two characters at most
  pub two : LooksAtTwo (act u)
  unfolding act
  two behind_slash x y l = refl
  two (line k) x y l = refl
  two (inside d) x y l = refl
  two (into d) x y l = refl
  two closing x y l = refl
  two closed x y l = refl
  two space x y l = refl
  two Phases.name x y l = refl
  two emoji_name x y l = refl
  two (spelling bare n) x y l = refl
  two behind_at x y l = refl
  two behind_dollar x y l = refl
  two (wire any) x y l = refl
  two zero_first x y l = refl
  two (figures base any) x y l = refl
  two (pointed base) x y l = refl
  two (decimals base) x y l = refl
  two (behind_e base) x y l = refl
  two (power base any) x y l = refl
  two (quote escaped s) x y l = refl
  two (quote_closed k) x y l = refl
  two (suffixed k) x y l = refl
  two (single k) x y l = refl

  -- ---- at the end of the text it ends each token
  abbrev Stops : Act Phase → Type 0
  Stops (eats b q) = ⊥
  Stops (halts b k) = Unit {0}

  stops : (q : Phase) → Stops (act u q [])
  unfolding act is_digit is_unit
  stops behind_slash = tt
  stops (line k) = tt
  stops (inside d) = tt
  stops (into d) = tt
  stops closing = tt
  stops closed = tt
  stops space = tt
  stops Phases.name = tt
  stops emoji_name = tt
  stops (spelling bare n) = rw (no_letter 0 n (omega arith)) (on_cond Stops bare tt tt)
  stops behind_at = on_cond Stops (u.start 0) tt tt
  stops behind_dollar = tt
  stops (wire any) = tt
  stops zero_first = tt
  stops (figures base any) = on_cond Stops any tt tt
  stops (pointed base) = tt
  stops (decimals base) = tt
  stops (behind_e base) = tt
  stops (power base any) = tt
  stops (quote escaped s) = tt
  stops (quote_closed k) = tt
  stops (suffixed k) = tt
  stops (single k) = tt

  pub ends : (q p : Phase) (b : Bool) → act u q [] ≡ eats b p → ⊥
  ends q p b h = subst Stops h (stops q)
