-- The token at a place, by its first character, as `search` takes the laws.
-- Assumes nothing.
use Prim.Native.Nat.{ℕ, ◌+◌, ◌-◌, ◌<◌}
use native.Mathlib.Omega.{arith}
use mathlib.Core.Path.{◌≡◌, refl, ap, sym, ◌∙◌}
use mathlib.Core.Bool.{Bool, true, false, cond, false≢true}
use mathlib.Core.List.{List, ◌∷◌}
use lib.ListN.{length, take, drop}
use borrow.Author.Tests.{ne_eqb}
use Rattle.characters.specs.Ranges.{in_table}
use Rattle.characters.specs.Text.{Decoded, left, skip}
use Rattle.characters.specs.Steps.{Place}
use Rattle.characters.proofs.Text.{decoded_point, from_place}
use Rattle.ucd.specs.Properties.{ascii_start, tested_in}
use Rattle.letters.specs.Chars.{whitespace, is_whitespace}
use Rattle.cutters.specs.Kinds.{whitespace_kind, invalid_ident, unknown, marks, mark_in}
use Rattle.cutters.specs.Digits.{is_digit}
use Rattle.lexer.specs.Cut.{Letters, Piece, slash, number, number_suffix, identifier, quoted, quote_kind, word, pound, annotated, hardware, wide_emoji, goes_on, advance, advance_token}
use Rattle.lexer.specs.Unicode.{start_in, more_in, emoji_in, lent}
use Rattle.lexer.proofs.Places.{advanced, none_at_end}
use Rattle.lexer.specs.Steps.{Parted, Numbered, Wired, Stands, Lettered, NumberAt, StringAt, Plainly, Cuts}
use Rattle.lexer.proofs.Dispatch.{Late, digit_early, late_beyond}
use Rattle.cutters.specs.Underscores.{misplaced_of}
use Rattle.lexer.proofs.Found.{Unread, unread, slash_unread, pound_unread, annotated_unread, word_unread, quote_unread, number_found, wire_found}

pub stands : {s : List ℕ} {at code wide next : ℕ} → Decoded s at code wide → at < length s → next ≡ at + wide → Stands s at code next
stands d l u =
    let c = decoded_point d l in
    rw u (record { order = omega (arith, c.some); within = c.within; view = c.view })

pub in_front : {s : List ℕ} {at c next : ℕ} → Stands s at c next → left s at ≡ c ∷ left s next
in_front v = v.view

module _ (u : Letters) (profile : ℕ) {s : List ℕ} {at c next : ℕ} (v : Stands s at c next) where
  cuts : {kind suffixAt found end : ℕ} (a : Piece) → advance u profile c (left s next) ≡ a → kind ≡ a.kind → Place s at suffixAt a.from_suffix → Place s next end a.rest → found ≡ misplaced_of kind (suffixAt - at) (take (end - at) (drop at s)) → Cuts u profile s at kind suffixAt found end
  unfolding advance_token
  cuts a e k m q f =
      let t : advance_token u profile (left s at) ≡ a = rw v.view e in
      let o = v.order in
      record {
        kind_is = rw t k;
        suffix_place = rw t m;
        end_place = rw t (record { after = omega (arith, q.after); within = q.within; there = q.there });
        some = omega (arith, q.after);
        found_is = f;
      }

  own : Place s at at (c ∷ left s next)
  own = record { after = omega arith; within = omega (arith, v.order, v.within); there = v.view }

  -- behind the place, as far as a part goes
  behind : {suffixAt : ℕ} {l : List ℕ} → Place s next suffixAt l → Place s at suffixAt l
  behind p = record { after = omega (arith, v.order, p.after); within = p.within; there = p.there }

  -- no underscore is misplaced in what has no run
  no_run : {k : ℕ} → Unread k → (end : ℕ) → 0 - at ≡ misplaced_of k (at - at) (take (end - at) (drop at s))
  no_run y end =
      let z : 0 - at ≡ 0 = omega arith in
      z ∙ unread y (at - at) (take (end - at) (drop at s))

  part : {f : List ℕ → ℕ × List ℕ} {kind end : ℕ} → advance u profile c (left s next) ≡ record { kind = (f (left s next)).0; from_suffix = c ∷ left s next; rest = (f (left s next)).1 } → Unread (f (left s next)).0 → Parted f s next kind end → Cuts u profile s at kind at (0 - at) end
  part {f} {end = end} e y p = cuts (record { kind = (f (left s next)).0; from_suffix = c ∷ left s next; rest = (f (left s next)).1 }) e p.what own p.place (no_run (rw p.what y) end)

  -- a token of one character, by what is computed of it
  pub cut_key : (m k : ℕ) → c ≡ m → ((t : List ℕ) → advance u profile m t ≡ record { kind = k; from_suffix = m ∷ t; rest = t }) → Unread k → Cuts u profile s at k at (0 - at) next
  cut_key m k e f y =
      cuts (record { kind = k; from_suffix = c ∷ left s next; rest = left s next }) (rw e (f (left s next))) refl own
      (record { after = omega arith; within = v.within; there = refl }) (no_run y next)

-- ---- over lent tables: of ASCII the ranges decide, whatever the tables hold
module _ (start more emoji : List ℕ) (profile : ℕ) {s : List ℕ} {at c next : ℕ} (v : Stands s at c next) where
  pub cut_slash : {kind end : ℕ} → c ≡ 0x2F → Parted slash s next kind end → Cuts (lent start more emoji) profile s at kind at (0 - at) end
  unfolding advance
  cut_slash e p = part (lent start more emoji) profile v (rw e) (slash_unread (left s next)) p

  pub cut_space : {end : ℕ} → is_whitespace c ≡ true → Place s next end (skip is_whitespace (left s next)) → Cuts (lent start more emoji) profile s at whitespace_kind at (0 - at) end
  unfolding advance whitespace in_table
  cut_space {end} h p =
      let n : c ≡ 0x2F → ⊥ = λ e. false≢true (rw e at h) in
      cuts (lent start more emoji) profile v (record { kind = whitespace_kind; from_suffix = c ∷ left s next; rest = skip is_whitespace (left s next) }) (rw (ne_eqb c 0x2F n, h)) refl (own (lent start more emoji) profile v) p (no_run (lent start more emoji) profile v (record { number = refl; wire = refl }) end)

  pub cut_word : {kind end : ℕ} {b : Bool} → Lettered c → b ≡ start_in start c → b ≡ true → Parted (word (more_in more) (emoji_in emoji) profile c) s next kind end → Cuts (lent start more emoji) profile s at kind at (0 - at) end
  unfolding advance ascii_start in_table
  cut_word y o t p =
      let n : c ≡ 0x2F → ⊥ = λ e. false≢true (rw e at (y.low (omega arith))) in
      part (lent start more emoji) profile v (rw (ne_eqb c 0x2F n, y.no_space, sym o ∙ t)) (word_unread (more_in more) (emoji_in emoji) profile c (left s next)) p

  pub cut_number : {kind suffixAt found end : ℕ} → is_digit c ≡ true → NumberAt (start_in start) (more_in more) c s at next kind suffixAt found end → Cuts (lent start more emoji) profile s at kind suffixAt found end
  unfolding advance
  cut_number h p =
      let n = number c (left s next) in
      let y = digit_early start h in
      let q = p.what in
      cuts (lent start more emoji) profile v (record { kind = n.0; from_suffix = n.1; rest = number_suffix (start_in start) (more_in more) n.1 }) (rw (y.no_slash, y.no_space, y.no_name, h)) q.what
      (behind (lent start more emoji) profile v q.place) (from_place q.place p.place (ap (number_suffix (start_in start) (more_in more)) q.place.there)) (number_found v h p)

  pub cut_string : {kind suffixAt found end : ℕ} → c ≡ 0x22 → StringAt (start_in start) (more_in more) s next kind suffixAt found end → Cuts (lent start more emoji) profile s at kind suffixAt found end
  unfolding advance whitespace in_table tested_in ascii_start is_digit marks mark_in
  cut_string {suffixAt = suffixAt} {end = end} e p =
      let q = quoted (left s next) in
      cuts (lent start more emoji) profile v (record { kind = quote_kind q; from_suffix = q.rest; rest = cond q.closed (identifier (start_in start) (more_in more) q.rest) q.rest }) (rw e) p.what
      (behind (lent start more emoji) profile v p.begin)
      (from_place p.begin p.place (ap (λ (l : List ℕ). cond q.closed (identifier (start_in start) (more_in more) l) l) p.begin.there))
      (p.none ∙ unread (rw p.what (quote_unread q)) (suffixAt - at) (take (end - at) (drop at s)))

  pub cut_pound : {kind end : ℕ} → c ≡ 0x23 → Parted pound s next kind end → Cuts (lent start more emoji) profile s at kind at (0 - at) end
  unfolding advance whitespace in_table tested_in ascii_start is_digit
  cut_pound e p = part (lent start more emoji) profile v (rw e) (pound_unread (left s next)) p

  pub cut_annotated : {kind end : ℕ} → c ≡ 0x40 → Parted (annotated (start_in start)) s next kind end → Cuts (lent start more emoji) profile s at kind at (0 - at) end
  unfolding advance whitespace in_table tested_in ascii_start is_digit
  cut_annotated e p = part (lent start more emoji) profile v (rw e) (annotated_unread (start_in start) (left s next)) p

  pub cut_hardware : {kind found end : ℕ} → c ≡ 0x24 → Parted (hardware (more_in more) (emoji_in emoji)) s next kind end → Wired s next kind found end → Cuts (lent start more emoji) profile s at kind at (found - at) end
  unfolding advance whitespace in_table tested_in ascii_start is_digit
  cut_hardware e p w =
      let x = hardware (more_in more) (emoji_in emoji) (left s next) in
      cuts (lent start more emoji) profile v (record { kind = x.0; from_suffix = c ∷ left s next; rest = x.1 }) (rw e) p.what (own (lent start more emoji) profile v) p.place
      (wire_found v e p.place.after p.place.within w)

  -- what none of the tests before takes
  module _ (y : Late start c) where
    pub cut_emoji : {b : Bool} {end : ℕ} → b ≡ wide_emoji (emoji_in emoji) c → b ≡ true → Place s next end (skip (goes_on (more_in more) (emoji_in emoji)) (left s next)) → Cuts (lent start more emoji) profile s at invalid_ident at (0 - at) end
    unfolding advance
    cut_emoji {end = end} f t p =
        cuts (lent start more emoji) profile v (record { kind = invalid_ident; from_suffix = c ∷ left s next; rest = skip (goes_on (more_in more) (emoji_in emoji)) (left s next) })
        (rw (y.early.no_slash, y.early.no_space, y.early.no_name, y.no_digit, y.no_pound, y.no_at, y.no_dollar, y.no_mark, y.no_quote, sym f ∙ t))
        refl (own (lent start more emoji) profile v) p (no_run (lent start more emoji) profile v (record { number = refl; wire = refl }) end)

    pub cut_unknown : {b : Bool} → b ≡ wide_emoji (emoji_in emoji) c → b ≡ false → Cuts (lent start more emoji) profile s at unknown at (0 - at) next
    unfolding advance
    cut_unknown f t =
        cuts (lent start more emoji) profile v (record { kind = unknown; from_suffix = c ∷ left s next; rest = left s next })
        (rw (y.early.no_slash, y.early.no_space, y.early.no_name, y.no_digit, y.no_pound, y.no_at, y.no_dollar, y.no_mark, y.no_quote, sym f ∙ t))
        refl (own (lent start more emoji) profile v) (record { after = omega arith; within = v.within; there = refl }) (no_run (lent start more emoji) profile v (record { number = refl; wire = refl }) next)

-- as it is told plainly
pub told : {u : Letters} {profile : ℕ} {s : List ℕ} {at kind found end kind' suffixAt' found' end' : ℕ} → Plainly at kind found end kind' suffixAt' found' end' → Cuts u profile s at kind at (found - at) end → Cuts u profile s at kind' suffixAt' found' end'
told p q = rw (p.kind_is, p.suffix_is, p.found_is, p.end_is) q

-- ---- a number behind its first digit
pub number_at : (start more : ℕ → Bool) {s : List ℕ} {own at c n kind suffixAt found end : ℕ} → Numbered c s at kind n suffixAt → found ≡ n - own → Place s suffixAt end (number_suffix start more (left s suffixAt)) → NumberAt start more c s own at kind suffixAt found end
number_at start more {own = own} m f p = record { what = m.part; first = λ e. f ∙ m.first own e; place = p }

pub ruleset advancing = (stands, in_front, cut_slash, cut_space, cut_word, cut_pound, cut_annotated, cut_hardware, cut_emoji, cut_unknown, late_beyond, told, advanced, none_at_end)
