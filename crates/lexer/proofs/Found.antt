-- The first misplaced underscore of a token, by its kind, its suffix start and its own bytes.
-- Assumes nothing.
use Prim.Native.Nat.{ℕ, suc, ◌+◌, ◌-◌, ◌≤◌, ◌<◌}
use native.Mathlib.Decide.{dec_lt}
use native.Mathlib.Omega.{arith}
use mathlib.Core.Path.{◌≡◌, refl, ap, sym, ◌∙◌}
use mathlib.Core.Bool.{Bool, true, false, not, cond, ◌&&◌}
use mathlib.Core.List.{List, [], ◌∷◌, tail}
use lib.ListN.{length, take, drop, get_or, length-take, length-drop}
use lib.Seq.{take-take}
use lib.Dec.{eqb, leb}
use borrow.Author.Tests.{ne_eqb, eqb-true, leb-true}
use Rattle.lists.proofs.Bools.{by_test, on_cond, both, and_true}
use Rattle.lists.specs.All.{all}
use Rattle.characters.specs.Ranges.{in_table}
use Rattle.characters.specs.Utf8.{chars}
use Rattle.characters.specs.Text.{left, skip}
use Rattle.characters.proofs.Ascii.{chars_ascii}
use Rattle.ucd.specs.Properties.{is_emoji}
use Rattle.letters.specs.Chars.{whitespace, is_id_continue}
use Rattle.cutters.specs.Kinds.{hardware_ident, dollar, is_wire, is_number, bit_str}
use Rattle.cutters.specs.Digits.{peek, is_digit}
use Rattle.cutters.specs.Underscores.{misplaced_in, hex_first, misplaced_of}
use Rattle.cutters.proofs.Underscores.{found_no, byte_own, in_other}
use Rattle.lexer.specs.Cut.{Quote, advance, next_token, slash, block, pound, agree, pragma_word, name, word, wide_emoji, annotated, quote_kind, is_bit, without_lf, twice}
use Rattle.lexer.specs.Unicode.{unicode}
use Rattle.lexer.specs.Promises.{tokens_by, front}
use Rattle.lexer.specs.Steps.{Stands, Wired, NumberAt, hex_behind}
use Rattle.lexer.proofs.Underscores.{peek_byte, passed}
use Rattle.lexer.proofs.Numerals.{number_kind, own_decimal}
use Rattle.lexer.proofs.Shapes.{tokens_cons}

-- ---- what has no run of digits
pub record Unread (k : ℕ) : Type 0 where
  pub number : is_number k ≡ false
  pub wire : is_wire k ≡ false

pub unread : {k : ℕ} → Unread k → (suffix : ℕ) (b : List ℕ) → 0 ≡ misplaced_of k suffix b
unread {k} u suffix b = sym (found_no k suffix b u.number u.wire)

abbrev Plain : ℕ × List ℕ → Type 0
Plain x = Unread x.0

pub slash_unread : (t : List ℕ) → Unread (slash t).0
unfolding slash
slash_unread t =
    on_cond Plain (eqb (peek t) 0x2F) (record { number = refl; wire = refl })
    (on_cond Plain (eqb (peek t) 0x2A)
    (on_cond Unread (block 1 (tail t)).0 (record { number = refl; wire = refl }) (record { number = refl; wire = refl }))
    (record { number = refl; wire = refl }))

pub pound_unread : (t : List ℕ) → Unread (pound t).0
unfolding pound
pound_unread t = on_cond Plain (eqb (agree pragma_word t) 6) (record { number = refl; wire = refl }) (record { number = refl; wire = refl })

pub annotated_unread : (start : ℕ → Bool) (t : List ℕ) → Unread (annotated start t).0
unfolding annotated
annotated_unread start t = on_cond Plain (start (peek t)) (record { number = refl; wire = refl }) (record { number = refl; wire = refl })

pub word_unread : (more emoji : ℕ → Bool) (profile c : ℕ) (t : List ℕ) → Unread (word more emoji profile c t).0
unfolding word name
word_unread more emoji profile c t =
    on_cond Plain (eqb profile 1 && eqb (agree pragma_word (c ∷ t)) 6) (record { number = refl; wire = refl })
    (on_cond Plain (wide_emoji emoji (peek (skip more t))) (record { number = refl; wire = refl }) (record { number = refl; wire = refl }))

pub quote_unread : (q : Quote) → Unread (quote_kind q)
unfolding quote_kind
quote_unread q =
    on_cond Unread (all is_bit (cond q.closed q.body (without_lf q.body)))
    (bits q.closed (twice q.body))
    (on_cond (λ (k : ℕ). Unread (56 + k)) q.closed (record { number = refl; wire = refl }) (record { number = refl; wire = refl }))
  where
    bits : (a b : Bool) → Unread (bit_str a b)
    bits true true = record { number = refl; wire = refl }
    bits true false = record { number = refl; wire = refl }
    bits false true = record { number = refl; wire = refl }
    bits false false = record { number = refl; wire = refl }

-- ---- the first character, of ASCII, and the place behind it
module _ {s : List ℕ} {at c next : ℕ} (v : Stands s at c next) where
  pub one_byte : 1 ≤ c → c < 0x80 → (next ≡ at + 1) × (get_or s at 0 ≡ c)
  one_byte l h = passed (sym (ap peek v.view)) l h (record { after = omega (arith, v.order); within = v.within; there = sym (ap tail v.view) })

  -- the bytes with the runs of a token, which begin with its first character
  module _ (l : 1 ≤ c) (h : c < 0x80) (n : c ≡ 0x5F → ⊥) (m : c ≡ 0x2E → ⊥) (end : ℕ) (a : next ≤ end) (b : end ≤ length s) where
    abbrev r : List ℕ
    r = take (end - at) (drop at s)

    first_byte : get_or r 0 0 ≡ c
    first_byte =
        let z : at + 0 ≡ at = omega arith in
        byte_own s at (end - at) 0 (omega (arith, v.order)) ∙ ap (λ (k : ℕ). get_or s k 0) z ∙ (one_byte l h).1

    long : length r ≡ suc (end - next)
    long = omega (arith, length-take (end - at) (drop at s), length-drop at s, (one_byte l h).0)

    behind_first : misplaced_in (hex_first r) r 0 (length r) ≡ misplaced_in (hex_first r) r 1 (end - next)
    behind_first =
        let g : (hex_first r && not (eqb (get_or r 0 0) 0x2E)) ≡ hex_first r =
        ap (λ (x : ℕ). hex_first r && not (eqb x 0x2E)) first_byte ∙ ap (λ (x : Bool). hex_first r && not x) (ne_eqb c 0x2E m) ∙ and_true (hex_first r) in
        ap (misplaced_in (hex_first r) r 0) long ∙ in_other (hex_first r) r 0 (end - next) (λ k. n (sym first_byte ∙ k)) ∙ ap (λ (x : Bool). misplaced_in x r 1 (end - next)) g

    -- which digits they are
    same_digits : misplaced_in (hex_first r) r 1 (end - next) ≡ misplaced_in (hex_behind c (left s next)) r 1 (end - next)
    unfolding misplaced_in
    same_digits =
        elim (dec_lt next end) [
          | yes k ↦
              let q = (one_byte l h).0 in
              let e : at + 1 ≡ next = sym q in
              let f : get_or r 1 0 ≡ get_or s next 0 = byte_own s at (end - at) 1 (omega (arith, q)) ∙ ap (λ (j : ℕ). get_or s j 0) e in
              rw (first_byte, f, peek_byte s next 0x78 (omega arith))
          | no k ↦ let z : end - next ≡ 0 = omega arith in rw z
        ]

    pub from_second : misplaced_in (hex_first r) r 0 (length r) ≡ misplaced_in (hex_behind c (left s next)) r 1 (end - next)
    from_second = behind_first ∙ same_digits

-- ---- a number
digit_low : {c : ℕ} → is_digit c ≡ true → (0x30 ≤ c) × (c ≤ 0x39)
unfolding is_digit
digit_low {c} h = let b = both (leb 0x30 c) (leb c 0x39) h in (leb-true 0x30 c b.0, leb-true c 0x39 b.1)

pub number_found : {start more : ℕ → Bool} {s : List ℕ} {at c next kind suffixAt found end : ℕ} → Stands s at c next → is_digit c ≡ true → NumberAt start more c s at next kind suffixAt found end → found ≡ misplaced_of kind (suffixAt - at) (take (end - at) (drop at s))
unfolding misplaced_of
number_found {s = s} {at} {c} {next} {kind} {suffixAt} {found} {end} v d p =
    let w = digit_low d in
    let lo : 1 ≤ c = omega (arith, w.0) in
    let hi : c < 0x80 = omega (arith, w.1) in
    let n : c ≡ 0x5F → ⊥ = λ e. omega (arith, w.1) in
    let m : c ≡ 0x2E → ⊥ = λ e. omega (arith, w.0) in
    let a = p.what.place.after in
    let b = p.what.place.within in
    let k : is_number kind ≡ true = ap is_number p.what.what ∙ number_kind c (left s next) in
    let t : take (suffixAt - at) (take (end - at) (drop at s)) ≡ take (suffixAt - at) (drop at s) = take-take (suffixAt - at) (end - at) (drop at s) (omega (arith, p.place.after)) in
    let g = from_second v lo hi n m suffixAt a b in
    p.first (omega (arith, (one_byte v lo hi).0)) ∙ rw (k, t) (sym g)

-- ---- a hardware identifier, or what else begins with $
wire_number : (k : ℕ) → is_wire k ≡ true → is_number k ≡ false
wire_number k t = by_test (eqb k hardware_ident) (λ e. rw (eqb-true k hardware_ident e)) (λ e. rw (eqb-true k dollar (rw e at t)))

pub wire_found : {s : List ℕ} {at c next kind found end : ℕ} → Stands s at c next → c ≡ 0x24 → next ≤ end → end ≤ length s → Wired s next kind found end → found - at ≡ misplaced_of kind (at - at) (take (end - at) (drop at s))
unfolding misplaced_of
wire_found {s} {at} {c} {next} {kind} {found} {end} v e a b w =
    by_test (is_wire kind)
    (λ t.
    let lo : 1 ≤ c = omega arith in
    let hi : c < 0x80 = omega arith in
    let n : c ≡ 0x5F → ⊥ = λ z. omega arith in
    let m : c ≡ 0x2E → ⊥ = λ z. omega arith in
    let g : hex_behind c (left s next) ≡ false = rw e in
    let q = from_second v lo hi n m end a b ∙ ap (λ (x : Bool). misplaced_in x (take (end - at) (drop at s)) 1 (end - next)) g in
    own_decimal (w.run t).0 (w.run t).1 at (omega (arith, (one_byte v lo hi).0)) ∙ rw (wire_number kind t, t) (sym q))
    (λ t.
    let f = w.none t in
    let z : found - at ≡ 0 = omega (arith, f.1) in
    z ∙ sym (found_no kind (at - at) (take (end - at) (drop at s)) f.0 t))

-- ---- what begins with an underscore is a name, and has no run
underscore_unread : (profile : ℕ) (t : List ℕ) → Unread (advance unicode profile 0x5F t).kind
unfolding advance unicode whitespace in_table
underscore_unread profile t = word_unread is_id_continue is_emoji profile 0x5F t

pub front_unread : (profile : ℕ) (s : List ℕ) → get_or s 0 0 ≡ 0x5F → Unread (front (tokens_by unicode profile s)).kind
unfolding front next_token
front_unread profile [] e = absurd (omega (arith, e))
front_unread profile (c ∷ s) e =
    let v : chars (c ∷ s) ≡ 0x5F ∷ chars s = chars_ascii c s (omega (arith, e)) ∙ ap (λ (x : ℕ). x ∷ chars s) e in
    rw (v, tokens_cons unicode profile 0x5F (chars s)) (underscore_unread profile (chars s))
