-- How the lists of the two profiles are related, and what a pragma is under the default.
-- Assumes nothing.
use Prim.Native.Nat.{ℕ, ◌-◌, ◌≤◌}
use native.Mathlib.Omega.{arith}
use mathlib.Core.Path.{◌≡◌, refl, ap, sym, ◌∙◌}
use mathlib.Core.Bool.{Bool, true, false, ◌||◌, false≢true}
use mathlib.Core.List.{List, [], ◌∷◌, ◌++◌}
use lib.Dec.{eqb}
use lib.ListN.{length, take, drop, length-drop}
use lib.Seq.{drop-drop}
use borrow.Author.Tests.{eq-eqb, ne_eqb, eqb-true, eqb-false}
use Rattle.lists.proofs.Bools.{by_test, and_false, on_cond}
use Rattle.lists.proofs.Cut.{by_length}
use Rattle.characters.specs.Utf8.{first, chars, width}
use Rattle.characters.specs.Text.{byte_length, skip}
use Rattle.characters.proofs.Text.{chars_nil, chars_first, bytes_chars, ends_bytes, skip_more}
use Rattle.characters.proofs.Ascii.{skip_bytes}
use Rattle.characters.specs.Ranges.{in_table}
use Rattle.text.specs.Answer.{default_profile}
use Rattle.ucd.specs.Ucd.{xid_start, xid_continue}
use Rattle.letters.specs.Chars.{is_whitespace, whitespace}
use Rattle.cutters.specs.Kinds.{ident, invalid_ident}
use Rattle.cutters.specs.Records.{Token, total}
use Rattle.cutters.specs.Digits.{peek}
use Rattle.lexer.specs.Cut.{Letters, not_lf, agree, pragma_word, wide_emoji, name, word, advance, next_token, tokens}
use Rattle.lexer.specs.Unicode.{unicode}
use Rattle.lexer.specs.Promises.{tokens3, tokens_of}
use Rattle.lexer.proofs.Shapes.{name_part, tokens_nil}
use Rattle.tokens.specs.Profiles.{bare, bare_in, pragma_line, Parting}
use Rattle.lexer.proofs.Places.{tokens_first, next_some, known3}
use Rattle.tokens.proofs.Agree.{agree_most, agree_all, agree_take, agree_chars}

pragma_agrees : (s : List ℕ) → agree pragma_word (chars s) ≡ agree pragma_word s
pragma_agrees s = agree_chars pragma_word s (omega arith, (omega arith, (omega arith, (omega arith, (omega arith, (omega arith, tt))))))

-- ---- where the word does not stand, the profile does not matter
elsewhere : (u : Letters) (c : ℕ) (t : List ℕ) → eqb (agree pragma_word (c ∷ t)) (length pragma_word) ≡ false → advance u 1 c t ≡ advance u 0 c t
unfolding advance word
elsewhere u c t h = rw h

-- and no bare pragma stands there
not_bare : (s : List ℕ) (t : Token) → eqb (agree pragma_word (chars s)) (length pragma_word) ≡ false → bare s t ≡ false
not_bare s t h =
    let n : agree pragma_word (take t.len s) ≡ 6 → ⊥ =
    λ e. eqb-false (agree pragma_word (chars s)) (length pragma_word) h (omega (arith, agree_take pragma_word t.len s, pragma_agrees s, agree_most pragma_word s)) in
    rw (ne_eqb (agree pragma_word (take t.len s)) (length pragma_word) n) (and_false (eqb t.kind ident || eqb t.kind invalid_ident))

-- ---- where it stands: its first letter begins an identifier, and the others continue it
p_space : is_whitespace 0x70 ≡ false
unfolding whitespace in_table
p_space = refl

p_start : unicode.start 0x70 ≡ true
unfolding unicode xid_start in_table
p_start = refl

letters_more : (unicode.more 0x72 ≡ true) × (unicode.more 0x61 ≡ true) × (unicode.more 0x67 ≡ true) × (unicode.more 0x6D ≡ true)
unfolding unicode xid_continue in_table
letters_more = (refl, refl, refl, refl)

advance_p : (profile : ℕ) (t : List ℕ) → advance unicode profile 0x70 t ≡ record { kind = (word unicode.more unicode.emoji profile 0x70 t).0; from_suffix = 0x70 ∷ t; rest = (word unicode.more unicode.emoji profile 0x70 t).1 }
unfolding advance
advance_p profile t = rw (p_space, p_start)

module _ (r : List ℕ) where
  -- the letters behind the first, and r
  abbrev letters : List ℕ
  letters = 0x72 ∷ 0x61 ∷ 0x67 ∷ 0x6D ∷ 0x61 ∷ r

  name_letters : name unicode.more unicode.emoji letters ≡ name unicode.more unicode.emoji r
  unfolding name
  name_letters =
      let m = letters_more in
      let e : skip unicode.more letters ≡ skip unicode.more r =
      skip_more unicode.more 0x72 _ m.0
      ∙ skip_more unicode.more 0x61 _ m.1
      ∙ skip_more unicode.more 0x67 _ m.2
      ∙ skip_more unicode.more 0x6D _ m.3
      ∙ skip_more unicode.more 0x61 r m.1 in
      rw e

  -- under profile 0 an Ident or InvalidIdent of at least six bytes
  name_kind : (eqb (name unicode.more unicode.emoji r).0 ident || eqb (name unicode.more unicode.emoji r).0 invalid_ident) ≡ true
  unfolding name
  name_kind =
      on_cond (λ (x : ℕ × List ℕ). (eqb x.0 ident || eqb x.0 invalid_ident) ≡ true) (wide_emoji unicode.emoji (peek (skip unicode.more r))) refl refl

  zero_is : (next_token unicode 0 0x70 letters).0 ≡ record { kind = (name unicode.more unicode.emoji r).0; len = byte_length (0x70 ∷ letters) - byte_length (name unicode.more unicode.emoji r).1; suffix = byte_length (0x70 ∷ letters) - byte_length (0x70 ∷ letters) }
  unfolding next_token word
  zero_is = rw (advance_p 0 letters, name_letters)

  zero_long : 6 ≤ byte_length (0x70 ∷ letters) - byte_length (name unicode.more unicode.emoji r).1
  unfolding byte_length width
  zero_long = omega (arith, ends_bytes (name_part unicode r).ends)

  zero_bare : (s : List ℕ) → chars s ≡ 0x70 ∷ letters → bare s (next_token unicode 0 0x70 letters).0 ≡ true
  unfolding agree
  zero_bare s e =
      let n = byte_length (0x70 ∷ letters) - byte_length (name unicode.more unicode.emoji r).1 in
      let six : agree pragma_word s ≡ 6 = sym (pragma_agrees s) ∙ ap (agree pragma_word) e in
      let h : agree pragma_word (take n s) ≡ 6 = omega (arith, agree_take pragma_word n s, zero_long) in
      rw (zero_is, name_kind) (eq-eqb (agree pragma_word (take n s)) (length pragma_word) h)

  -- under profile 1 a Pragma of the line
  one_is : (s : List ℕ) → chars s ≡ 0x70 ∷ letters → (next_token unicode 1 0x70 letters).0 ≡ pragma_line s
  unfolding next_token word agree not_lf
  one_is s e =
      let all : (c : ℕ) → 0x80 ≤ c → not_lf c ≡ true = λ c h. rw (ne_eqb c 0x0A (λ q. omega arith)) in
      let line : byte_length (skip not_lf letters) ≡ length (skip not_lf s) =
      ap byte_length (sym (skip_more not_lf 0x70 letters refl) ∙ ap (skip not_lf) (sym e) ∙ skip_bytes not_lf all s) ∙ bytes_chars (skip not_lf s) in
      let long : byte_length (0x70 ∷ letters) ≡ length s = ap byte_length (sym e) ∙ bytes_chars s in
      let none : byte_length (0x70 ∷ letters) - byte_length (0x70 ∷ letters) ≡ 0 = omega arith in
      rw (advance_p 1 letters, line, none, long)

  -- and then the tokens behind it
  one_line : (s : List ℕ) → chars s ≡ 0x70 ∷ letters → tokens3 1 s ≡ pragma_line s ∷ tokens3 1 (drop (pragma_line s).len s)
  unfolding tokens3
  one_line s e = tokens_first unicode 1 0x70 letters s e ∙ ap (λ (x : Token). x ∷ tokens3 1 (drop x.len s)) (one_is s e)

-- ---- the two lists, from the first token on
record Related (s : List ℕ) : Type 0 where
  same : bare_in s (tokens3 0 s) ≡ false → tokens3 1 s ≡ tokens3 0 s
  parting : bare_in s (tokens3 0 s) ≡ true → Parting s (tokens3 0 s) (tokens3 1 s)

-- one token that is not bare in front of both
later : (s : List ℕ) (t : Token) → bare s t ≡ false → tokens3 0 s ≡ t ∷ tokens3 0 (drop t.len s) → tokens3 1 s ≡ t ∷ tokens3 1 (drop t.len s) → Related (drop t.len s) → Related s
later s t b z o h =
    let rest = drop t.len s in
    let e : bare_in s (tokens3 0 s) ≡ bare_in rest (tokens3 0 rest) = ap (bare_in s) z ∙ rw b in
    record {
      same = λ n. o ∙ ap (λ (l : List Token). t ∷ l) (h.same (sym e ∙ n)) ∙ sym z;
      parting = λ y.
          let p = h.parting (sym e ∙ y) in
          let far : drop (total p.before) rest ≡ drop (total (t ∷ p.before)) s = drop-drop (total p.before) t.len s in
          record {
            before = t ∷ p.before;
            token = p.token;
            after = p.after;
            other = p.other;
            is = z ∙ ap (λ (l : List Token). t ∷ l) p.is;
            none_before = ap (λ (x : Bool). x || bare_in rest p.before) b ∙ p.none_before;
            here = ap (λ (l : List ℕ). bare l p.token) (sym far) ∙ p.here;
            there = o ∙ ap (λ (l : List Token). t ∷ l) p.there ∙ ap (λ (l : List ℕ). t ∷ (p.before ++ pragma_line l ∷ p.other)) far;
          };
    }

-- a bare pragma in front of the one, and a Pragma of the line in front of the other
here_parting : (s : List ℕ) (t : Token) (after other : List Token) → bare s t ≡ true → tokens3 0 s ≡ t ∷ after → tokens3 1 s ≡ pragma_line s ∷ other → Related s
here_parting s t after other b z o =
    record {
      same = λ n. absurd (false≢true (sym n ∙ ap (bare_in s) z ∙ rw b));
      parting = λ y. record { before = []; token = t; after = after; other = other; is = z; none_before = refl; here = b; there = o };
    }

step : (a : ℕ) (s : List ℕ) → ((l : List ℕ) → length l ≤ length s → Related l) → Related (a ∷ s)
unfolding tokens3 next_token
step a s ih =
    let c = (first (a ∷ s)).0 in
    let t = chars (drop (first (a ∷ s)).1 (a ∷ s)) in
    let v : chars (a ∷ s) ≡ c ∷ t = chars_first (a ∷ s) (omega arith) in
    by_test (eqb (agree pragma_word (c ∷ t)) (length pragma_word))
    (λ y.
    let e : c ∷ t ≡ pragma_word ++ drop 6 (c ∷ t) = agree_all pragma_word (c ∷ t) (eqb-true (agree pragma_word (c ∷ t)) (length pragma_word) y) in
    let r = drop 6 (c ∷ t) in
    here_parting (a ∷ s) (next_token unicode 0 0x70 (letters r)).0 _ _ (zero_bare r (a ∷ s) (v ∙ e))
    (tokens_first unicode 0 0x70 (letters r) (a ∷ s) (v ∙ e))
    (one_line r (a ∷ s) (v ∙ e)))
    (λ n.
    let k = (next_token unicode 0 c t).0 in
    let same : (next_token unicode 1 c t).0 ≡ k = rw (elsewhere unicode c t n) in
    let one : tokens3 1 (a ∷ s) ≡ k ∷ tokens3 1 (drop k.len (a ∷ s)) =
    tokens_first unicode 1 c t (a ∷ s) v ∙ ap (λ (x : Token). x ∷ tokens3 1 (drop x.len (a ∷ s))) same in
    later (a ∷ s) k (not_bare (a ∷ s) k (ap (λ (l : List ℕ). eqb (agree pragma_word l) (length pragma_word)) v ∙ n)) (tokens_first unicode 0 c t (a ∷ s) v) one
    (ih (drop k.len (a ∷ s)) (omega (arith, length-drop k.len (a ∷ s), next_some unicode 0 c t))))

no_tokens : (profile : ℕ) → tokens3 profile [] ≡ []
unfolding tokens3
no_tokens profile = ap (tokens unicode profile) chars_nil ∙ tokens_nil unicode profile

related : (s : List ℕ) → Related s
related =
    by_length Related
    (record { same = λ n. no_tokens 1 ∙ sym (no_tokens 0); parting = λ y. absurd (false≢true (sym (ap (bare_in []) (no_tokens 0)) ∙ y)) })
    step

-- ---- THE THEOREM: where no Ident or InvalidIdent of profile 0's list begins with the bytes `pragma`, the two lists are equal
pub same_lists : (s : List ℕ) → bare_in s (tokens3 0 s) ≡ false → tokens3 1 s ≡ tokens3 0 s
same_lists s = (related s).same

-- and else they agree up to the first that does, and there profile 1 has a Pragma to just before the next LF, or to the end
pub parting_lists : (s : List ℕ) → bare_in s (tokens3 0 s) ≡ true → Parting s (tokens3 0 s) (tokens3 1 s)
parting_lists s = (related s).parting

-- ---- THE THEOREM: under the default profile what begins with the bytes `pragma` begins with a Pragma, which runs to just before the next
-- LF or to the end, and behind it come the tokens of what is left
pub default_pragma : (s : List ℕ) → agree pragma_word s ≡ length pragma_word → tokens_of default_profile s ≡ pragma_line s ∷ tokens_of default_profile (drop (pragma_line s).len s)
default_pragma s h =
    let line = one_line (drop 6 (chars s)) s (agree_all pragma_word (chars s) (pragma_agrees s ∙ h)) in
    known3 1 s refl ∙ line ∙ ap (λ (l : List Token). pragma_line s ∷ l) (sym (known3 1 (drop (pragma_line s).len s) refl))
