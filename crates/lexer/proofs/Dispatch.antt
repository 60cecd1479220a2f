-- The dispatch on a token's first character: what its single marks and its ranges say of the character, whatever the tables of the letters hold.
-- Assumes nothing.
use Prim.Native.Nat.{ℕ, ◌≤◌, ◌<◌}
use native.Mathlib.Decide.{dec_lt}
use native.Mathlib.Omega.{arith}
use mathlib.Core.Path.{◌≡◌, refl, ap, sym, ◌∙◌}
use mathlib.Core.Bool.{Bool, true, false, not, ◌||◌, false≢true}
use mathlib.Core.List.{List, [], ◌∷◌}
use lib.Dec.{T, eqb, leb, ltb}
use borrow.Author.Tests.{ne_eqb, eqb-true, lt-ltb, lt-leb, ltb-true, leb-true, not-false}
use Rattle.lists.specs.All.{all}
use Rattle.lists.proofs.Bools.{both, and_false}
use Rattle.characters.specs.Ranges.{Range, ◌to◌, in_table}
use Rattle.characters.proofs.Rows.{every, each}
use Rattle.ucd.specs.Properties.{ascii_start, tested_in}
use Rattle.ucd.proofs.Member.{Outside, here, later, outside}
use Rattle.letters.specs.Chars.{whitespace, is_whitespace}
use Rattle.cutters.specs.Kinds.{marks, mark_in}
use Rattle.cutters.specs.Digits.{is_digit}
use Rattle.lexer.specs.Cut.{wide_emoji}
use Rattle.lexer.specs.Unicode.{start_in, emoji_in}
use Rattle.lexer.specs.Steps.{Lettered}

-- ---- what is no slash and no white space and begins no identifier; and what is none of all that is asked before an emoji
pub record Early (start : List ℕ) (c : ℕ) : Type 0 where
  pub no_slash : eqb c 0x2F ≡ false
  pub no_space : is_whitespace c ≡ false
  pub no_name : start_in start c ≡ false

pub record Late (start : List ℕ) (c : ℕ) : Type 0 where
  pub early : Early start c
  pub no_digit : is_digit c ≡ false
  pub no_pound : eqb c 0x23 ≡ false
  pub no_at : eqb c 0x40 ≡ false
  pub no_dollar : eqb c 0x24 ≡ false
  pub no_mark : mark_in marks c ≡ 0
  pub no_quote : eqb c 0x22 ≡ false

abbrev ascii_letter : ℕ → Bool
ascii_letter c = eqb c 0x5F || in_table c ascii_start

-- of ASCII no table decides
no_start : (start : List ℕ) (c : ℕ) → c < 0x80 → ascii_letter c ≡ false → start_in start c ≡ false
unfolding tested_in
no_start start c l n = rw (lt-ltb c 0x80 l) n

pub digit_early : (start : List ℕ) {c : ℕ} → is_digit c ≡ true → Early start c
unfolding is_digit whitespace ascii_start
digit_early start {c} h =
    let b = both (leb 0x30 c) (leb c 0x39) h in
    let lo : 0x30 ≤ c = leb-true 0x30 c b.0 in
    let hi : c ≤ 0x39 = leb-true c 0x39 b.1 in
    let slash : c ≡ 0x2F → ⊥ = λ e. omega arith in
    let score : c ≡ 0x5F → ⊥ = λ e. omega arith in
    record {
      no_slash = ne_eqb c 0x2F slash;
      no_space = sym (outside c whitespace (omega arith));
      no_name = no_start start c (omega arith) (rw (ne_eqb c 0x5F score) (sym (outside c ascii_start (omega arith))));
    }

-- ---- beyond ASCII: no mark, and what begins no identifier is late
no_mark_beyond : (ms : List (ℕ × ℕ)) (c : ℕ) → all (λ m. ltb m.0 0x80) ms ≡ true → 0x80 ≤ c → mark_in ms c ≡ 0
unfolding mark_in all
no_mark_beyond [] c h l = refl
no_mark_beyond (m ∷ ms) c h l =
    let b = both (ltb m.0 0x80) (all (λ m. ltb m.0 0x80) ms) h in
    let low : m.0 < 0x80 = ltb-true m.0 0x80 b.0 in
    let n : c ≡ m.0 → ⊥ = λ e. omega arith in
    rw (ne_eqb c m.0 n) (no_mark_beyond ms c b.1 l)

marks_low : all (λ m. ltb m.0 0x80) marks ≡ true
unfolding marks all
marks_low = refl

beyond : {m c : ℕ} → m < 0x80 → 0x80 ≤ c → eqb c m ≡ false
beyond {m} {c} h l =
    let n : c ≡ m → ⊥ = λ e. omega arith in
    ne_eqb c m n

pub late_beyond : {start : List ℕ} {c : ℕ} {b : Bool} → Lettered c → b ≡ start_in start c → b ≡ false → Late start c
unfolding tested_in is_digit
late_beyond {start} {c} y o t =
    let n : start_in start c ≡ false = sym o ∙ t in
    elim (dec_lt c 0x80) [
      | yes l ↦ absurd (false≢true (sym (rw (lt-ltb c 0x80 l) at n) ∙ y.low l))
      | no k ↦
          let h : 0x80 ≤ c = omega arith in
          record {
            early = record { no_slash = beyond (omega arith) h; no_space = y.no_space; no_name = n };
            no_digit = rw (lt-leb c 0x39 (omega arith)) (and_false (leb 0x30 c));
            no_pound = beyond (omega arith) h;
            no_at = beyond (omega arith) h;
            no_dollar = beyond (omega arith) h;
            no_mark = no_mark_beyond marks c marks_low h;
            no_quote = beyond (omega arith) h;
          }
    ]

-- ---- the single characters that the dispatch names, the last first, as a match has them of what is none of them
abbrev pub keys : List ℕ
keys =
    0x25 ∷ 0x5E ∷ 0x2A ∷ 0x2B ∷ 0x7C ∷ 0x26 ∷ 0x2D ∷ 0x3E ∷ 0x3C ∷ 0x21 ∷ 0x3D ∷ 0x3A ∷ 0x3F ∷ 0x7E ∷ 0x5D ∷ 0x5B ∷ 0x7D ∷ 0x7B ∷ 0x29 ∷ 0x28 ∷ 0x2E ∷ 0x2C ∷ 0x3B ∷ 0x24 ∷ 0x40 ∷ 0x23 ∷ 0x22 ∷ 0x5F ∷ 0x85 ∷ 0x20 ∷ 0x2F ∷ []

abbrev pub None : List ℕ → ℕ → Type 0
None [] c = Unit {0}
None (k ∷ ks) c = None ks c × (c ≡ k → ⊥)

abbrev pub has : List ℕ → ℕ → Bool
has [] c = false
has (k ∷ ks) c = eqb c k || has ks c

no_key : (ks : List ℕ) (c : ℕ) → None ks c → has ks c ≡ false
no_key [] c n = refl
no_key (k ∷ ks) c n = rw (ne_eqb c k n.1) (no_key ks c n.0)

pub not_key : {c : ℕ} (m : ℕ) → None keys c → has keys m ≡ true → c ≡ m → ⊥
not_key {c} m n h e = false≢true (sym (no_key keys c n) ∙ ap (has keys) e ∙ h)

-- ---- below 0x80, by a test that antt computes at each number: what fails of all that is no key and not in a table fails of c
fail_of : (b : Bool) → T (not b) → b ≡ false
fail_of true t = absurd t
fail_of false t = refl

module _ (c : ℕ) (n : None keys c) (l : c < 0x80) (taken : List Range) (o : Outside c taken) where
  fails : (p : ℕ → Bool) → T (every (λ k. has keys k || (in_table k taken || not (p k))) 0x80) → p c ≡ false
  fails p t =
      let e : T (has keys c || (in_table c taken || not (p c))) = each (λ k. has keys k || (in_table k taken || not (p k))) 0x80 t c l in
      fail_of (p c) (rw (no_key keys c n, ← outside c taken o) at e)

-- ---- white space beyond ASCII that is no key; and the ranges of ASCII that the dispatch names, with the keys between them, where c lies in none
abbrev beyond_space : List Range
beyond_space = 0x200E to 0x200F ∷ 0x2028 to 0x2029 ∷ []

abbrev ranges : List Range
ranges = 0x09 to 0x0D ∷ 0x28 to 0x5A ∷ 0x61 to 0x7A ∷ []

pub record Free (c : ℕ) : Type 0 where
  pub ascii : c < 0x80
  pub outside : Outside c ranges

module _ {c : ℕ} where
  pub free_first : c < 0x09 → Free c
  free_first a = record { ascii = omega arith; outside = omega arith }

  pub free_second : 0x0E ≤ c → c < 0x28 → Free c
  free_second a b = record { ascii = omega arith; outside = omega arith }

  pub free_third : 0x5B ≤ c → c < 0x61 → Free c
  free_third a b = record { ascii = omega arith; outside = omega arith }

  pub free_last : 0x7B ≤ c → c < 0x80 → Free c
  free_last a b = record { ascii = b; outside = omega arith }

  -- beyond ASCII
  below : 0x80 ≤ c → c < 0x80 → ⊥
  below a b = omega arith

  over : {m : ℕ} → 0x80 ≤ m → m ≤ c → 0x80 ≤ c
  over a b = omega arith

  low_of : c < 0x200E → Outside c beyond_space
  low_of a = omega arith

  middle_of : 0x2010 ≤ c → c < 0x2028 → Outside c beyond_space
  middle_of a b = omega arith

  high_of : 0x202A ≤ c → Outside c beyond_space
  high_of a = omega arith

  beyond_spaces : 0x80 ≤ c → (c ≡ 0x85 → ⊥) → Outside c beyond_space → Outside c whitespace
  unfolding whitespace
  beyond_spaces h n o = (λ a. omega arith, (λ a. omega arith, (λ a. omega arith, o)))

module _ (c : ℕ) (n : None keys c) where
  -- the ranges between the keys: capital letters, small ones, digits
  pub upper : 0x3A ≤ c → c < 0x5B → Lettered c
  unfolding in_table whitespace ascii_start
  upper a b =
      let f = fails c n (omega arith) (0x00 to 0x39 ∷ 0x5B to 0x7F ∷ []) (omega arith) in
      record { no_space = f is_whitespace tt; low = λ l. not-false (ascii_letter c) (f (λ k. not (ascii_letter k)) tt) }

  pub lower : 0x61 ≤ c → c < 0x7B → Lettered c
  unfolding in_table whitespace ascii_start
  lower a b =
      let f = fails c n (omega arith) (0x00 to 0x60 ∷ 0x7B to 0x7F ∷ []) (omega arith) in
      record { no_space = f is_whitespace tt; low = λ l. not-false (ascii_letter c) (f (λ k. not (ascii_letter k)) tt) }

  pub digit : 0x28 ≤ c → c < 0x3A → is_digit c ≡ true
  unfolding in_table is_digit
  digit a b =
      not-false (is_digit c) (fails c n (omega arith) (0x00 to 0x27 ∷ 0x3A to 0x7F ∷ []) (omega arith) (λ k. not (is_digit k)) tt)

  -- all else of ASCII
  pub late_ascii : (start : List ℕ) → Free c → Late start c
  unfolding in_table whitespace ascii_start is_digit marks mark_in
  late_ascii start r =
      let f = fails c n r.ascii ranges r.outside in
      record {
        early = record { no_slash = f (λ k. eqb k 0x2F) tt; no_space = f is_whitespace tt; no_name = no_start start c r.ascii (f ascii_letter tt) };
        no_digit = f is_digit tt;
        no_pound = f (λ k. eqb k 0x23) tt;
        no_at = f (λ k. eqb k 0x40) tt;
        no_dollar = f (λ k. eqb k 0x24) tt;
        no_mark = eqb-true (mark_in marks c) 0 (not-false (eqb (mark_in marks c) 0) (f (λ k. not (eqb (mark_in marks k) 0)) tt));
        no_quote = f (λ k. eqb k 0x22) tt;
      }

  -- beyond ASCII, all but white space
  wide : 0x80 ≤ c → Outside c beyond_space → Lettered c
  unfolding whitespace
  wide h o =
      record { no_space = sym (outside c whitespace (beyond_spaces h (not_key 0x85 n refl) o)); low = λ l. absurd (below h l) }

  pub wide_low : 0x80 ≤ c → c < 0x200E → Lettered c
  wide_low a b = wide a (low_of b)

  pub wide_middle : 0x2010 ≤ c → c < 0x2028 → Lettered c
  wide_middle a b = wide (over (omega arith) a) (middle_of a b)

  pub wide_high : 0x202A ≤ c → Lettered c
  wide_high a = wide (over (omega arith) a) (high_of a)

pub underscore : {c : ℕ} → c ≡ 0x5F → Lettered c
unfolding whitespace in_table
underscore e = record { no_space = rw e; low = λ l. rw e }

pub no_emoji : (emoji : List ℕ) {c : ℕ} → Free c → false ≡ wide_emoji (emoji_in emoji) c
no_emoji emoji {c} r = rw (lt-leb 0x80 c r.ascii)

-- ---- white space
module _ {c : ℕ} where
  pub space : c ≡ 0x20 → is_whitespace c ≡ true
  unfolding whitespace in_table
  space e = rw e

  pub next_line : c ≡ 0x85 → is_whitespace c ≡ true
  unfolding whitespace in_table
  next_line e = rw e

  pub controls : 0x09 ≤ c → c < 0x0E → is_whitespace c ≡ true
  unfolding whitespace
  controls a b = sym (here c _ a (omega arith))

  pub directions : 0x200E ≤ c → c < 0x2010 → is_whitespace c ≡ true
  unfolding whitespace
  directions a b = sym (later c _ _ (later c _ _ (later c _ _ (here c _ a (omega arith)))))

  pub separators : 0x2028 ≤ c → c < 0x202A → is_whitespace c ≡ true
  unfolding whitespace
  separators a b = sym (later c _ _ (later c _ _ (later c _ _ (later c _ _ (here c _ a (omega arith))))))
