-- What words ask for, case by case, as `search` takes it; for which of them that is a known profile; and what is answered for the others.
-- Assumes nothing.
use Prim.Native.Nat.{ℕ}
use native.Mathlib.Omega.{arith}
use mathlib.Core.Path.{◌≡◌, refl, ap, sym, ◌∙◌}
use mathlib.Core.Bool.{true, cond, false≢true}
use mathlib.Core.List.{List, [], ◌∷◌}
use lib.Dec.{eqb}
use lib.ListN.{length, get_or}
use borrow.Author.Tests.{ne_eqb, eqb-true}
use Rattle.lists.specs.All.{all}
use Rattle.lists.proofs.Bools.{by_test}
use Rattle.characters.specs.Direction.{unmarked}
use Rattle.characters.proofs.Text.{chars_nil}
use Rattle.characters.proofs.Valid.{valid_nil}
use Rattle.text.specs.Answer.{done, unknown_selector, default_profile, known_profile, check_profile, check_text, check_marks, check_cut}
use Rattle.text.proofs.Checks.{not_refused}
use Rattle.arguments.specs.Arguments.{no_profile, named, asked, Right, none, zero, one}

-- ---- a word
pub named_long : (w : List ℕ) → (length w ≡ 1 → ⊥) → no_profile ≡ named w
unfolding named
named_long [] n = refl
named_long (c ∷ []) n = absurd (n refl)
named_long (c ∷ d ∷ w) n = refl

-- one of a single byte, by that byte
abbrev by_byte : ℕ → ℕ
by_byte c = cond (eqb c 0x30) 0 (cond (eqb c 0x31) 1 no_profile)

named_byte : (w : List ℕ) → length w ≡ 1 → named w ≡ by_byte (get_or w 0 0)
unfolding named
named_byte [] e = absurd (omega (arith, e))
named_byte (c ∷ []) e = refl
named_byte (c ∷ d ∷ w) e = absurd (omega (arith, e))

module _ (w : List ℕ) (e : length w ≡ 1) where
  pub named_one : {c r : ℕ} → get_or w 0 0 ≡ c → r ≡ by_byte c → r ≡ named w
  named_one h k = k ∙ sym (named_byte w e ∙ ap by_byte h)

  pub named_other : (get_or w 0 0 ≡ 0x30 → ⊥) → (get_or w 0 0 ≡ 0x31 → ⊥) → no_profile ≡ named w
  named_other h k = sym (named_byte w e ∙ rw (ne_eqb (get_or w 0 0) 0x30 h, ne_eqb (get_or w 0 0) 0x31 k))

-- ---- all words
module _ (words : ℕ) (first : List ℕ) {r : ℕ} where
  pub no_word : words ≡ 0 → r ≡ default_profile → r ≡ asked words first
  unfolding asked
  no_word e h = rw e h

  pub one_word : words ≡ 1 → r ≡ named first → r ≡ asked words first
  unfolding asked
  one_word e h = rw e h

  pub more_words : (words ≡ 0 → ⊥) → (words ≡ 1 → ⊥) → r ≡ no_profile → r ≡ asked words first
  unfolding asked
  more_words h k q = rw (ne_eqb words 0 h, ne_eqb words 1 k) q

-- ---- what is answered before there is a text: the check of the empty one says the profile's part, and nothing else
empty_passes : check_text [] ≡ (done, 0)
empty_passes = not_refused [] (record { short = omega arith; good = valid_nil })

empty_plain : unmarked [] ≡ true
unfolding unmarked all
empty_plain = rw chars_nil

check_empty : (p : ℕ) → check_cut [] p ≡ check_profile p
unfolding check_cut check_marks
check_empty p = rw (empty_passes, empty_plain) (by_test (known_profile p) (λ e. rw e) (λ e. rw e))

pub asked_checked : (words : ℕ) (first : List ℕ) {p : ℕ} {r : ℕ × ℕ} → p ≡ asked words first → r ≡ check_cut [] p → r ≡ check_profile (asked words first)
asked_checked words first {p} e h = h ∙ check_empty p ∙ ap check_profile e

-- ---- THE THEOREM: the words that are right ask for 1, the default, for 0 and for 1
pub none_asked : (first : List ℕ) → asked 0 first ≡ 1
unfolding asked
none_asked first = refl

pub zero_asked : asked 1 (0x30 ∷ []) ≡ 0
unfolding asked named
zero_asked = refl

pub one_asked : asked 1 (0x31 ∷ []) ≡ 1
unfolding asked named
one_asked = refl

-- and no others ask for a profile that is known
none_known : known_profile no_profile ≡ true → ⊥
none_known h = false≢true h

word_known : (first : List ℕ) → known_profile (named first) ≡ true → Right 1 first
unfolding named
word_known [] h = absurd (none_known h)
word_known (c ∷ []) h =
    by_test (eqb c 0x30) (λ e. zero refl (ap (λ (x : ℕ). x ∷ []) (eqb-true c 0x30 e)))
    (λ n. by_test (eqb c 0x31) (λ e. one refl (ap (λ (x : ℕ). x ∷ []) (eqb-true c 0x31 e)))
    (λ m. absurd (none_known (rw (n, m) at h))))
word_known (c ∷ d ∷ first) h = absurd (none_known h)

pub asked_known : (words : ℕ) (first : List ℕ) → known_profile (asked words first) ≡ true → Right words first
unfolding asked
asked_known words first h =
    by_test (eqb words 0) (λ e. none (eqb-true words 0 e))
    (λ n. by_test (eqb words 1)
    (λ e. let k : words ≡ 1 = eqb-true words 1 e in rw k (word_known first (rw (n, e) at h)))
    (λ m. absurd (none_known (rw (n, m) at h))))

-- so all others are refused with 1 and 0
pub others_refused : (words : ℕ) (first : List ℕ) → (Right words first → ⊥) → check_profile (asked words first) ≡ (unknown_selector, 0)
others_refused words first n =
    by_test (known_profile (asked words first)) (λ e. absurd (n (asked_known words first e))) (λ e. rw e)

-- and the right ones are not
pub right_known : (words : ℕ) (first : List ℕ) → Right words first → known_profile (asked words first) ≡ true
right_known words first (none e) = rw (e, none_asked first)
right_known words first (zero e f) = rw (e, f, zero_asked)
right_known words first (one e f) = rw (e, f, one_asked)
