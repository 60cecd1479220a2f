-- One outcome of an answer; the ways of `check_text` and of the marks behind it, as `search` takes them from what a need knows, and what a text that passes is.
-- Assumes nothing.
use mathlib.Core.Path.{◌≡◌, refl, sym, ap, ◌∙◌}
use mathlib.Core.Bool.{true}
use mathlib.Core.List.{List}
use Prim.Native.Nat.{ℕ, ◌≤◌, ◌<◌}
use native.Mathlib.Omega.{arith}
use lib.Dec.{ltb, eqb}
use lib.ListN.{length}
use borrow.Author.Tests.{lt-ltb, le-ltb, ltb-false, eqb-true, eqb-false, ne_eqb}
use Rattle.lists.proofs.Bools.{by_test}
use Rattle.characters.specs.Utf8.{valid_up_to}
use Rattle.characters.specs.Direction.{unmarked, clean_up_to}
use Rattle.characters.proofs.Valid.{valid_within}
use Rattle.characters.proofs.Direction.{clean_first, unmarked_all, marked_before}
use Rattle.text.specs.declared.Refusal.{Refusal}
use Rattle.text.specs.declared.Refusal.TheVariants.{UnknownSelector, TooLong, NotUtf8, RoomTooSmall, DirectionMark}
use Rattle.text.specs.Refusals.{refused}
use Rattle.text.specs.Answer.{Answered, done, too_long, not_utf8, room_too_small, direction_mark, longest, known_profile, check_text, check_marks, check_cut, ◌and_then◌, unknown_selector, Accepted, CutAccepted}

-- one outcome: two answers of one call are equal
pub answered_unique : {is : ℕ × ℕ} {n a m b : ℕ} → Answered is n a → Answered is m b → (n ≡ m) × (a ≡ b)
answered_unique p q = (p.number_is ∙ sym q.number_is, p.also_is ∙ sym q.also_is)

module _ (s : List ℕ) where
  pub text_long : longest < length s → (too_long, 0) ≡ check_text s
  unfolding check_text
  text_long h = rw (lt-ltb longest (length s) h) refl

  pub text_bad : {good : ℕ} → good ≡ valid_up_to s → length s ≤ longest → good < length s → (not_utf8, good) ≡ check_text s
  unfolding check_text
  text_bad e h k =
      rw (le-ltb longest (length s) h, lt-ltb (valid_up_to s) (length s) (rw e at k)) (ap (λ (n : ℕ). (not_utf8, n)) e)

  pub text_fine : {good : ℕ} → good ≡ valid_up_to s → length s ≤ longest → length s ≤ good → (done, 0) ≡ check_text s
  unfolding check_text
  text_fine e h k =
      rw (le-ltb longest (length s) h, le-ltb (valid_up_to s) (length s) (rw e at k)) refl

pub ruleset ways = (text_long, text_bad, text_fine)

-- a text that is not refused is short enough and well-formed
pub accepted : (s : List ℕ) → (check_text s).0 ≡ done → Accepted s
unfolding check_text
accepted s h =
    by_test (ltb longest (length s)) (λ e. absurd (omega (arith, rw e at h)))
    (λ e. by_test (ltb (valid_up_to s) (length s)) (λ f. absurd (omega (arith, rw (e, f) at h)))
    (λ f. record { short = ltb-false longest (length s) e; good = omega (arith, ltb-false (valid_up_to s) (length s) f, valid_within s) }))

-- and one that is short enough and well-formed is not refused
pub not_refused : (s : List ℕ) → Accepted s → check_text s ≡ (done, 0)
unfolding check_text
not_refused s a = rw (le-ltb longest (length s) a.short, le-ltb (valid_up_to s) (length s) (omega (arith, a.good)))

-- no refusal is told with the number of what passes
pub never_done : (r : Refusal) → (refused r).0 ≡ done → ⊥
never_done UnknownSelector h = omega (arith, h)
never_done TooLong h = omega (arith, h)
never_done (NotUtf8 n) h = omega (arith, h)
never_done (RoomTooSmall n) h = omega (arith, h)
never_done (DirectionMark n) h = omega (arith, h)

-- ---- and without marks: the first fault is found, and then which of the two kinds is given
module _ (s : List ℕ) where
  pub marks_long : longest < length s → check_text s ≡ (check_text s and_then check_marks s)
  unfolding check_text
  marks_long h = rw (lt-ltb longest (length s) h) refl

  pub marks_refused : (r : Refusal) → refused r ≡ check_text s → refused r ≡ (check_text s and_then check_marks s)
  marks_refused r a = rw (sym a, ne_eqb (refused r).0 done (never_done r)) refl

  pub marks_none : {clean : ℕ} → length s ≤ longest → clean ≡ clean_up_to s → length s ≤ clean → (done, 0) ≡ (check_text s and_then check_marks s)
  unfolding check_marks
  marks_none h e l =
      let m = clean_first s in
      let t = not_refused s (record { short = h; good = omega (arith, m, valid_within s) }) in
      by_test (unmarked s)
      (λ u. rw (t, u) refl)
      (λ u. absurd (omega (arith, m, marked_before s u)))

  pub marks_first : {clean : ℕ} → clean ≡ clean_up_to s → clean < length s → (done, 0) ≡ check_text s → (direction_mark, clean) ≡ (check_text s and_then check_marks s)
  unfolding check_marks
  marks_first e l t =
      let m = clean_first s in
      let v = accepted s (ap (λ (x : ℕ × ℕ). x.0) (sym t)) in
      let g : valid_up_to s ≡ length s = v.good in
      by_test (unmarked s)
      (λ u. absurd (omega (arith, m, unmarked_all s u)))
      (λ u. rw (sym t, u) (ap (λ (n : ℕ). (direction_mark, n)) (omega (arith, m, marked_before s u))))

pub ruleset marked = (marks_long, marks_refused, marks_none, marks_first)

-- ---- with the profile first
module _ (s : List ℕ) (p : ℕ) where
  pub cut_unknown : 2 ≤ p → (unknown_selector, 0) ≡ check_cut s p
  unfolding check_cut
  cut_unknown h = rw (le-ltb p 2 h) refl

  pub cut_known : {x : ℕ × ℕ} → p < 2 → x ≡ (check_text s and_then check_marks s) → x ≡ check_cut s p
  unfolding check_cut
  cut_known h a = rw (lt-ltb p 2 h) a

-- what is not refused has a known profile and an accepted text, and no mark
marks_accepted : (s : List ℕ) → (check_text s and_then check_marks s).0 ≡ done → Accepted s × (unmarked s ≡ true)
unfolding check_marks
marks_accepted s h =
    by_test (eqb (check_text s).0 done)
    (λ e.
    let a = accepted s (eqb-true (check_text s).0 done e) in
    by_test (unmarked s) (λ u. (a, u)) (λ u. absurd (omega (arith, rw (e, u) at h))))
    (λ e. absurd (eqb-false (check_text s).0 done e (rw e at h)))

pub cut_accepted : (s : List ℕ) (p : ℕ) → (check_cut s p).0 ≡ done → CutAccepted s p
unfolding check_cut
cut_accepted s p h =
    by_test (known_profile p)
    (λ e. let a = marks_accepted s (rw e at h) in record { known = e; text = a.0; clean = a.1 })
    (λ e. absurd (omega (arith, rw e at h)))

-- as an answer tells it
pub cut_passed : (s : List ℕ) (p : ℕ) {n a : ℕ} → Answered (check_cut s p) n a → n ≡ done → CutAccepted s p
cut_passed s p c z = cut_accepted s p (sym c.number_is ∙ z)

pub cut_short : (s : List ℕ) (p : ℕ) {n a : ℕ} → Answered (check_cut s p) n a → n ≡ done → length s ≤ longest
cut_short s p c z = (cut_passed s p c z).text.short

-- and such a text is not refused
pub cut_passes : (s : List ℕ) (p : ℕ) → CutAccepted s p → check_cut s p ≡ (done, 0)
unfolding check_cut check_marks
cut_passes s p a = rw (a.known, not_refused s a.text, a.clean)

-- none of these refusals is that of the room
pub never_room : (s : List ℕ) (p : ℕ) → (check_cut s p).0 ≡ room_too_small → ⊥
unfolding check_cut check_text check_marks
never_room s p h =
    by_test (known_profile p)
    (λ a. by_test (ltb longest (length s))
    (λ b. omega (arith, rw (a, b) at h))
    (λ b. by_test (ltb (valid_up_to s) (length s))
    (λ d. omega (arith, rw (a, b, d) at h))
    (λ d. by_test (unmarked s) (λ e. omega (arith, rw (a, b, d, e) at h)) (λ e. omega (arith, rw (a, b, d, e) at h)))))
    (λ a. omega (arith, rw a at h))
