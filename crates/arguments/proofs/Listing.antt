-- The ways of `list_asked`, as `search` takes them from what a need knows, and its one outcome; for which words `oqlist` refuses, and for which it
-- answers as `tokenize`.
-- Assumes nothing.
use Prim.Native.Nat.{ℕ, ◌≤◌, ◌<◌}
use native.Mathlib.Omega.{arith}
use mathlib.Core.Path.{◌≡◌, refl, ap, sym, ◌∙◌}
use mathlib.Core.Bool.{true, false}
use mathlib.Core.List.{List}
use lib.Dec.{eqb}
use lib.ListN.{length}
use borrow.Author.Tests.{lt-ltb, le-ltb, ne_eqb}
use Rattle.lists.proofs.Bools.{by_test}
use Rattle.characters.specs.Direction.{unmarked_up_to}
use Rattle.text.specs.Answer.{done, unknown_selector, too_long, direction_mark, known_profile, check_profile, CutMarked}
use Rattle.text.specs.declared.Refusal.{Refusal}
use Rattle.text.specs.Refusals.{refused}
use Rattle.text.proofs.Checks.{answered_unique, never_done}
use Rattle.text.proofs.Marks.{marked_refused}
use Rattle.listing.specs.Promises.{Listed, answer_of, listed}
use Rattle.arguments.specs.Arguments.{most, asked, Right, asked_answer, asked_list, ListedAsked}
use Rattle.arguments.proofs.Asked.{others_refused, right_known}

-- `tokenize` leaves the list where it refuses
unlisted : (s : List ℕ) (p : ℕ) (list : List ℕ) → eqb (answer_of s p (length list)).0 done ≡ false → listed s p list ≡ list
unfolding listed
unlisted s p list e = rw e

module _ (words : ℕ) (first s list : List ℕ) where
  -- ---- a refusal, and the list as it was
  refused_by_lem : (is : ℕ × ℕ) → asked_answer words first s (length list) ≡ is → (is.0 ≡ done → ⊥) → {n a : ℕ} → n ≡ is.0 → a ≡ is.1 → ListedAsked words first s list n a list
  unfolding asked_list
  refused_by_lem is e h p q = record { answer = rw e (record { number_is = p; also_is = q }); after = rw (e, ne_eqb is.0 done h) }

  pub asked_refused : (r : Refusal) → refused r ≡ check_profile (asked words first) → ListedAsked words first s list (refused r).0 (refused r).1 list
  unfolding asked_answer
  asked_refused r c =
      by_test (known_profile (asked words first)) (λ e. absurd (never_done r (ap (λ (x : ℕ × ℕ). x.0) c ∙ rw e)))
      (λ e. refused_by_lem (refused r) (rw e (sym (c ∙ rw e))) (never_done r) refl refl)

  -- ---- under a known profile, and up to the limit, as `tokenize`
  module _ (k : known_profile (asked words first) ≡ true) (l : length s ≤ most) where
    known_answer : asked_answer words first s (length list) ≡ answer_of s (asked words first) (length list)
    unfolding asked_answer
    known_answer = rw (k, le-ltb most (length s) l)

    known_list : asked_list words first s list ≡ listed s (asked words first) list
    unfolding asked_list
    known_list =
        by_test (eqb (answer_of s (asked words first) (length list)).0 done) (λ y. rw (known_answer, y))
        (λ n. rw (known_answer, n) (sym (unlisted s (asked words first) list n)))

  module _ (c : (done, 0) ≡ check_profile (asked words first)) where
    known : known_profile (asked words first) ≡ true
    known = by_test (known_profile (asked words first)) (λ e. e) (λ e. let k : done ≡ (check_profile (asked words first)).0 = ap (λ (x : ℕ × ℕ). x.0) c in absurd (omega (arith, rw e at k)))

    pub asked_long : most < length s → ListedAsked words first s list too_long 0 list
    unfolding asked_answer
    asked_long l = refused_by_lem (too_long, 0) (rw (known, lt-ltb most (length s) l)) (λ z. omega (arith, z)) refl refl

    pub asked_listed : {p n a : ℕ} {list' : List ℕ} → length s ≤ most → p ≡ asked words first → Listed s p list n a list' → ListedAsked words first s list n a list'
    asked_listed l e h =
        let t : Listed s (asked words first) list _ _ _ = rw e at h in
        record { answer = rw (known_answer known l) t.answer; after = t.words ∙ sym (known_list known l) }

-- ---- one outcome: two calls with the same words, text and list answer the same and leave the same
pub listed_asked_unique : {words : ℕ} {first s list : List ℕ} {n a m b : ℕ} {l k : List ℕ} → ListedAsked words first s list n a l → ListedAsked words first s list m b k → (n ≡ m) × (a ≡ b) × (l ≡ k)
listed_asked_unique p q =
    let u = answered_unique p.answer q.answer in (u.0, u.1, p.after ∙ sym q.after)

-- ---- THE THEOREM: for words that are not right `oqlist` answers 1 with 0, whatever the text and the room
pub others_answer : (words : ℕ) (first s : List ℕ) (room : ℕ) → (Right words first → ⊥) → asked_answer words first s room ≡ (unknown_selector, 0)
unfolding asked_answer
others_answer words first s room n = rw (others_refused words first n)

-- and for those that are, up to its limit, it answers and lists as `tokenize` under the profile that they ask for
module _ (words : ℕ) (first s list : List ℕ) (r : Right words first) (l : length s ≤ most) where
  pub right_answer : asked_answer words first s (length list) ≡ answer_of s (asked words first) (length list)
  right_answer = known_answer words first s list (right_known words first r) l

  pub right_list : asked_list words first s list ≡ listed s (asked words first) list
  right_list = known_list words first s list (right_known words first r) l

  -- a text with a direction mark is refused with 7, and the list is left as it was
  pub right_marked : CutMarked s (asked words first) → (asked_answer words first s (length list) ≡ (direction_mark, unmarked_up_to s)) × (asked_list words first s list ≡ list)
  unfolding answer_of listed
  right_marked m = let e = marked_refused m in (right_answer ∙ rw e, right_list ∙ rw e)
