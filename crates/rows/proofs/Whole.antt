-- The answer and the row of a whole call.
-- Assumes nothing.
use Prim.Native.Nat.{ℕ, ◌-◌, ◌*◌, ◌/◌, ◌≤◌, ◌<◌}
use native.Mathlib.Omega.{arith}
use mathlib.Core.Path.{◌≡◌, refl, ap, sym, ◌∙◌, subst}
use mathlib.Core.Bool.{true, false}
use mathlib.Core.List.{List, [], ◌∷◌}
use lib.Dec.{ltb, eqb}
use lib.ListN.{length, drop, get_or}
use borrow.Author.Tests.{lt-ltb, le-ltb, eqb-true, eqb-false, eq-eqb, ne_eqb}
use Rattle.lists.proofs.Bools.{by_test}
use Rattle.characters.specs.Direction.{unmarked_up_to}
use Rattle.characters.proofs.Text.{point_at}
use Rattle.text.specs.Answer.{done, room_too_small, direction_mark, longest, check_cut, CutMarked, ◌and_then◌}
use Rattle.text.specs.declared.Refusal.{Refusal}
use Rattle.text.specs.declared.Refusal.TheVariants.{UnknownSelector, TooLong, NotUtf8, RoomTooSmall, DirectionMark}
use Rattle.text.specs.Refusals.{refused}
use Rattle.text.proofs.Checks.{cut_accepted, never_room, never_done}
use Rattle.text.proofs.Room.{was_done}
use Rattle.text.proofs.Marks.{marked_refused}
use Rattle.cutters.specs.Records.{record_words, flat_from}
use Rattle.lexer.specs.Cut.{Letters}
use Rattle.lexer.specs.Unicode.{unicode}
use Rattle.lexer.specs.Promises.{tokens3, tokens_of, front, tokens_by}
use Rattle.listing.specs.Promises.{answer_of, Listed, run, CutRun, token_at, TokenAt}
use Rattle.listing.proofs.Whole.{first_of}
use Rattle.lexer.proofs.Places.{few_tokens, tokens_first, known3}
use Rattle.rows.specs.Rows.{record_of, fields, records, rowed, Rowed}
use Rattle.rows.specs.Steps.{record_at, Judged, Filled}
use Rattle.rows.specs.declared.Token.{Token}
use Rattle.rows.proofs.Filling.{length_records}

-- ---- the record of a token
same_record : (t : Token) {k l m n o : ℕ} → k ≡ t.kind → l ≡ t.len → m ≡ t.suffix → n ≡ t.start → o ≡ t.misplaced → ◌≡◌ {A = Token} (record { kind = k; len = l; suffix = m; start = n; misplaced = o }) t
same_record t a b c d e = rw (a, b, c, d, e)

by_fields : (t t' : Token) → fields t ≡ fields t' → t ≡ t'
by_fields t t' e =
    let word : (i : ℕ) → get_or (fields t) i 0 ≡ get_or (fields t') i 0 = λ i. ap (λ (l : List ℕ). get_or l i 0) e in
    same_record t' (word 0) (word 1) (word 2) (word 3) (word 4)

-- one outcome of `Token::from`
pub from_unique : {t t' : Token} {words : List ℕ} → fields t ≡ words → fields t' ≡ words → t ≡ t'
from_unique e f = by_fields _ _ (e ∙ sym f)

-- the run of one token at a place within the text is its record, word for word
pub record_cut : {u : Letters} {profile : ℕ} {s list' : List ℕ} {at end count : ℕ} {t : Token} → length s ≤ longest → at < length s → CutRun u profile s at (0 ∷ 0 ∷ 0 ∷ 0 ∷ 0 ∷ []) end count list' → fields t ≡ list' → t ≡ record_at u profile s at
unfolding run flat_from front
record_cut {u} {profile} {s} {at = at} short h r f =
    let e = tokens_first u profile _ _ (drop at s) (point_at s at h).view in
    by_fields _ _ (f ∙ r.words ∙ rw (le-ltb longest (length s) short, e))

-- what `token_at` says, as a record
pub token_at_lem : {u : Letters} {profile : ℕ} {s : List ℕ} {at kind suffixAt found end : ℕ} → length s ≤ longest → TokenAt u profile s at kind suffixAt found end →
    ◌≡◌ {A = Token} (record { kind = kind; len = end - at; suffix = suffixAt - at; start = at; misplaced = found }) (record_at u profile s at)
token_at_lem {u} {profile} {s} {at} {kind} {suffixAt} {found} {end} short a =
    let t = token_at u profile s at in
    let l : end - at ≡ t.len = omega (arith, a.end_is) in
    let m : suffixAt - at ≡ t.suffix = omega (arith, a.suffix_is) in
    rw (a.kind_is, l, m, a.found_is) (ap (record_of s at) (first_of u profile s at short))

-- ---- the checks
whole_records : (room : ℕ) → record_words * room / record_words ≡ room
whole_records room = omega arith

-- how many records are needed
abbrev need : List ℕ → ℕ → ℕ
need s profile = length (tokens_of profile s)

-- the tokens of a text that passes the checks are those of OpenQASM 3
own : (s : List ℕ) (profile : ℕ) → (check_cut s profile).0 ≡ done → tokens_of profile s ≡ tokens_by unicode profile s
unfolding tokens3
own s profile h = known3 profile s (cut_accepted s profile h).known

pair_is : {x y : ℕ × ℕ} → x.0 ≡ y.0 → x.1 ≡ y.1 → x ≡ y
pair_is {x} {y} e f = ap (λ (k : ℕ). (k, x.1)) e ∙ ap (λ (k : ℕ). (y.0, k)) f

-- no other refusal has the number of a room that is too small
not_room : (r : Refusal) → ((n : ℕ) → r ≡ RoomTooSmall n → ⊥) → (refused r).0 ≡ room_too_small → ⊥
not_room UnknownSelector n h = omega (arith, h)
not_room TooLong n h = omega (arith, h)
not_room (NotUtf8 good) n h = omega (arith, h)
not_room (RoomTooSmall need) n h = n need refl
not_room (DirectionMark at) n h = omega (arith, h)

-- what `tokenize` says with room for no record: how many are needed
module _ {s list' : List ℕ} {profile : ℕ} where
  pub needed_room : {n : ℕ} → Listed s profile [] room_too_small n list' → (done, n) ≡ (check_cut s profile and_then (done, need s profile))
  unfolding answer_of
  needed_room {n} l =
      by_test (eqb (check_cut s profile).0 done)
      (λ t. by_test (ltb 0 (need s profile))
      (λ b. rw t (ap (λ (k : ℕ). (done, k)) (rw (t, b) at l.answer.also_is)))
      (λ b. absurd (omega (arith, rw (t, b) at l.answer.number_is))))
      (λ t. absurd (never_room s profile (sym (rw t at l.answer.number_is))))

  pub needed_none : {n : ℕ} → Listed s profile [] done n list' → (done, n) ≡ (check_cut s profile and_then (done, need s profile))
  unfolding answer_of
  needed_none l =
      let w = was_done (check_cut s profile) 0 (need s profile) l.answer refl in
      rw (eq-eqb _ _ w.0) (ap (λ (k : ℕ). (done, k)) w.2)

  pub needed_other : (r : Refusal) → Listed s profile [] (refused r).0 (refused r).1 list' → ((n : ℕ) → r ≡ RoomTooSmall n → ⊥) → refused r ≡ (check_cut s profile and_then (done, need s profile))
  unfolding answer_of
  needed_other r l n =
      by_test (eqb (check_cut s profile).0 done)
      (λ t. by_test (ltb 0 (need s profile))
      (λ b. absurd (not_room r n (rw (t, b) at l.answer.number_is)))
      (λ b. absurd (never_done r (rw (t, b) at l.answer.number_is))))
      (λ t. rw t (pair_is (rw t at l.answer.number_is) (rw t at l.answer.also_is)))

module _ {s : List ℕ} {profile room : ℕ} where
  pub judged_roomy : (r : ℕ × ℕ) → length s ≤ room → r ≡ check_cut s profile → Judged s profile room r.0 r.1
  unfolding answer_of
  judged_roomy r h e =
      by_test (eqb (check_cut s profile).0 done)
      (λ t.
      let z : r.0 ≡ done = ap (λ (x : ℕ × ℕ). x.0) e ∙ eqb-true _ _ t in
      record {
        number_is = rw (t, whole_records room, le-ltb room (need s profile) (omega (arith, few_tokens unicode profile s, ap length (own s profile (eqb-true _ _ t))))) z;
        also_is = λ n. absurd (n z);
      })
      (λ t. record { number_is = rw t (ap (λ (x : ℕ × ℕ). x.0) e); also_is = λ n. rw t (ap (λ (x : ℕ × ℕ). x.1) e) })

  -- what is refused before a need is known
  pub judged_refused : (r : Refusal) → refused r ≡ (check_cut s profile and_then (done, need s profile)) → Judged s profile room (refused r).0 (refused r).1
  unfolding answer_of
  judged_refused r e =
      by_test (eqb (check_cut s profile).0 done)
      (λ t. let f : refused r ≡ (done, need s profile) = rw t at e in absurd (never_done r (ap (λ (x : ℕ × ℕ). x.0) f)))
      (λ t.
      let f : refused r ≡ check_cut s profile = rw t at e in
      record { number_is = rw t (ap (λ (x : ℕ × ℕ). x.0) f); also_is = λ n. rw t (ap (λ (x : ℕ × ℕ). x.1) f) })

-- and where it is
module _ (s : List ℕ) (profile room : ℕ) {n : ℕ} (e : (done, n) ≡ (check_cut s profile and_then (done, need s profile))) where
  told_need : ((check_cut s profile).0 ≡ done) × (n ≡ need s profile)
  told_need =
      by_test (eqb (check_cut s profile).0 done)
      (λ t. (eqb-true _ _ t, let f : ◌≡◌ {A = ℕ × ℕ} (done, n) (done, need s profile) = rw t at e in ap (λ (x : ℕ × ℕ). x.1) f))
      (λ t. let f : (done, n) ≡ check_cut s profile = rw t at e in absurd (eqb-false _ _ t (ap (λ (x : ℕ × ℕ). x.0) (sym f))))

  pub judged_short : room < n → Judged s profile room room_too_small n
  unfolding answer_of
  judged_short h =
      let k = told_need in
      let b : ltb room (need s profile) ≡ true = lt-ltb room (need s profile) (omega (arith, k.1, h)) in
      record { number_is = rw (eq-eqb _ _ k.0, whole_records room, b); also_is = λ m. rw (eq-eqb _ _ k.0, whole_records room, b) k.1 }

  pub judged_done : n ≤ room → {also : ℕ} → Judged s profile room done also
  unfolding answer_of
  judged_done h =
      let k = told_need in
      let b : ltb room (need s profile) ≡ false = le-ltb room (need s profile) (omega (arith, k.1, h)) in
      record { number_is = rw (eq-eqb _ _ k.0, whole_records room, b); also_is = λ m. absurd (m refl) }

-- ---- the whole call
-- what is refused leaves the row as it was
pub rowed_refused : {s : List ℕ} {profile : ℕ} {row : List Token} (r : Refusal) → Judged s profile (length row) (refused r).0 (refused r).1 → Rowed s profile row (refused r).0 (refused r).1 row
unfolding rowed
rowed_refused r j =
    let n = never_done r in
    record {
      answer = record { number_is = j.number_is; also_is = j.also_is n };
      row_is = rw (ne_eqb _ _ (λ z. n (j.number_is ∙ z)));
    }

module _ (s : List ℕ) (profile : ℕ) (row : List Token) {also : ℕ} (j : Judged s profile (length row) done also) where
  -- what passes: the checks are done, and the row has room
  passes : ((check_cut s profile).0 ≡ done) × (need s profile ≤ length row)
  unfolding answer_of
  passes =
      let room = record_words * length row / record_words in
      let w = was_done (check_cut s profile) room (need s profile) (record { number_is = j.number_is; also_is = refl }) refl in
      (w.0, omega (arith, w.1, whole_records (length row)))

  pub judged_passed : {u : Letters} → u ≡ unicode → (length s ≤ longest) × (length (tokens_by u profile s) ≤ length row)
  judged_passed l = rw l ((cut_accepted s profile passes.0).text.short, omega (arith, passes.1, ap length (own s profile passes.0)))

  answer_is : answer_of s profile (record_words * length row) ≡ (done, need s profile)
  unfolding answer_of
  answer_is = rw (eq-eqb _ _ passes.0, whole_records (length row), le-ltb (length row) (need s profile) passes.1)

  pub rowed_done : {u : Letters} {n : ℕ} {row' : List Token} → u ≡ unicode → Filled u profile s row n row' → Rowed s profile row done n row'
  unfolding rowed
  rowed_done {n = n} {row'} l f₀ =
      let f : Filled unicode profile s row n row' = subst (λ (u : Letters). Filled u profile s row n row') l f₀ in
      let e = own s profile passes.0 in
      let k : length (records s 0 (tokens_by unicode profile s)) ≡ n = length_records s 0 (tokens_by unicode profile s) ∙ sym f.count in
      record {
        answer = rw answer_is (record { number_is = refl; also_is = f.count ∙ ap length (sym e) });
        row_is = rw (answer_is, e, k) f.row_is;
      }

-- ---- A TEXT WITH A DIRECTION MARK is refused with 7, in whatever room, and the row is left as it was
pub rowed_marked : {s : List ℕ} {profile number also : ℕ} {row row' : List Token} → CutMarked s profile → Rowed s profile row number also row' → (number ≡ direction_mark) × (also ≡ unmarked_up_to s) × (row' ≡ row)
unfolding answer_of rowed
rowed_marked m r =
    let e = marked_refused m in
    (rw e at r.answer.number_is, rw e at r.answer.also_is, rw e at r.row_is)
