-- Demand 3's second clause, for the key: one newline in place of any unbroken run of uncounted tokens never changes it.
-- Assumes nothing.
use Prim.Native.Nat.{ℕ, ◌≤◌}
use native.Mathlib.Omega.{arith}
use mathlib.Core.Path.{◌≡◌, refl, ap, sym, ◌∙◌}
use mathlib.Core.Bool.{true, false, not}
use mathlib.Core.List.{List, [], ◌∷◌}
use lib.Dec.{ltb}
use lib.ListN.{length, take}
use borrow.Author.Tests.{le-ltb, eq-eqb}
use Rattle.lists.specs.All.{all}
use Rattle.lists.proofs.Bools.{on_cond}
use Rattle.characters.specs.Direction.{is_direction, unmarked}
use Rattle.text.specs.Answer.{done, longest, check_cut, CutAccepted}
use Rattle.text.proofs.Checks.{cut_accepted, cut_passes}
use Rattle.locality.specs.Newline.{Run, MadeOf, with_newline}
use Rattle.locality.proofs.Clause.{newline_shorter, newline_clause}
use Rattle.lexer.specs.Promises.{tokens3, profile3, tokens_of}
use Rattle.lexer.proofs.Places.{known3}
use Rattle.tokens.specs.Members.{members_of}
use Rattle.tokens.proofs.OpenQasm.{members_known}
use Rattle.renewal.specs.Key.{key_of, key_of_text}
use Rattle.renewal.specs.Promises.{answer_of, Keyed, Keeps}
use Rattle.renewal.proofs.Whole.{done_accepted, done_written}

-- where the counted tokens are the same, the keys are: with `members_known` each corollary of `locality` on what may change speaks of the key
pub same_key : (profile : ℕ) (s s' : List ℕ) → members_of profile s ≡ members_of profile s' → key_of_text profile s ≡ key_of_text profile s'
unfolding key_of_text
same_key profile s s' e = ap key_of e

-- with it a text that is made of the characters of an accepted one and of others, none a direction mark, is accepted too if it is not too long
pub same_accepted : (profile : ℕ) {more s s' : List ℕ} → (check_cut s profile).0 ≡ done → MadeOf more s s' → all (λ c. not (is_direction c)) more ≡ true → length s' ≤ longest → members_of profile s' ≡ members_of profile s →
    Keeps profile s s'
unfolding unmarked
same_accepted profile {s = s} {s' = s'} h m q l e =
    let a = cut_accepted s profile h in
    let c : CutAccepted s' profile = record { known = a.known; text = record { short = l; good = m.good }; clean = m.each (λ c. not (is_direction c)) q a.clean } in
    (ap (λ (r : ℕ × ℕ). r.0) (cut_passes s' profile c), same_key profile s' s e)

-- LF is no direction mark
pub lf_plain : all (λ c. not (is_direction c)) (0x0A ∷ []) ≡ true
unfolding all
lf_plain = refl

-- ---- under the profiles of OpenQASM 3 a run is its own
run_known : (profile : ℕ) {s : List ℕ} {from to : ℕ} → profile3 profile ≡ true → Run (tokens_of profile) s from to → Run (tokens3 profile) s from to
run_known profile {s} k r =
    record {
      before = r.before;
      run = r.run;
      behind = r.behind;
      is = sym (known3 profile s k) ∙ r.is;
      some = r.some;
      uncounted = r.uncounted;
      starts = r.starts;
      ends = r.ends;
    }

-- ---- THE NEWLINE CLAUSE: of a text that is accepted, with one newline in place of any unbroken run of one or more uncounted tokens, the new text
-- is accepted too, and its key is the same
pub newline_key : (profile : ℕ) {s : List ℕ} {from to : ℕ} → (check_cut s profile).0 ≡ done → Run (tokens_of profile) s from to →
    Keeps profile s (with_newline s from to)
newline_key profile {s} {from} {to} h r =
    let a = cut_accepted s profile h in
    let r₃ = run_known profile a.known r in
    let c = newline_clause profile a.text.good r₃ in
    let e : members_of profile (with_newline s from to) ≡ members_of profile s =
    members_known profile (with_newline s from to) a.known ∙ c.1 ∙ sym (members_known profile s a.known) in
    same_accepted profile h c.0 lf_plain (omega (arith, newline_shorter profile r₃, a.text.short)) e

-- what a call that is done tells: the length of the key
done_length : {s : List ℕ} {profile : ℕ} {key : List ℕ} {a : ℕ} {k : List ℕ} → Keyed s profile key done a k → a ≡ length (key_of_text profile s)
unfolding answer_of
done_length {s} {profile} {key} p =
    let c = eq-eqb (check_cut s profile).0 done (done_accepted p) in
    let m = length (key_of_text profile s) in
    (rw c at p.answer.also_is) ∙ on_cond (λ (r : ℕ × ℕ). r.1 ≡ m) (ltb (length key) m) refl refl

-- THE NEWLINE CLAUSE on what two calls have written: where the one on the text is done, the one on the new text is done too in any room that
-- the key has, and has written the same key
pub newline_written : {s : List ℕ} {profile from to : ℕ} {key key' : List ℕ} {a n b : ℕ} {k k' : List ℕ} → Keyed s profile key done a k → Run (tokens_of profile) s from to →
    Keyed (with_newline s from to) profile key' n b k' → a ≤ length key' → (n ≡ done) × (b ≡ a) × (take b k' ≡ take a k)
unfolding answer_of
newline_written {s} {profile} {from} {to} {key} {key'} {a} {n} {b} {k} {k'} p r q l =
    let w = newline_key profile (done_accepted p) r in
    let e : n ≡ done = told.0 in
    let q' : Keyed (with_newline s from to) profile key' done b k' = rw e at q in
    (e, told.1, done_written q' ∙ w.1 ∙ sym (done_written p))
  where
    told : (n ≡ done) × (b ≡ a)
    told =
        let w = newline_key profile (done_accepted p) r in
        let c = eq-eqb (check_cut (with_newline s from to) profile).0 done w.0 in
        let m = length (key_of_text profile (with_newline s from to)) in
        let h : m ≡ a = ap length w.1 ∙ sym (done_length p) in
        let t : ltb (length key') m ≡ false = le-ltb (length key') m (omega (arith, h, l)) in
        (rw (c, t) at q.answer.number_is, (rw (c, t) at q.answer.also_is) ∙ h)
