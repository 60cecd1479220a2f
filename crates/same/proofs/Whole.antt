-- The answer of `compare`, that it is the only one, and what it says: the same exactly when the renewal keys are equal.
-- Assumes nothing.
use Prim.Native.Nat.{ℕ, ◌<◌}
use native.Mathlib.Omega.{arith}
use mathlib.Core.Path.{◌≡◌, ap, sym, subst, ◌∙◌}
use mathlib.Core.Bool.{true, false, cond, ◌&&◌}
use mathlib.Core.List.{List}
use lib.Dec.{eqb}
use lib.ListN.{length}
use borrow.Author.Tests.{eq-eqb, ne_eqb, eqb-true}
use Rattle.lists.proofs.Bools.{by_test, both}
use Rattle.characters.specs.Direction.{unmarked_up_to}
use Rattle.text.specs.declared.Refusal.{Refusal}
use Rattle.text.specs.Refusals.{refused}
use Rattle.text.specs.Answer.{done, direction_mark, check_cut, CutMarked}
use Rattle.text.proofs.Checks.{cut_accepted, never_done}
use Rattle.text.proofs.Marks.{marked_refused}
use Rattle.lexer.specs.Cut.{Letters}
use Rattle.lexer.specs.Unicode.{unicode}
use Rattle.lexer.specs.Promises.{tokens3, profile3, tokens_of, tokens_by}
use Rattle.lexer.proofs.Places.{known3}
use Rattle.tokens.specs.Members.{Member, members_by, members_of}
use Rattle.renewal.specs.Key.{key_of_text}
use Rattle.renewal.proofs.Exactly.{exactly_when}
use Rattle.same.specs.Compare.{Sight, Comparison, Shown, Compared, agree, same, different, old_refused, new_refused, parted_by, refused_by, compared}
use Rattle.same.proofs.Alike.{agree_all, agree_self}

-- under its profiles the comparison is that of OpenQASM 3's tokens
parted_known : (profile : ℕ) (s s' : List ℕ) → profile3 profile ≡ true → parted_by (tokens_of profile) s s' ≡ parted_by (tokens3 profile) s s'
unfolding parted_by members_by
parted_known profile s s' h = rw (known3 profile s h, known3 profile s' h)

-- ---- the three ways
accepted_test : (profile : ℕ) (s : List ℕ) → (done, 0) ≡ check_cut s profile → eqb (check_cut s profile).0 done ≡ true
accepted_test profile s e = eq-eqb _ _ (ap (λ (x : ℕ × ℕ). x.0) (sym e))

refused_test : (profile : ℕ) (s : List ℕ) (r : Refusal) → refused r ≡ check_cut s profile → eqb (check_cut s profile).0 done ≡ false
refused_test profile s r e = ne_eqb _ _ (λ z. never_done r (ap (λ (x : ℕ × ℕ). x.0) e ∙ z))

module _ (profile : ℕ) (s s' : List ℕ) where
  pub old_refused_is : (r : Refusal) → refused r ≡ check_cut s profile → refused_by old_refused (refused r) ≡ compared profile s s'
  unfolding compared
  old_refused_is r e = rw (refused_test profile s r e) (ap (refused_by old_refused) e)

  pub new_refused_is : (r : Refusal) → (done, 0) ≡ check_cut s profile → refused r ≡ check_cut s' profile → refused_by new_refused (refused r) ≡ compared profile s s'
  unfolding compared
  new_refused_is r c e = rw (accepted_test profile s c, refused_test profile s' r e) (ap (refused_by new_refused) e)

  pub both_accepted : {u : Letters} {c : Comparison} → (done, 0) ≡ check_cut s profile → (done, 0) ≡ check_cut s' profile → u ≡ unicode → c ≡ parted_by (tokens_by u profile) s s' → c ≡ compared profile s s'
  unfolding compared tokens3
  both_accepted {c = c} p q l r =
      let k = (cut_accepted s profile (ap (λ (x : ℕ × ℕ). x.0) (sym p))).known in
      let t : c ≡ parted_by (tokens3 profile) s s' = subst (λ (u : Letters). c ≡ parted_by (tokens_by u profile) s s') l r in
      rw (accepted_test profile s p, accepted_test profile s' q, parted_known profile s s' k) t

-- ---- ONE OUTCOME
shown_unique : {v : Sight} {k o l k' o' l' : ℕ} → Shown v k o l → Shown v k' o' l' → (k ≡ k') × (o ≡ o') × (l ≡ l')
shown_unique p q = (p.kind_is ∙ sym q.kind_is, p.start_is ∙ sym q.start_is, p.len_is ∙ sym q.len_is)

pub compared_unique : {c : Comparison} {v n a g k o l k₁ o₁ l₁ v' n' a' g' k' o' l' k₂ o₂ l₂ : ℕ} → Compared c v n a g k o l k₁ o₁ l₁ → Compared c v' n' a' g' k' o' l' k₂ o₂ l₂ →
    (v ≡ v') × (n ≡ n') × (a ≡ a') × (g ≡ g') × ((k ≡ k') × (o ≡ o') × (l ≡ l')) × ((k₁ ≡ k₂) × (o₁ ≡ o₂) × (l₁ ≡ l₂))
compared_unique p q =
    (p.verdict_is ∙ sym q.verdict_is, p.number_is ∙ sym q.number_is, p.also_is ∙ sym q.also_is, p.agreed_is ∙ sym q.agreed_is, shown_unique p.old_is q.old_is, shown_unique p.new_is q.new_is)

-- ---- the same exactly when the counted tokens are
all_same : (l l' : List Member) → (cond (eqb (agree l l') (length l) && eqb (agree l l') (length l')) same different ≡ same → l ≡ l') × (l ≡ l' → cond (eqb (agree l l') (length l) && eqb (agree l l') (length l')) same different ≡ same)
all_same l l' = (
  λ h.
      by_test (eqb (agree l l') (length l) && eqb (agree l l') (length l'))
      (λ t.
      let x = both (eqb (agree l l') (length l)) (eqb (agree l l') (length l')) t in
      agree_all l l' (eqb-true _ _ x.0) (eqb-true _ _ x.1))
      (λ f. absurd (omega (arith, rw f at h))),
  λ e. rw (← e) (rw (eq-eqb (agree l l) (length l) (agree_self l))),
)

module _ (profile : ℕ) (s s' : List ℕ) (h : (check_cut s profile).0 ≡ done) (h' : (check_cut s' profile).0 ≡ done) where
  accepted_is : compared profile s s' ≡ parted_by (tokens_of profile) s s'
  unfolding compared
  accepted_is = rw (eq-eqb _ _ h, eq-eqb _ _ h')

  pub same_is_members : ((compared profile s s').verdict ≡ same → members_of profile s ≡ members_of profile s') × (members_of profile s ≡ members_of profile s' → (compared profile s s').verdict ≡ same)
  unfolding members_of parted_by
  same_is_members = rw accepted_is (all_same (members_of profile s) (members_of profile s'))

  -- ---- THE THEOREM: of two texts that are accepted, `compare` says the same exactly when their renewal keys are equal
  pub same_is_key : ((compared profile s s').verdict ≡ same → key_of_text profile s ≡ key_of_text profile s') × (key_of_text profile s ≡ key_of_text profile s' → (compared profile s s').verdict ≡ same)
  same_is_key =
      let e = exactly_when profile s s' h h' in
      (λ v. e.1 (same_is_members.0 v), λ k. same_is_members.1 (e.0 k))

-- and a verdict of 0 or 1 is given only where both are accepted
pub verdict_accepted : (profile : ℕ) (s s' : List ℕ) → (compared profile s s').verdict < old_refused → ((check_cut s profile).0 ≡ done) × ((check_cut s' profile).0 ≡ done)
unfolding compared
verdict_accepted profile s s' h =
    by_test (eqb (check_cut s profile).0 done)
    (λ e.
    by_test (eqb (check_cut s' profile).0 done) (λ f. (eqb-true _ _ e, eqb-true _ _ f))
    (λ f. absurd (omega (arith, rw (e, f) at h))))
    (λ e. absurd (omega (arith, rw e at h)))

-- ---- A TEXT WITH A DIRECTION MARK is refused with 7: the old one, and the new one where the old one is accepted
pub compared_old_marked : (profile : ℕ) (s s' : List ℕ) → CutMarked s profile → compared profile s s' ≡ refused_by old_refused (direction_mark, unmarked_up_to s)
unfolding compared
compared_old_marked profile s s' m = let e = marked_refused m in rw e

pub compared_new_marked : (profile : ℕ) (s s' : List ℕ) → (check_cut s profile).0 ≡ done → CutMarked s' profile → compared profile s s' ≡ refused_by new_refused (direction_mark, unmarked_up_to s')
unfolding compared
compared_new_marked profile s s' h m = let e = marked_refused m in rw (eq-eqb _ _ h, e)
