-- Keys are equal exactly when the lists of counted tokens are; and how long a key can be. Over any cutter, and for the profiles'.
-- Assumes nothing.
use Prim.Native.Nat.{ℕ, ◌*◌, ◌≤◌}
use native.Mathlib.Omega.{arith}
use mathlib.Core.Path.{◌≡◌, refl, ap}
use mathlib.Core.Bool.{Bool, true, false}
use mathlib.Core.List.{List, ◌∷◌}
use lib.ListN.{length, drop, length-drop}
use Rattle.lists.specs.All.{Each}
use Rattle.lists.proofs.Cut.{by_length}
use Rattle.text.specs.Answer.{done, longest, known_profile, check_cut}
use Rattle.text.proofs.Checks.{cut_accepted}
use Rattle.cutters.specs.Records.{Token}
use Rattle.tokens.specs.Members.{is_counted, member_of, counted, members_by, members_of}
use Rattle.renewal.specs.Key.{key_of, key_by, key_of_text}
use Rattle.renewal.specs.Rules.{Ruled, Keyable}
use Rattle.renewal.proofs.Prefix.{keys_once, ruled_told}
use Rattle.renewal.proofs.Runs.{none_of, first_of, key_few_by}
use Rattle.renewal.proofs.Keyable.{profile_keyable}

module _ {cutter : List ℕ → List Token} (k : Keyable cutter) where
  -- ---- every member of a text obeys the rules
  ruled_cons : (s : List ℕ) (t : Token) (ts : List Token) → (is_counted t.kind ≡ true → Ruled (member_of s t)) → Each Ruled (counted (drop t.len s) ts) → Each Ruled (counted s (t ∷ ts))
  unfolding counted
  ruled_cons s t ts r rs = go (is_counted t.kind) refl
    where
      go : (b : Bool) → is_counted t.kind ≡ b → Each Ruled (elim b [ true ↦ member_of s t ∷ counted (drop t.len s) ts | false ↦ counted (drop t.len s) ts ])
      go true e = (r e, rs)
      go false e = rs

  pub members_ruled : (s : List ℕ) → length s ≤ longest → Each Ruled (members_by cutter s)
  unfolding members_by counted
  members_ruled =
      by_length (λ (s : List ℕ). length s ≤ longest → Each Ruled (members_by cutter s)) (λ h. rw (none_of k) tt)
      (λ a s ih h.
      let f = first_of k a s in
      let l = length-drop f.token.len (a ∷ s) in
      rw f.view (ruled_cons (a ∷ s) f.token (cutter (drop f.token.len (a ∷ s))) (f.ruled h) (ih (drop f.token.len (a ∷ s)) (omega (arith, f.some)) (omega arith))))

  -- ---- EXACTLY WHEN
  pub exactly_when_by : (s s' : List ℕ) → length s ≤ longest → length s' ≤ longest →
      (key_by cutter s ≡ key_by cutter s' → members_by cutter s ≡ members_by cutter s') × (members_by cutter s ≡ members_by cutter s' → key_by cutter s ≡ key_by cutter s')
  unfolding key_by
  exactly_when_by s s' h h' =
      (keys_once ruled_told (members_by cutter s) (members_by cutter s') (members_ruled s h) (members_ruled s' h'), ap key_of)

-- ---- THE THEOREM, for two texts that are accepted under one profile: their keys are equal if and only if their counted tokens are, one by
-- one, in kind, length, suffix start and bytes
pub exactly_when : (profile : ℕ) (s s' : List ℕ) → (check_cut s profile).0 ≡ done → (check_cut s' profile).0 ≡ done →
    (key_of_text profile s ≡ key_of_text profile s' → members_of profile s ≡ members_of profile s') × (members_of profile s ≡ members_of profile s' → key_of_text profile s ≡ key_of_text profile s')
unfolding key_of_text members_of key_by
exactly_when profile s s' h h' =
    exactly_when_by (profile_keyable profile (cut_accepted s profile h).known) s s' (cut_accepted s profile h).text.short (cut_accepted s' profile h').text.short

pub key_few : (profile : ℕ) (s : List ℕ) → known_profile profile ≡ true → length (key_of_text profile s) ≤ 11 * length s
unfolding key_of_text members_of key_by
key_few profile s h = key_few_by (profile_keyable profile h) s
