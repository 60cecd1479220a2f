-- What is shown of a counted token is its own, and the end is shown exactly where a text has no more.
-- Assumes nothing.
use Prim.Native.Nat.{ℕ, zero, suc, ◌+◌, ◌≤◌, ◌<◌}
use native.Mathlib.Omega.{arith}
use mathlib.Core.Path.{◌≡◌, refl}
use mathlib.Core.Bool.{Bool, true, false}
use mathlib.Core.List.{List, [], ◌∷◌}
use lib.ListN.{length, drop, get_or, length-drop}
use lib.Seq.{drop-drop}
use Rattle.lists.specs.All.{Each}
use Rattle.lists.proofs.Cut.{by_length}
use Rattle.text.specs.Answer.{known_profile}
use Rattle.cutters.specs.Records.{Token}
use Rattle.lexer.specs.Promises.{tokens_of}
use Rattle.tokens.specs.Members.{Member, is_counted, member_of, counted, members_by, members_of}
use Rattle.renewal.specs.Rules.{Keyable}
use Rattle.renewal.proofs.Runs.{none_of, first_of}
use Rattle.renewal.proofs.Keyable.{profile_keyable}
use Rattle.same.specs.Compare.{Sight, sights, end_of, shows}

-- a token has at least one byte
abbrev Some : Token → Type 0
Some t = 1 ≤ t.len

each_some : {cutter : List ℕ → List Token} → Keyable cutter → (s : List ℕ) → Each Some (cutter s)
each_some {cutter} k =
    by_length (λ (s : List ℕ). Each Some (cutter s)) (rw (none_of k) tt)
    (λ a s ih.
    let f = first_of k a s in
    rw f.view (f.some, ih (drop f.token.len (a ∷ s)) (omega (arith, length-drop f.token.len (a ∷ s), f.some, f.within))))

shows_from : (s : List ℕ) (at : ℕ) (ts : List Token) → Each Some ts → shows s (sights at ts) (counted (drop at s) ts)
unfolding shows sights counted
shows_from s at [] f = tt
shows_from s at (t ∷ ts) f =
    let r : shows s (sights (at + t.len) ts) (counted (drop t.len (drop at s)) ts) = rw drop-drop (shows_from s (at + t.len) ts f.1) in
    go (is_counted t.kind) r
  where
    go : (b : Bool) → shows s (sights (at + t.len) ts) (counted (drop t.len (drop at s)) ts) →
        shows s (elim b [ true ↦ record { kind = t.kind; start = at; len = t.len } ∷ sights (at + t.len) ts | false ↦ sights (at + t.len) ts ])
        (elim b [ true ↦ member_of (drop at s) t ∷ counted (drop t.len (drop at s)) ts | false ↦ counted (drop t.len (drop at s)) ts ])
    go true r = (refl, refl, f.0, refl, r)
    go false r = r

-- ---- EACH IS SHOWN, one by one, and nothing else is: of any cutter, and of the profiles'
pub all_shown_by : {cutter : List ℕ → List Token} → Keyable cutter → (s : List ℕ) → shows s (sights 0 (cutter s)) (members_by cutter s)
unfolding members_by
all_shown_by {cutter} k s = shows_from s 0 (cutter s) (each_some k s)

pub all_shown : (profile : ℕ) (s : List ℕ) → known_profile profile ≡ true → shows s (sights 0 (tokens_of profile s)) (members_of profile s)
unfolding members_of
all_shown profile s h = all_shown_by (profile_keyable profile h) s

-- ---- the end
some_at : (s : List ℕ) (vs : List Sight) (ms : List Member) (n : ℕ) (d : Sight) → shows s vs ms → n < length ms → 1 ≤ (get_or vs n d).len
unfolding shows
some_at s [] [] n d x h = absurd (omega arith)
some_at s [] (m ∷ ms) n d x h = absurd x
some_at s (v ∷ vs) [] n d x h = absurd x
some_at s (v ∷ vs) (m ∷ ms) zero d x h = x.2
some_at s (v ∷ vs) (m ∷ ms) (suc n) d x h = some_at s vs ms n d x.4 (omega arith)

none_at : (s : List ℕ) (vs : List Sight) (ms : List Member) (n : ℕ) (d : Sight) → shows s vs ms → length ms ≤ n → get_or vs n d ≡ d
unfolding shows
none_at s [] [] n d x h = refl
none_at s [] (m ∷ ms) n d x h = absurd x
none_at s (v ∷ vs) [] n d x h = absurd x
none_at s (v ∷ vs) (m ∷ ms) zero d x h = absurd (omega arith)
none_at s (v ∷ vs) (m ∷ ms) (suc n) d x h = none_at s vs ms n d x.4 (omega arith)

-- the length that is shown is 0 only at the end
pub end_shown_by : {cutter : List ℕ → List Token} → Keyable cutter → (s : List ℕ) (n : ℕ) →
    (n < length (members_by cutter s) → 1 ≤ (get_or (sights 0 (cutter s)) n (end_of s)).len) × (length (members_by cutter s) ≤ n → get_or (sights 0 (cutter s)) n (end_of s) ≡ end_of s)
end_shown_by {cutter} k s n =
    let x = all_shown_by k s in
    (some_at s (sights 0 (cutter s)) (members_by cutter s) n (end_of s) x, none_at s (sights 0 (cutter s)) (members_by cutter s) n (end_of s) x)

pub end_shown : (profile : ℕ) (s : List ℕ) (n : ℕ) → known_profile profile ≡ true →
    (n < length (members_of profile s) → 1 ≤ (get_or (sights 0 (tokens_of profile s)) n (end_of s)).len) × (length (members_of profile s) ≤ n → get_or (sights 0 (tokens_of profile s)) n (end_of s) ≡ end_of s)
unfolding members_of
end_shown profile s n h = end_shown_by (profile_keyable profile h) s n
