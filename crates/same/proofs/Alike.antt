-- Members are alike exactly when they are equal; and how far two lists agree.
-- Assumes nothing.
use Prim.Native.Nat.{ℕ, suc, ◌-◌, ◌≤◌, ◌<◌}
use native.Mathlib.Omega.{arith}
use mathlib.Core.Path.{◌≡◌, refl, ap, sym, ◌∙◌}
use mathlib.Core.Bool.{Bool, true, false, ◌&&◌, false≢true}
use mathlib.Core.List.{List, [], ◌∷◌}
use lib.Dec.{eqb}
use lib.Pointwise.{pointwise}
use lib.ListN.{length, take, drop, get_or, length-drop}
use lib.Seq.{length-take-le, take-length}
use borrow.Author.Tests.{eqb-true, eq-eqb, ne_eqb}
use Rattle.lists.proofs.Bools.{by_test, both, and_false}
use Rattle.tokens.specs.Members.{Member}
use Rattle.same.specs.Compare.{same_bytes, alike, agree}
use Rattle.same.specs.Steps.{Within, member_at}

-- ---- bytes
pub bytes_equal : (s t : List ℕ) → same_bytes s t ≡ true → s ≡ t
unfolding same_bytes
bytes_equal [] [] e = refl
bytes_equal [] (b ∷ t) e = absurd (false≢true e)
bytes_equal (a ∷ s) [] e = absurd (false≢true e)
bytes_equal (a ∷ s) (b ∷ t) e =
    let h = both (eqb a b) (same_bytes s t) e in
    let p : a ≡ b = eqb-true a b h.0 in
    let q : s ≡ t = bytes_equal s t h.1 in
    cc

pub bytes_same : (s : List ℕ) → same_bytes s s ≡ true
unfolding same_bytes
bytes_same [] = refl
bytes_same (a ∷ s) = rw (eq-eqb a a refl) (bytes_same s)

-- as `==` on slices tells it
pub pointwise_same : (s t : List ℕ) → pointwise eqb s t ≡ same_bytes s t
unfolding same_bytes
pointwise_same [] [] = refl
pointwise_same [] (b ∷ t) = refl
pointwise_same (a ∷ s) [] = refl
pointwise_same (a ∷ s) (b ∷ t) = ap (λ (x : Bool). eqb a b && x) (pointwise_same s t)

-- ---- members
abbrev make : ℕ → ℕ → ℕ → List ℕ → Member
make k n s t = record { kind = k; len = n; suffix = s; bytes = t }

made_equal : {k k' n n' s s' : ℕ} {t t' : List ℕ} → k ≡ k' → n ≡ n' → s ≡ s' → t ≡ t' → make k n s t ≡ make k' n' s' t'
made_equal a b c d = rw (a, b, c, d)

pub alike_equal : (m m' : Member) → alike m m' ≡ true → m ≡ m'
unfolding alike
alike_equal m m' e =
    let a = both (eqb m.kind m'.kind) _ e in
    let b = both (eqb m.len m'.len) _ a.1 in
    let d = both (eqb m.suffix m'.suffix) _ b.1 in
    let k : m.kind ≡ m'.kind = eqb-true _ _ a.0 in
    let l : m.len ≡ m'.len = eqb-true _ _ b.0 in
    let u : m.suffix ≡ m'.suffix = eqb-true _ _ d.0 in
    let s : m.bytes ≡ m'.bytes = bytes_equal m.bytes m'.bytes d.1 in
    made_equal k l u s

pub alike_self : (m : Member) → alike m m ≡ true
unfolding alike
alike_self m = rw (eq-eqb m.kind m.kind refl, eq-eqb m.len m.len refl, eq-eqb m.suffix m.suffix refl) (bytes_same m.bytes)

-- ---- as `are_alike` tests them
module _ (m m' : Member) {r : Bool} where
  pub alike_kind : (m.kind ≡ m'.kind → ⊥) → r ≡ false → r ≡ alike m m'
  unfolding alike
  alike_kind n e = rw (ne_eqb _ _ n) e

  pub alike_suff : (m.suffix ≡ m'.suffix → ⊥) → r ≡ false → r ≡ alike m m'
  unfolding alike
  alike_suff n e = rw (ne_eqb _ _ n, and_false, and_false) e

alike_by : (m m' : Member) → m.kind ≡ m'.kind → m.suffix ≡ m'.suffix → length m.bytes ≡ m.len → length m'.bytes ≡ m'.len → alike m m' ≡ same_bytes m.bytes m'.bytes
unfolding alike
alike_by m m' k u l l' =
    by_test (same_bytes m.bytes m'.bytes)
    (λ e.
    let n : m.len ≡ m'.len = sym l ∙ ap length (bytes_equal m.bytes m'.bytes e) ∙ l' in
    rw (eq-eqb _ _ k, eq-eqb _ _ u, eq-eqb _ _ n) refl)
    (λ e. rw (e, and_false, and_false, and_false) refl)

bytes_at : {s : List ℕ} {a m e : ℕ} → Within s a m e → length (take (e - a) (drop a s)) ≡ e - a
bytes_at {s} {a} {m} {e} w = length-take-le (e - a) (drop a s) (omega (arith, w.before_end, w.within, length-drop a s))

pub alike_bytes : (s s' : List ℕ) (k a m e k' a' m' e' : ℕ) {r : Bool} → k ≡ k' → m - a ≡ m' - a' → Within s a m e → Within s' a' m' e' →
    r ≡ same_bytes (take (e - a) (drop a s)) (take (e' - a') (drop a' s')) → r ≡ alike (member_at s k a m e) (member_at s' k' a' m' e')
alike_bytes s s' k a m e k' a' m' e' p q w w' h =
    h ∙ sym (alike_by (member_at s k a m e) (member_at s' k' a' m' e') p q (bytes_at w) (bytes_at w'))

-- ---- lists
pub agree_more : (m m' : Member) (l l' : List Member) → alike m m' ≡ true → agree (m ∷ l) (m' ∷ l') ≡ suc (agree l l')
unfolding agree
agree_more m m' l l' e = rw (e, agree)

pub agree_stop : (m m' : Member) (l l' : List Member) → alike m m' ≡ false → agree (m ∷ l) (m' ∷ l') ≡ 0
unfolding agree
agree_stop m m' l l' e = rw (e, agree)

-- ---- THE LONGEST COMMON BEGINNING: what agrees is a beginning of both, and what stands behind it differs
pub agree_take : (l l' : List Member) → take (agree l l') l ≡ take (agree l l') l'
unfolding agree
agree_take [] l' = refl
agree_take (m ∷ l) [] = refl
agree_take (m ∷ l) (m' ∷ l') =
    by_test (alike m m')
    (λ e.
    let h : m ≡ m' = alike_equal m m' e in
    let t = agree_take l l' in
    rw (agree_more m m' l l' e) (cc))
    (λ e. rw (agree_stop m m' l l' e) refl)

pub agree_within : (l l' : List Member) → (agree l l' ≤ length l) × (agree l l' ≤ length l')
unfolding agree
agree_within [] l' = (omega arith, omega arith)
agree_within (m ∷ l) [] = (omega arith, omega arith)
agree_within (m ∷ l) (m' ∷ l') =
    by_test (alike m m')
    (λ e.
    let t = agree_within l l' in
    rw (agree_more m m' l l' e) (omega (arith, t.0), omega (arith, t.1)))
    (λ e. rw (agree_stop m m' l l' e) (omega arith, omega arith))

pub agree_differ : (l l' : List Member) (d : Member) → agree l l' < length l → agree l l' < length l' → get_or l (agree l l') d ≡ get_or l' (agree l l') d → ⊥
unfolding agree
agree_differ [] l' d h h' e = omega arith
agree_differ (m ∷ l) [] d h h' e = omega arith
agree_differ (m ∷ l) (m' ∷ l') d h h' e =
    by_test (alike m m')
    (λ t.
    let a : suc (agree l l') < suc (length l) = rw (agree_more m m' l l' t) at h in
    let a' : suc (agree l l') < suc (length l') = rw (agree_more m m' l l' t) at h' in
    agree_differ l l' d (omega arith) (omega arith) (rw (agree_more m m' l l' t) at e))
    (λ t.
    let k : m ≡ m' = rw (agree_stop m m' l l' t) at e in
    let z : alike m m' ≡ true = rw k (alike_self m') in
    false≢true (sym t ∙ z))

-- all agree exactly when the lists are equal
pub agree_all : (l l' : List Member) → agree l l' ≡ length l → agree l l' ≡ length l' → l ≡ l'
agree_all l l' e e' =
    let t : take (length l) l ≡ take (length l) l' = rw e at (agree_take l l') in
    let n : length l ≡ length l' = sym e ∙ e' in
    sym (take-length l) ∙ t ∙ rw n (take-length l')

pub agree_self : (l : List Member) → agree l l ≡ length l
unfolding agree
agree_self [] = refl
agree_self (m ∷ l) = agree_more m m l l (alike_self m) ∙ ap suc (agree_self l)
