-- The encoding is a prefix code: what begins with a member's bytes begins with no other's. So keys are equal exactly when the lists are, for
-- all members that obey the record rules.
-- Assumes nothing.
use Prim.Native.Nat.{ℕ}
use native.Mathlib.Decide.{ℕ_discrete}
use native.Mathlib.Omega.{arith}
use mathlib.Core.Path.{◌≡◌, refl, ap, sym, ◌∙◌}
use mathlib.Core.Bool.{Bool, true, false, cond}
use mathlib.Core.List.{List, [], ◌∷◌, ◌++◌, append_assoc}
use lib.ListN.{length, take, drop, length-take}
use lib.Dec.{eqb}
use borrow.Author.Tests.{eq-eqb, ne_eqb}
use Rattle.lists.specs.All.{Each}
use Rattle.tokens.specs.Members.{Member}
use Rattle.renewal.specs.Key.{body_length, low_bytes, word, body_of, texts, encode, key_of}
use Rattle.renewal.specs.Rules.{Allowed, empty, plain, literal, own_bytes, Ruled, mark, stored}
use Rattle.renewal.proofs.Words.{value, value_word, same_front}
use Rattle.renewal.proofs.Texts.{texts_nil, texts_front}

-- members are equal part by part
abbrev make : ℕ → ℕ → ℕ → List ℕ → Member
make k n s t = record { kind = k; len = n; suffix = s; bytes = t }

same_parts : {x y : Member} → x.kind ≡ y.kind → x.len ≡ y.len → x.suffix ≡ y.suffix → x.bytes ≡ y.bytes → x ≡ y
same_parts {x} {y} a b c d =
    ap (λ (k : ℕ). make k x.len x.suffix x.bytes) a ∙ ap (λ (n : ℕ). make y.kind n x.suffix x.bytes) b
    ∙ ap (λ (n : ℕ). make y.kind y.len n x.bytes) c ∙ ap (make y.kind y.len y.suffix) d

-- ---- length and suffix start read back from a body
body_len : {m : Member} → Allowed m → value (take 4 (body_of m)) ≡ m.len
unfolding low_bytes value
body_len (empty b l s t) = rw b (sym l)
body_len {m} (plain b l h s t) = rw b (value_word m.len h)
body_len {m} (literal b l h n t) = rw b (value_word m.len n)

body_suff : {m : Member} → Allowed m → value (drop 4 (body_of m)) ≡ m.suffix
unfolding low_bytes value
body_suff (empty b l s t) = rw b (sym s)
body_suff {m} (plain b l h s t) = rw b (sym s)
body_suff {m} (literal b l h n t) = rw b (value_word m.suffix (omega arith))

text_long : {m : Member} → Allowed m → length m.bytes ≡ m.len
text_long {m} (empty b l s t) = omega (arith, ap length t)
text_long (plain b l m s t) = t
text_long (literal b l m n t) = t

body_long : (x y : Member) → x.kind ≡ y.kind → length (body_of x) ≡ length (body_of y)
unfolding low_bytes
body_long x y e =
    rw e (length-take (body_length y.kind) (word x.len ++ word x.suffix) ∙ sym (length-take (body_length y.kind) (word y.len ++ word y.suffix)))

-- of what obeys the record rules, kind, body and text
whole : {m : Member} → Allowed m → encode m ≡ m.kind ∷ (body_of m ++ texts m.bytes)
unfolding encode
whole (empty b l s t) = rw (b, t, texts_nil)
whole {m} (plain b l h s t) = rw (ne_eqb (body_length m.kind) 0 (λ z. omega arith))
whole {m} (literal b l h n t) = rw (ne_eqb (body_length m.kind) 0 (λ z. omega arith))

-- ---- THE PREFIX CODE
pub prefix_code : {x y : Member} → Allowed x → Allowed y → (a b : List ℕ) → encode x ++ a ≡ encode y ++ b → (x ≡ y) × (a ≡ b)
prefix_code {x} {y} p q a b e =
    let e₀ : x.kind ∷ (body_of x ++ texts x.bytes) ++ a ≡ y.kind ∷ (body_of y ++ texts y.bytes) ++ b = rw (whole p, whole q) at e in
    let k : x.kind ≡ y.kind = cc in
    let e₁ : body_of x ++ (texts x.bytes ++ a) ≡ body_of y ++ (texts y.bytes ++ b) =
    sym (append_assoc (body_of x) (texts x.bytes) a) ∙ (cc) ∙ append_assoc (body_of y) (texts y.bytes) b in
    let r = same_front (body_of x) (body_of y) (body_long x y k) e₁ in
    let l : x.len ≡ y.len = sym (body_len p) ∙ ap (λ (u : List ℕ). value (take 4 u)) r.0 ∙ body_len q in
    let s : x.suffix ≡ y.suffix = sym (body_suff p) ∙ ap (λ (u : List ℕ). value (drop 4 u)) r.0 ∙ body_suff q in
    let t = texts_front x.bytes y.bytes (text_long p ∙ l ∙ sym (text_long q)) a b r.1 in
    (same_parts k l s t.0, t.1)

-- ---- what the key holds of a member: the kind alone where its body is empty
unfoldable pub held : Member → Member
held m = cond (eqb (body_length m.kind) 0) (make m.kind 0 0 []) m

held_empty : (m : Member) → body_length m.kind ≡ 0 → held m ≡ make m.kind 0 0 []
unfolding held
held_empty m h = rw (eq-eqb (body_length m.kind) 0 h)

held_stored : (m : Member) → (body_length m.kind ≡ 0 → ⊥) → held m ≡ m
unfolding held
held_stored m h = rw (ne_eqb (body_length m.kind) 0 h)

held_kind : (m : Member) → (held m).kind ≡ m.kind
unfolding held
held_kind m = go (eqb (body_length m.kind) 0)
  where
    go : (b : Bool) → (cond b (make m.kind 0 0 []) m).kind ≡ m.kind
    go true = refl
    go false = refl

encode_held : (m : Member) → encode (held m) ≡ encode m
unfolding encode
encode_held m =
    elim (ℕ_discrete (body_length m.kind) 0) [
      | yes z ↦ rw (held_empty m z, z)
      | no z ↦ rw (held_stored m z)
    ]

-- ---- rules under which a member can be told from what the key holds of it
pub record Told (P : Member → Type 0) : Type 0 where
  pub holds : {m : Member} → P m → Allowed (held m)
  pub once : {x y : Member} → P x → P y → x.kind ≡ y.kind → held x ≡ held y → x ≡ y

module _ {P : Member → Type 0} (told : Told P) where
  -- KEYS ARE EQUAL EXACTLY WHEN THE LISTS ARE
  pub keys_once : (xs ys : List Member) → Each P xs → Each P ys → key_of xs ≡ key_of ys → xs ≡ ys
  unfolding key_of encode
  keys_once [] [] p q e = refl
  keys_once [] (y ∷ ys) p q e = let z : ◌≡◌ {A = ℕ} 0 1 = cc in absurd (omega arith)
  keys_once (x ∷ xs) [] p q e = let z : ◌≡◌ {A = ℕ} 0 1 = cc in absurd (omega arith)
  keys_once (x ∷ xs) (y ∷ ys) p q e =
      let r = prefix_code (told.holds p.0) (told.holds q.0) (key_of xs) (key_of ys)
      (ap (λ (l : List ℕ). l ++ key_of xs) (encode_held x) ∙ e ∙ ap (λ (l : List ℕ). l ++ key_of ys) (sym (encode_held y))) in
      let k : x.kind ≡ y.kind = sym (held_kind x) ∙ ap (λ (m : Member). m.kind) r.0 ∙ held_kind y in
      let h : x ≡ y = told.once p.0 q.0 k r.0 in
      let t : xs ≡ ys = keys_once xs ys p.1 q.1 r.1 in
      cc

-- ---- the record rules, and those of a text's members, are such rules
allowed_held : {m : Member} → Allowed m → held m ≡ m
allowed_held {m} (empty b l s t) = held_empty m b ∙ same_parts refl (sym l) (sym s) (sym t)
allowed_held {m} (plain b l h s t) = held_stored m (λ z. omega arith)
allowed_held {m} (literal b l h n t) = held_stored m (λ z. omega arith)

pub allowed_told : Told Allowed
allowed_told = record { holds = λ p. rw (allowed_held p) p; once = λ p q k e. sym (allowed_held p) ∙ e ∙ allowed_held q }

-- so a key is of one list only, among all lists that obey the record rules
pub allowed_once : (xs ys : List Member) → Each Allowed xs → Each Allowed ys → key_of xs ≡ key_of ys → xs ≡ ys
allowed_once = keys_once allowed_told

ruled_allowed : {m : Member} → Ruled m → Allowed (held m)
ruled_allowed {m} (mark b l s x) = rw (held_empty m b) (empty b refl refl refl)
ruled_allowed {m} (stored n a) = rw (held_stored m n) a

ruled_once : {x y : Member} → Ruled x → Ruled y → x.kind ≡ y.kind → held x ≡ held y → x ≡ y
ruled_once {x} {y} (mark b l s t) (mark b' l' s' t') k e =
    same_parts k (l ∙ ap (λ (n : ℕ). length (own_bytes n)) k ∙ sym l') (s ∙ sym s') (t ∙ ap own_bytes k ∙ sym t')
ruled_once {x} {y} (mark b l s t) (stored n a) k e = absurd (n (sym (ap body_length k) ∙ b))
ruled_once {x} {y} (stored n a) (mark b l s t) k e = absurd (n (ap body_length k ∙ b))
ruled_once {x} {y} (stored n a) (stored m b) k e = sym (held_stored x n) ∙ e ∙ held_stored y m

pub ruled_told : Told Ruled
ruled_told = record { holds = ruled_allowed; once = ruled_once }
