-- The table of body lengths: what the rule says of each kind, and that the constant is the rule.
-- Assumes nothing.
use mathlib.Core.Path.{◌≡◌, refl, ap, sym, ◌∙◌}
use mathlib.Core.Bool.{Bool, true, false, cond, not, ◌&&◌, ◌||◌}
use Rattle.std.specs.Prelude.{Option, Some, None}
use mathlib.Core.List.{List}
use Prim.Native.Nat.{ℕ, zero, suc, ◌+◌, ◌≤◌, ◌<◌}
use native.Mathlib.Decide.{dec_lt, ℕ_discrete}
use native.Mathlib.Omega.{arith}
use lib.Dec.{T, eqb, leb, eqb→eq}
use lib.ListN.{get_or}
use borrow.Author.Tests.{le-leb, lt-leb, leb-true, ne_eqb, eqb-true, eqb-false}
use Rattle.lists.specs.Steps.{values_from}
use Rattle.lists.proofs.Bools.{by_test, both, or_true, on_cond}
use Rattle.characters.proofs.Rows.{every, each}
use Rattle.cutters.specs.Kinds.{is_plain, is_literal}
use Rattle.tokens.specs.Members.{is_counted}
use Rattle.renewal.specs.Key.{is_mark, is_text, no_body, body_length}
use Rattle.renewal.specs.Steps.{body_at}

-- ---- of every number
pub no_kind : (k : ℕ) → 62 ≤ k → body_length k ≡ no_body
unfolding body_length
no_kind k h =
    rw (le-leb 10 k (omega arith), lt-leb k 36 (omega arith), ne_eqb k 3 (λ e. omega arith), le-leb 5 k (omega arith), lt-leb k 9 (omega arith), ne_eqb k 24 (λ e. omega arith), ne_eqb k 37 (λ e. omega arith), le-leb 40 k (omega arith), lt-leb k 61 (omega arith))

-- a kind that stands in the key is one byte
pub kind_small : (k : ℕ) → (body_length k ≡ no_body → ⊥) → k < 62
kind_small k n = elim (dec_lt k 62) [ yes h ↦ h | no m ↦ absurd (n (no_kind k (omega arith))) ]

-- its body has none, four or eight bytes
pub body_eight : (k : ℕ) → (body_length k ≡ no_body → ⊥) → (body_length k ≡ 0 → ⊥) → (body_length k ≡ 4 → ⊥) → body_length k ≡ 8
unfolding body_length
body_eight k =
    let P : ℕ → Type 0 = λ n. (n ≡ no_body → ⊥) → (n ≡ 0 → ⊥) → (n ≡ 4 → ⊥) → n ≡ 8 in
    on_cond P (is_mark k) (λ n z f. absurd (z refl))
    (on_cond P (is_text k) (λ n z f. absurd (f refl)) (on_cond P (is_literal k) (λ n z f. refl) (λ n z f. absurd (n refl))))

pub body_most : (k : ℕ) → (body_length k ≡ no_body → ⊥) → body_length k ≤ 8
body_most k n =
    elim (ℕ_discrete (body_length k) 0) [
      | yes z ↦ omega arith
      | no z ↦ elim (ℕ_discrete (body_length k) 4) [ yes f ↦ omega arith | no f ↦ omega (arith, body_eight k n z f) ]
    ]

pub empty_mark : (k : ℕ) → body_length k ≡ 0 → is_mark k ≡ true
unfolding body_length
empty_mark k e =
    by_test (is_mark k) (λ h. h)
    (λ h. absurd (on_cond (λ (n : ℕ). n ≡ 0 → ⊥) (is_text k) (λ z. omega arith) (on_cond (λ (n : ℕ). n ≡ 0 → ⊥) (is_literal k) (λ z. omega arith) (λ z. omega arith)) (rw h at e)))

-- ---- of the kinds that are listed: a test computed at each
abbrev listed : ℕ → Bool
listed k = is_plain k || is_literal k

plain_small : (k : ℕ) → is_plain k ≡ true → k < 62
plain_small k h =
    let a = (both (leb k 37) (not (eqb k 20)) (both (leb 1 k) (leb k 37 && not (eqb k 20)) h).1).0 in
    omega (arith, leb-true k 37 a)

literal_small : (k : ℕ) → is_literal k ≡ true → k < 62
literal_small k h =
    let a = (both (leb k 61) (not (eqb k 45)) (both (leb 40 k) (leb k 61 && not (eqb k 45)) h).1).0 in
    omega (arith, leb-true k 61 a)

-- where a test passes at every number below 62 that p allows, it passes at each
by_kind : (p f : ℕ → Bool) → T (every (λ k. not (p k) || f k) 62) → (k : ℕ) → k < 62 → p k ≡ true → T (f k)
by_kind p f t k h e = let x : T (not (p k) || f k) = each (λ k. not (p k) || f k) 62 t k h in rw e at x

alike : (a b : Bool) → T (cond a b (not b)) → a ≡ b
alike true true t = refl
alike true false t = absurd t
alike false true t = absurd t
alike false false t = refl

-- the uncounted ones stand in no key, and the others do
pub known : (k : ℕ) → k < 62 → listed k ≡ true → eqb (body_length k) no_body ≡ not (is_counted k)
unfolding body_length is_counted
known k h e =
    alike (eqb (body_length k) no_body) (not (is_counted k))
    (by_kind listed (λ k. cond (eqb (body_length k) no_body) (not (is_counted k)) (not (not (is_counted k)))) tt k h e)

pub plain_known : (k : ℕ) → is_plain k ≡ true → eqb (body_length k) no_body ≡ not (is_counted k)
plain_known k h = known k (plain_small k h) (rw h)

pub literal_body : (k : ℕ) → is_literal k ≡ true → body_length k ≡ 8
unfolding body_length
literal_body k h = eqb→eq (body_length k) 8 (by_kind is_literal (λ k. eqb (body_length k) 8) tt k (literal_small k h) h)

pub literal_known : (k : ℕ) → is_literal k ≡ true → eqb (body_length k) no_body ≡ not (is_counted k)
literal_known k h = known k (literal_small k h) (rw h (or_true (is_plain k)))

-- a plain kind that counts has an empty body or one of four bytes
pub plain_body : (k : ℕ) → is_plain k ≡ true → is_counted k ≡ true → (body_length k ≡ 0 → ⊥) → body_length k ≡ 4
unfolding body_length is_counted
plain_body k h c z =
    eqb→eq (body_length k) 4
    (let t = by_kind (λ k. is_plain k && is_counted k) (λ k. eqb (body_length k) 0 || eqb (body_length k) 4) tt k (plain_small k h) (rw (h, c)) in rw (ne_eqb (body_length k) 0 z) at t)

-- ---- the table: what it has for a number is the rule's
bodies_at : (n k i : ℕ) (d : Option ℕ) → i < n → get_or (values_from body_at k n) i d ≡ body_at (k + i)
unfolding values_from
bodies_at zero k i d h = absurd (omega arith)
bodies_at (suc n) k zero d h = let e : k + 0 ≡ k = omega arith in rw e
bodies_at (suc n) k (suc i) d h = let e : k + suc i ≡ suc k + i = omega arith in rw e (bodies_at n (suc k) i d (omega arith))

pub body_read : (table : List (Option ℕ)) (k : ℕ) (d : Option ℕ) → table ≡ values_from body_at 0 62 → k < 62 → get_or table k d ≡ body_at k
body_read table k d e h =
    ap (λ (l : List (Option ℕ)). get_or l k d) e ∙ bodies_at 62 0 k d h ∙ (let z : 0 + k ≡ k = omega arith in rw z)

pub body_none : (k : ℕ) → 62 ≤ k → ◌≡◌ {A = Option ℕ} None (body_at k)
body_none k h = rw (no_kind k h)

-- what is in the key, and what is not
pub body_some : (kind : ℕ) {body : ℕ} → Some body ≡ body_at kind → (body ≡ body_length kind) × (body ≡ no_body → ⊥)
body_some kind {body} e =
    by_test (eqb (body_length kind) no_body)
    (λ t. let f : ◌≡◌ {A = Option ℕ} (Some body) None = rw t at e in absurd (cc))
    (λ t.
    let f : ◌≡◌ {A = Option ℕ} (Some body) (Some (body_length kind)) = rw t at e in
    let k : body ≡ body_length kind = cc in
    (k, λ z. eqb-false _ _ t (sym k ∙ z)))

pub body_no : (kind : ℕ) → ◌≡◌ {A = Option ℕ} None (body_at kind) → body_length kind ≡ no_body
body_no kind e =
    by_test (eqb (body_length kind) no_body)
    (λ t. eqb-true _ _ t)
    (λ t. let f : ◌≡◌ {A = Option ℕ} None (Some (body_length kind)) = rw t at e in absurd (cc))
