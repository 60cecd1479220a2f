-- The laws of `Put`: nothing stored, one value stored, one store after another, and two that overlap.
-- Assumes nothing.
use Prim.Native.Nat.{ℕ, suc, ◌+◌, ◌-◌, ◌*◌, ◌≤◌, ◌<◌}
use native.Mathlib.Omega.{arith}
use native.Mathlib.Nat.{add-zero}
use mathlib.Core.Path.{◌≡◌, refl, ap, sym, ◌∙◌}
use mathlib.Core.List.{List, [], ◌∷◌, ◌++◌}
use lib.ListN.{length, take, drop, set, length-set, length-append, length-take, length-drop, take-append-drop}
use lib.Seq.{sets, set-set, set_comm, take-add, length-take-le}
use Rattle.lists.specs.Steps.{Put}

module _ {A : Type 0} where
  pub sets_append : (a b out : List A) (k : ℕ) → sets (sets out k a) (k + length a) b ≡ sets out k (a ++ b)
  sets_append [] b out k = rw (add-zero k)
  sets_append (x ∷ a) b out k =
      let e : k + suc (length a) ≡ suc k + length a = omega arith in
      rw e (sets_append a b (set out k x) (suc k))

  pub put_none : (out : List A) (k : ℕ) → Put out k [] out k
  put_none out k = record { same = refl; next = omega arith; long = refl }

  pub put_one : {out out' : List A} {k r : ℕ} {v : A} → out' ≡ set out k v → r ≡ k + 1 → Put out k (v ∷ []) out' r
  put_one {out} {out'} {k} {r} {v} e h = record { same = e; next = h; long = ap length e ∙ length-set out k v }

  pub put_then : {out out₁ out₂ a b c : List A} {k k₁ r : ℕ} → Put out k a out₁ k₁ → Put out₁ k₁ b out₂ r → c ≡ a ++ b → Put out k c out₂ r
  put_then {out} {out₁} {out₂} {a} {b} {c} {k} {k₁} {r} p q e =
      record {
        same = rw (e, q.same, p.same, p.next) (sets_append a b out k);
        next = rw (e, length-append) (omega (arith, p.next, q.next));
        long = q.long ∙ p.long;
      }

  -- ---- stores over stores
  set_before : (b out : List A) (k j : ℕ) (v : A) → j < k → set (sets out k b) j v ≡ sets (set out j v) k b
  set_before [] out k j v h = refl
  set_before (x ∷ b) out k j v h =
      set_before b (set out k x) (suc k) j v (omega arith) ∙ ap (λ (l : List A). sets l (suc k) b) (set_comm out k j x v (λ e. omega arith))

  -- of two stores at one place the second one stays, where it is as long
  sets_over : (a b out : List A) (k : ℕ) → length a ≤ length b → sets (sets out k a) k b ≡ sets out k b
  sets_over [] b out k h = refl
  sets_over (x ∷ a) [] out k h = absurd (omega arith)
  sets_over (x ∷ a) (y ∷ b) out k h =
      ap (λ (l : List A). sets l (suc k) b) (set_before a (set out k x) (suc k) k y (omega arith) ∙ ap (λ (l : List A). sets l (suc k) a) (set-set out k x y))
      ∙ sets_over a b (set out k y) (suc k) (omega arith)

  -- the beginning and the end of a list, where the two meet or overlap, are the whole
  pub put_both : {out out₁ out₂ : List A} {k k₁ k₂ r : ℕ} (l : List A) (m : ℕ) → m ≤ length l → length l ≤ 2 * m → Put out k (take m l) out₁ k₁ → Put out₁ k₂ (drop (length l - m) l) out₂ r → k₂ ≡ k + (length l - m) → Put out k l out₂ r
  put_both {out} {out₁} {out₂} {k} {k₁} {k₂} {r} l m h g p q e =
      let n = length l - m in
      let a = take n l in
      let d = drop n l in
      let x = take (2 * m - length l) d in
      let sum : n + (2 * m - length l) ≡ m = omega arith in
      let front : take m l ≡ a ++ x = ap (λ (i : ℕ). take i l) (sym sum) ∙ take-add n (2 * m - length l) l in
      let la : length a ≡ n = length-take-le n l (omega arith) in
      let ld : length d ≡ m = length-drop n l ∙ omega arith in
      let lx : length x ≤ length d = omega (arith, length-take (2 * m - length l) d) in
      let at : k₂ ≡ k + length a = omega (arith, la) in
      let first : out₁ ≡ sets (sets out k a) (k + length a) x = p.same ∙ ap (sets out k) front ∙ sym (sets_append a x out k) in
      record {
        same = q.same ∙ rw (first, at) (sets_over x d (sets out k a) (k + length a) lx ∙ sets_append a d out k ∙ ap (sets out k) (take-append-drop n l));
        next = omega (arith, q.next, ld);
        long = q.long ∙ p.long;
      }
