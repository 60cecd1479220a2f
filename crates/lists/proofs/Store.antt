-- Values stored in parts, or only counted: to go on from here comes to the same.
-- Assumes nothing.
use Prim.Native.Nat.{ℕ, ◌+◌, ◌≤◌}
use native.Mathlib.Omega.{arith}
use native.Mathlib.Nat.{zero-add}
use mathlib.Core.Path.{◌≡◌, refl, ap, ◌∙◌}
use mathlib.Core.Bool.{Bool, cond}
use mathlib.Core.List.{List, [], ◌++◌}
use lib.ListN.{length, drop, length-append}
use lib.Seq.{sets, length-sets, sets-eq}
use Rattle.lists.specs.Steps.{PutIf}
use Rattle.lists.proofs.Bools.{by_test}
use Rattle.lists.proofs.Put.{sets_append}

module _ {A : Type 0} where
  -- all values are to be stored from place `base` on; they are up to place k, and `rest` is to come
  pub record StoringFrom (base : ℕ) (all : List A) (write : Bool) (out₀ rest : List A) (k : ℕ) (out : List A) : Type 0 where
    pub long : length out ≡ length out₀
    pub count : k + length rest ≡ base + length all
    pub same : cond write (sets out k rest) out ≡ cond write (sets out₀ base all) out₀

  -- from the front on
  abbrev pub Storing : List A → Bool → List A → List A → ℕ → List A → Type 0
  Storing all write out₀ rest k out = StoringFrom 0 all write out₀ rest k out

  pub storing_from : (base : ℕ) (all : List A) (write : Bool) (out : List A) → StoringFrom base all write out all base out
  storing_from base all write out = record { long = refl; count = refl; same = refl }

  pub storing_none : (all : List A) (write : Bool) (out : List A) → Storing all write out all 0 out
  storing_none = storing_from 0

  pub storing_on : {base : ℕ} {all out₀ vs rest out out' : List A} {write : Bool} {k k' : ℕ} → StoringFrom base all write out₀ (vs ++ rest) k out → PutIf write out k vs out' k' → StoringFrom base all write out₀ rest k' out'
  storing_on {base} {all} {out₀} {vs} {rest} {out} {out'} {write} {k} {k'} s p =
      by_test write
      (λ t.
      let e : out' ≡ sets out k vs = rw t at p.same in
      let g : sets out k (vs ++ rest) ≡ sets out₀ base all = rw t at s.same in
      record {
        long = ap length e ∙ length-sets out k vs ∙ s.long;
        count = omega (arith, s.count, length-append vs rest, p.next);
        same = rw (t, e, p.next) (sets_append vs rest out k ∙ g);
      })
      (λ t.
      let e : out' ≡ out = rw t at p.same in
      let g : out ≡ out₀ = rw t at s.same in
      record {
        long = ap length (e ∙ g);
        count = omega (arith, s.count, length-append vs rest, p.next);
        same = rw t (e ∙ g);
      })

  pub storing_put : {base : ℕ} {all out₀ out : List A} {write : Bool} {k : ℕ} → StoringFrom base all write out₀ [] k out → PutIf write out₀ base all out k
  storing_put {base} {all} {out₀} {out} {write} {k} s =
      record { next = omega (arith, s.count); same = by_test write (λ t. rw t (rw t at s.same)) (λ t. rw t (rw t at s.same)) }

  pub storing_end : {all out₀ out : List A} {write : Bool} {k : ℕ} → Storing all write out₀ [] k out → (k ≡ length all) × (out ≡ cond write (sets out₀ 0 all) out₀)
  storing_end s = let p = storing_put s in (omega (arith, p.next), p.same)

  -- all values stored from the front, and behind them what stood there
  pub stored_front : (all out : List A) {out' : List A} → out' ≡ sets out 0 all → length all ≤ length out → out' ≡ all ++ drop (length all) out
  stored_front all out e l = e ∙ sets-eq all out 0 (omega (arith, l)) ∙ (rw zero-add)
