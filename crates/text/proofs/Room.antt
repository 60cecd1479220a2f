-- The room, once: what an entry answers and leaves whose list has room for all, or has not; and with the checks before it.
-- Assumes nothing.
use mathlib.Core.Path.{◌≡◌, sym, ◌∙◌}
use mathlib.Core.Bool.{true, false}
use mathlib.Core.List.{List}
use Prim.Native.Nat.{ℕ, ◌≤◌, ◌<◌}
use native.Mathlib.Omega.{arith}
use lib.Dec.{ltb, eqb}
use lib.ListN.{length}
use lib.Seq.{sets}
use borrow.Author.Tests.{ltb-false, lt-ltb, le-ltb, eqb-true, eqb-false, eq-eqb, ne_eqb}
use Rattle.lists.proofs.Bools.{by_test}
use Rattle.lists.proofs.Store.{stored_front}
use Rattle.text.specs.Answer.{Answered, done, room_too_small, check_room, ◌and_then◌}
use Rattle.text.specs.Steps.{Stored, Entered}

module _ {room need n : ℕ} {new list list' : List ℕ} {number also : ℕ} (c : n ≡ need) where
  -- there is room for all, and all are stored from the front on
  pub stored_all : n ≤ room → length new ≤ length list → list' ≡ sets list 0 new → number ≡ done → also ≡ n → Stored room need new list number also list'
  stored_all h l e k a =
      record { answer = rw (← c, le-ltb room n h) (record { number_is = k; also_is = a }); memory = rw k (stored_front new list e l) }

  -- there is too little, and nothing is stored
  pub stored_none : room < n → list' ≡ list → number ≡ room_too_small → also ≡ n → Stored room need new list number also list'
  stored_none h e k a =
      record { answer = rw (← c, lt-ltb room n h) (record { number_is = k; also_is = a }); memory = rw k e }

-- ---- with the checks before it
-- where it is done, the checks are passed, there is room for all, and the need is told
pub was_done : (check : ℕ × ℕ) (room need : ℕ) {number also : ℕ} → Answered (check and_then check_room room need) number also → number ≡ done → (check.0 ≡ done) × (need ≤ room) × (also ≡ need)
was_done check room need {number} a z =
    by_test (eqb check.0 done)
    (λ t. by_test (ltb room need)
    (λ b. let e : number ≡ room_too_small = rw (t, b) at a.number_is in absurd (omega (arith, e, z)))
    (λ b. (eqb-true _ _ t, ltb-false room need b, rw (t, b) at a.also_is)))
    (λ t. let e : number ≡ check.0 = rw t at a.number_is in absurd (eqb-false _ _ t (sym e ∙ z)))

module _ {check : ℕ × ℕ} {room need : ℕ} {new list list' : List ℕ} {number also : ℕ} where
  pub refused : Answered check number also → (number ≡ done → ⊥) → list' ≡ list → Entered check room need new list number also list'
  refused a n e =
      let h : eqb check.0 done ≡ false = ne_eqb _ _ (λ z. n (a.number_is ∙ z)) in
      record { answer = rw h a; memory = rw (h, h) e }

  pub passed : {n₀ a₀ : ℕ} → Answered check n₀ a₀ → n₀ ≡ done → Stored room need new list number also list' → Entered check room need new list number also list'
  passed c z r =
      let h : eqb check.0 done ≡ true = eq-eqb _ _ (sym c.number_is ∙ z) in
      record { answer = rw h r.answer; memory = rw (h, ← r.answer.number_is) r.memory }
