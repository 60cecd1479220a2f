-- A row by value, of which the first records are lent: what is left of it, and that there is one outcome.
-- Assumes nothing.
use Prim.Native.Nat.{ℕ, min}
use native.Mathlib.Omega.{arith}
use mathlib.Core.Path.{◌≡◌, sym, ◌∙◌}
use mathlib.Core.List.{List, ◌++◌}
use lib.Dec.{ltb}
use lib.ListN.{length, take, drop, take-append-drop, drop_of_length-le}
use lib.Seq.{length-take-le, take_all, take_at, drop_at}
use borrow.Table.Elements.{same_len}
use borrow.Author.Tests.{ltb-true, ltb-false}
use Rattle.lists.proofs.Bools.{by_test}
use Rattle.rows.specs.Rows.{Rowed, Bridged}
use Rattle.rows.specs.declared.Token.{Token}
use Rattle.rows.proofs.Flat.{rowed_unique}

-- two calls with the same parameters give the same
pub bridged_unique : {s : List ℕ} {profile records : ℕ} {row : List Token} {n a m b : ℕ} {l k : List Token} → Bridged s profile records row n a l → Bridged s profile records row m b k → (n ≡ m) × (a ≡ b) × (l ≡ k)
bridged_unique {records = records} {l = l} {k} p q =
    let u = rowed_unique p.lent q.lent in
    let e : take records l ++ drop records l ≡ take records k ++ drop records k = rw (u.2, p.others, q.others) in
    (u.0, u.1, sym (take-append-drop records l) ∙ e ∙ take-append-drop records k)

-- ---- of 64 records no more than 64 are lent
module _ (records : ℕ) (xs : List Token) (h : length xs ≡ 64) where
  capped : (take records xs ≡ take (min 64 records) xs) × (drop records xs ≡ drop (min 64 records) xs)
  capped =
      by_test (ltb records 64)
      (λ t. let e : min 64 records ≡ records = omega (arith, ltb-true records 64 t) in (rw e, rw e))
      (λ t.
      let l = ltb-false records 64 t in
      let e : min 64 records ≡ 64 = omega (arith, l) in (
        take_all records xs (omega (arith, h, l)) ∙ sym (take_all (min 64 records) xs (omega (arith, h, e))),
        drop_of_length-le xs {i = records} (omega (arith, h, l)) ∙ sym (drop_of_length-le xs {i = min 64 records} (omega (arith, h, e))),
      ))

  pub lent_length : {n : ℕ} → n ≡ min 64 records → length (take n xs) ≡ n
  lent_length {n} e = length-take-le n xs (omega (arith, h, e))

pub cut_length : (n : ℕ) (row l : List Token) → length row ≡ 64 → length l ≡ length (take n row) → length (l ++ drop n row) ≡ 64
cut_length n row l h e = same_len n row l e ∙ h

pub bridged : {s : List ℕ} {profile n number also : ℕ} (records : ℕ) (row l : List Token) → length row ≡ 64 → n ≡ min 64 records → Rowed s profile (take n row) number also l → length l ≡ length (take n row) →
    Bridged s profile records row number also (l ++ drop n row)
bridged {s} {profile} {n} {number} {also} records row l h e r k =
    let long : length l ≡ n = k ∙ lent_length records row h e in
    let c = capped records row h in
    let d = capped records (l ++ drop n row) (cut_length n row l h k) in
    let t : take records (l ++ drop n row) ≡ l = d.0 ∙ rw (← e) (take_at l (drop n row) n long) in
    let u : drop records (l ++ drop n row) ≡ drop n row = d.1 ∙ rw (← e) (drop_at l (drop n row) n long) in
    let v : take records row ≡ take n row = c.0 ∙ rw e in
    record { lent = rw (t, v) r; others = u ∙ sym (c.1 ∙ rw e) }
