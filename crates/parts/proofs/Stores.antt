-- Values written to a part of a list, as the stores that the definitions speak of.
-- Assumes nothing.
use Prim.Native.Nat.{ℕ, ◌+◌, ◌-◌, ◌≤◌}
use native.Mathlib.Omega.{arith}
use mathlib.Core.Path.{◌≡◌, ap, sym, ◌∙◌}
use mathlib.Core.List.{List, ◌++◌, append_assoc}
use lib.ListN.{length, take, drop}
use lib.Seq.{sets, sets-eq, drop-drop}
use borrow.Rule.Slice.PartMut.{put_mid}

module _ (a e : ℕ) (xs ys : List ℕ) where
  pub written : e ≡ a + length ys → e ≤ length xs → put_mid a (e - a) xs ys ≡ sets xs a ys
  written h g =
      let k : a + (e - a) ≡ a + length ys = omega arith in
      sym (sets-eq ys xs a (omega arith) ∙ append_assoc (take a xs) ys (drop (a + length ys) xs) ∙ ap (λ (l : List ℕ). take a xs ++ (ys ++ l)) (ap (λ (n : ℕ). drop n xs) (sym k) ∙ sym (drop-drop (e - a) a xs)))
