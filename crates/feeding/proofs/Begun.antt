-- A TEXT THAT GOES ON: its whole characters stay, and what is behind them is read with what follows.
-- Assumes nothing.
use Prim.Native.Nat.{ℕ, ◌+◌}
use mathlib.Core.Path.{◌≡◌, ap, sym, ◌∙◌}
use mathlib.Core.List.{List, [], ◌++◌, append_assoc, append-nil}
use lib.ListN.{length, take, drop, take-append-drop}
use lib.Seq.{length-take-le, take-append-add, drop-append-add, take-nil}
use Rattle.characters.specs.Utf8.{chars, valid_up_to, Encoded}
use Rattle.characters.proofs.Text.{chars_nil}
use Rattle.characters.proofs.Valid.{valid_encoded, read_back, longest_well_formed, well_formed_encoded, valid_within}
use Rattle.feeding.specs.Begun.{whole, beyond}

pub whole_long : (s : List ℕ) → length (whole s) ≡ valid_up_to s
whole_long s = length-take-le (valid_up_to s) s (valid_within s)

pub no_chars : chars (whole []) ≡ []
no_chars = ap chars (take-nil (valid_up_to [])) ∙ chars_nil

-- ---- behind the whole characters of s
module _ (s : List ℕ) where
  abbrev e : Encoded (whole s)
  e = well_formed_encoded (whole s) (longest_well_formed s)

  good_on : (r : List ℕ) → valid_up_to (whole s ++ r) ≡ length (whole s) + valid_up_to r
  good_on r = ap (λ (x : List ℕ). valid_up_to (x ++ r)) e.same ∙ valid_encoded e.of r e.scalars ∙ ap (λ (n : ℕ). n + valid_up_to r) (sym (ap length e.same))

  read_on : (r : List ℕ) → chars (whole s ++ r) ≡ e.of ++ chars r
  read_on r = ap (λ (x : List ℕ). chars (x ++ r)) e.same ∙ read_back e.of r e.scalars

  chars_on : (r : List ℕ) → chars (whole s ++ r) ≡ chars (whole s) ++ chars r
  chars_on r =
      let own : chars (whole s) ≡ e.of = ap chars (sym (append-nil (whole s))) ∙ read_on [] ∙ ap (λ (l : List ℕ). e.of ++ l) chars_nil ∙ append-nil e.of in
      read_on r ∙ ap (λ (l : List ℕ). l ++ chars r) (sym own)

-- ---- s, and then t
module _ (s t : List ℕ) where
  abbrev r : List ℕ
  r = beyond s ++ t

  parts_are : s ++ t ≡ whole s ++ r
  parts_are = ap (λ (x : List ℕ). x ++ t) (sym (take-append-drop (valid_up_to s) s)) ∙ append_assoc (whole s) (beyond s) t

  good_both : valid_up_to (s ++ t) ≡ length (whole s) + valid_up_to r
  good_both = ap valid_up_to parts_are ∙ good_on s r

  pub good_is : valid_up_to (s ++ t) ≡ valid_up_to s + valid_up_to r
  good_is = good_both ∙ ap (λ (k : ℕ). k + valid_up_to r) (whole_long s)

  pub whole_on : whole (s ++ t) ≡ whole s ++ whole r
  whole_on = ap (λ (k : ℕ). take k (s ++ t)) good_both ∙ ap (take (length (whole s) + valid_up_to r)) parts_are ∙ take-append-add (whole s) r (valid_up_to r)

  pub beyond_on : beyond (s ++ t) ≡ beyond r
  beyond_on = ap (λ (k : ℕ). drop k (s ++ t)) good_both ∙ ap (drop (length (whole s) + valid_up_to r)) parts_are ∙ drop-append-add (whole s) r (valid_up_to r)

  pub whole_chars : chars (whole (s ++ t)) ≡ chars (whole s) ++ chars (whole r)
  whole_chars = ap chars whole_on ∙ chars_on s (whole r)
