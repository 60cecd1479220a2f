-- ONE OUTCOME of a value that is looked for by its number: it has that number, or none has it and the refusal says so.
-- Assumes nothing.
use Rattle.std.specs.Prelude.{◌≡◌, ℕ, Bool, true, false, Result, Ok, Err, MatchResult}
use mathlib.Core.Path.{sym, ap, ◌∙◌}
use mathlib.Core.Bool.{false≢true}

module _ {A E : Type 0} (number : A → ℕ) (known : ℕ → Bool) (Told : E → Type 0) where
  abbrev pub IsNumbered : ℕ → Result A E → Type 0
  IsNumbered n r = MatchResult r (λ x. number x ≡ n) (λ e. Told e × (known n ≡ false))

  pub numbered_unique : ((x y : A) → number x ≡ number y → x ≡ y) → ((x : A) → known (number x) ≡ true) → ((e f : E) → Told e → Told f → e ≡ f) → (n : ℕ) (r q : Result A E) → IsNumbered n r → IsNumbered n q → r ≡ q
  numbered_unique one is_known same n (Ok x) (Ok y) a b = ap Ok (one x y (a ∙ sym b))
  numbered_unique one is_known same n (Ok x) (Err f) a b = absurd (false≢true (sym b.1 ∙ ap known (sym a) ∙ is_known x))
  numbered_unique one is_known same n (Err e) (Ok y) a b = absurd (false≢true (sym a.1 ∙ ap known (sym b) ∙ is_known y))
  numbered_unique one is_known same n (Err e) (Err f) a b = ap Err (same e f a.0 b.0)
