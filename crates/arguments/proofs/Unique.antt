-- One outcome of `profile_asked` and of `check_asked`: two results of which their clauses say the same are equal.
-- Assumes nothing.
use Rattle.std.specs.Prelude.{◌≡◌, ◌<◌, ℕ, refl, Option, Some, None, Result, Ok, Err, IfSome, IfOk}
use native.Mathlib.Omega.{arith}
use mathlib.Core.Path.{sym, ap, ◌∙◌}
use Rattle.text.specs.declared.Refusal.{Refusal}
use Rattle.text.specs.Refusals.{checked}
use Rattle.text.proofs.Checks.{never_done}
use Rattle.text.proofs.OneResult.{given_one}
use Rattle.arguments.specs.Arguments.{told}

pub profile_unique : {n : ℕ} (r q : Option ℕ) → told r ≡ n → IfSome r (λ p. p < 2) → told q ≡ n → IfSome q (λ p. p < 2) → r ≡ q
profile_unique (Some p) (Some t) a b c d = ap Some (a ∙ sym c)
profile_unique (Some p) None a b c d = absurd (omega (arith, a, b, c))
profile_unique None (Some t) a b c d = absurd (omega (arith, a, c, d))
profile_unique None None a b c d = refl

pub checked_unique : {is : ℕ × ℕ} (n : ℕ) (r q : Result ℕ Refusal) → checked r ≡ is → IfOk r (λ p. p ≡ n) → checked q ≡ is → IfOk q (λ p. p ≡ n) → r ≡ q
checked_unique n (Ok p) (Ok t) a b c d = ap Ok (b ∙ sym d)
checked_unique n (Ok p) (Err f) a b c d = absurd (never_done f (ap (λ (x : ℕ × ℕ). x.0) (c ∙ sym a)))
checked_unique n (Err e) (Ok t) a b c d = absurd (never_done e (ap (λ (x : ℕ × ℕ). x.0) (a ∙ sym c)))
checked_unique n (Err e) (Err f) a b c d = given_one (Err e) (Err f) (a ∙ sym c)
