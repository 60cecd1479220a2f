-- One outcome of `unescape_literal` and `unescape_part`, and of `unescape_char` and `unescape_byte`.
-- Assumes nothing.
use Rattle.std.specs.Prelude.{◌≡◌, ℕ, List, Result, Ok, Err, IfOk}
use mathlib.Core.Path.{sym, ap, ◌∙◌}
use Rattle.text.specs.declared.Refusal.{Refusal}
use Rattle.text.specs.declared.Refusal.TheVariants.{UnknownSelector}
use Rattle.text.specs.Refusals.{refused}
use Rattle.text.proofs.Checks.{never_done}
use Rattle.text.proofs.OneResult.{given_one}
use Rattle.modes.specs.declared.errors.EscapeError.{EscapeError}
use Rattle.modes.specs.Errors.{Outcome}
use Rattle.modes.specs.Numbers.{outcome_of}
use Rattle.modes.proofs.Numbers.{outcome_one}
use Rattle.unescape.specs.Promises.{Unescaped, read_one}

-- one outcome: two calls with the same body, mode and list answer the same and leave the same
pub unescaped_unique : {s : List ℕ} {mode : ℕ} {list : List ℕ} {n a m b : ℕ} {l k : List ℕ} → Unescaped s mode list n a l → Unescaped s mode list m b k → (n ≡ m) × (a ≡ b) × (l ≡ k)
unescaped_unique p q =
    (p.answer.number_is ∙ sym q.answer.number_is, p.answer.also_is ∙ sym q.answer.also_is, p.words ∙ sym q.words)

-- what two refusals tell is the same only of one
abbrev error_in : Result ℕ Refusal → Refusal
error_in (Ok n) = UnknownSelector
error_in (Err r) = r

refused_one : (r q : Refusal) → refused r ≡ refused q → r ≡ q
refused_one r q e = ap error_in (given_one (Err r) (Err q) e)

-- one outcome of a single answer: two results of which the two clauses say the same are equal
pub single_unique : {is : ℕ × ℕ} (o : Outcome) (r q : Result (Result ℕ EscapeError) Refusal) → read_one r ≡ is → IfOk r (λ x. outcome_of x ≡ o) → read_one q ≡ is → IfOk q (λ x. outcome_of x ≡ o) → r ≡ q
single_unique o (Ok x) (Ok y) a b c d = ap Ok (outcome_one x y (b ∙ sym d))
single_unique o (Ok x) (Err f) a b c d = absurd (never_done f (ap (λ (p : ℕ × ℕ). p.0) (c ∙ sym a)))
single_unique o (Err e) (Ok y) a b c d = absurd (never_done e (ap (λ (p : ℕ × ℕ). p.0) (a ∙ sym c)))
single_unique o (Err e) (Err f) a b c d = ap Err (refused_one e f (a ∙ sym c))
