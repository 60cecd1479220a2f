use native.Mathlib.Omega.{arith}
use Rattle.same.proofs.Lines.{next_line, next_stays, next_low, next_high}
use Rattle.same.proofs.places.behind.Goals as goal
use Rattle.same.proofs.places.behind.Goals.{in_default-via-then-b-lt128, in_default-via-else-b-lt128+else-b-lt192}

pub returns-in-10 : goal.returns-in-10
returns-in-10 c = next_line _ _ _ (omega arith)

pub returns-in-128-to-191 : goal.returns-in-128-to-191
returns-in-128-to-191 c = next_stays _ _ _ (omega arith) (omega arith)

pub returns-in_default : goal.returns-in_default
returns-in_default c =
    elim c.in_default.branch [
      | in_default-via-then-b-lt128 w ↦ next_low _ _ _ (λ e. omega arith) (omega arith)
      | in_default-via-else-b-lt128+else-b-lt192 w ↦ next_high _ _ _ (omega arith)
    ]
