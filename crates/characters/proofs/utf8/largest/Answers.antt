use Rattle.std.proofs.Common.{arith}
use native.Mathlib.Decide.{ℕ_discrete}
use Rattle.std.proofs.lemmas.Grind.{common_steps}
use Rattle.characters.proofs.utf8.largest.Goals as goal

pub loop-k-preserved : goal.loop-k-preserved
loop-k-preserved g c =
    λ k h.
    elim (ℕ_discrete k c.loop-k.k) [
      | yes e ↦ (c.count.result, rw e c.count.ensures, grind (arith, common_steps))
      | no n ↦ let w = c.loop-k.invariant k (omega arith) in (w.0, w.1, grind (arith, common_steps, w.2))
    ]

pub returns : goal.returns
returns g c = λ k h. c.loop-k.invariant k (omega arith)
