use mathlib.Core.Path.{◌≡◌}
use native.Mathlib.Omega.{arith}
use Rattle.ucd.proofs.Search.{searching_none, searching_on, searching_fits, searching_end, half_of}
use Rattle.ucd.proofs.ranges.last_of.Goals as goal

pub loop-step-init : goal.loop-step-init
loop-step-init c = (searching_none c.args.table.now c.args.c _ _ c.requires.0 c.requires.2, c.requires.1)

pub narrow-p-requires : goal.narrow-p-requires
narrow-p-requires c = searching_fits c.loop-step.invariant.0

pub loop-step-preserved : goal.loop-step-preserved
loop-step-preserved c =
    (searching_on c.loop-step.invariant.0 c.narrow-p.ensures, half_of c.loop-step._step c.loop-step-test.true c.loop-step.invariant.1 c.narrow-p.ensures.1)

pub returns : goal.returns
returns c =
    let e : c.loop-step._step ≡ 5 = omega arith in
    searching_end c.loop-step.invariant.0 (rw e at c.loop-step.invariant.1)
