use mathlib.Core.Path.{refl}
use native.Mathlib.Omega.{arith}
use Rattle.renewal.proofs.Walking.{walking_none}
use Rattle.renewal.proofs.Keyable.{run_ready, run_on, run_less, run_done}
use borrow.Author.Rules.{rules}
use Rattle.renewal.proofs.walk.walk.Goals as goal

pub loop-at-init : goal.loop-at-init
loop-at-init c = search (rules, walking_none)

pub put_members-n-requires : goal.put_members-n-requires
put_members-n-requires c =
    run_ready c.loop-at.invariant.0 c.requires.short c.cut_run-r.ensures c.loop-at.invariant.1 refl

pub loop-at-smaller : goal.loop-at-smaller
loop-at-smaller c =
    omega (arith, run_less c.loop-at.invariant.0 c.requires.short c.cut_run-r.ensures c.loop-at-test.true)

pub loop-at-preserved : goal.loop-at-preserved
loop-at-preserved c = search (rules, run_on)

pub returns : goal.returns
returns c = search (rules, run_done)
