use native.Mathlib.Omega.{arith}
use Rattle.listing.proofs.Whole.{run_token}
use Rattle.same.proofs.Ahead.{seeking_none, seeking_stop, seeking_within, seeking_more, token_some}
use Rattle.same.proofs.walk.next_counted.Goals as goal

pub loop-from-init : goal.loop-from-init
loop-from-init c = seeking_none _ _ _ c.requires.0

pub returns-then-is_counted : goal.returns-then-is_counted
returns-then-is_counted c =
    seeking_stop c.loop-from.invariant c.requires.1 (run_token c.cut_run-end.ensures) c.is_counted.ensures c.if-is_counted.true

pub loop-from-smaller : goal.loop-from-smaller
loop-from-smaller c =
    let a = run_token c.cut_run-end.ensures in
    let h = seeking_within c.loop-from.invariant c.requires.1 a c.is_counted.ensures c.if-is_counted.false in
    omega (arith, h, token_some c.requires.1 h a)

pub loop-from-preserved : goal.loop-from-preserved
loop-from-preserved c =
    seeking_more c.loop-from.invariant c.requires.1 (run_token c.cut_run-end.ensures) c.is_counted.ensures c.if-is_counted.false
