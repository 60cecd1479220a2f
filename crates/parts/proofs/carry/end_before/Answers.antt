use Rattle.parts.proofs.Keeping.{ending_more, ending_stop, ending_end}
use Rattle.parts.proofs.carry.end_before.Goals as goal

pub loop-i-preserved : goal.loop-i-preserved
loop-i-preserved c = ending_more _ _ c.loop-i.invariant c.loop-i-test.true c.if-place-at.false

pub returns-then-place-at : goal.returns-then-place-at
returns-then-place-at c = ending_stop _ _ c.loop-i.invariant c.loop-i-test.true c.if-place-at.true

pub returns-after-loop-i : goal.returns-after-loop-i
returns-after-loop-i c = ending_end _ _ c.loop-i.invariant c.loop-i-test.false
