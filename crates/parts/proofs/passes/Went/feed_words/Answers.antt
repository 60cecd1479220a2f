use native.Mathlib.Omega.{arith}
use Rattle.characters.proofs.Text.{decoded_fits, decoded_some}
use Rattle.parts.proofs.Passing.{feeding_none, feeding_ready, feeding_on, feeding_end}
use Rattle.parts.proofs.passes.Went.feed_words.Goals as goal

pub loop-at-init : goal.loop-at-init
loop-at-init c = feeding_none _ _ _ _ _ _ c.requires

pub feed-went-requires : goal.feed-went-requires
feed-went-requires c = feeding_ready _ _ c.loop-at.invariant c.decode-d.ensures c.loop-at-test.true

pub overflow_add-at : goal.overflow_add-at
overflow_add-at c = omega (arith, decoded_fits)

pub loop-at-smaller : goal.loop-at-smaller
loop-at-smaller c = omega (arith, decoded_some)

pub loop-at-preserved : goal.loop-at-preserved
loop-at-preserved c = feeding_on _ _ c.loop-at.invariant c.decode-d.ensures c.loop-at-test.true c.feed-went.ensures

pub returns : goal.returns
returns c = feeding_end _ _ c.loop-at.invariant c.loop-at-test.false
