use Rattle.same.proofs.Lines.{counting_none, counting_on}
use Rattle.same.proofs.places.place_of.Goals as goal

pub loop-b-init : goal.loop-b-init
loop-b-init c = counting_none _ _ c.min-end.ensures

pub loop-b-preserved : goal.loop-b-preserved
loop-b-preserved c = counting_on c.loop-b.invariant c.loop-b-test.true c.behind-place.ensures
