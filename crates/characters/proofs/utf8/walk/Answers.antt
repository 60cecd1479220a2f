use Rattle.characters.proofs.Walks.{walked_all}
use Rattle.characters.proofs.utf8.walk.Goals as goal

pub returns : goal.returns
returns c = walked_all c.loop-at.invariant c.loop-at-test.false
