use Rattle.parts.proofs.Passing.{head_ready, head_one, head_none}
use Rattle.parts.proofs.passes.Went.feed_head.Goals as goal

pub feed-requires : goal.feed-requires
feed-requires c = head_ready _ _ _ _ _ c.in-Some.is c.requires

pub returns-in-Some : goal.returns-in-Some
returns-in-Some c = head_one _ _ _ _ _ c.in-Some.is c.feed.ensures

pub returns-in-None : goal.returns-in-None
returns-in-None c = head_none _ _ _ _ _ c.in-None.is
