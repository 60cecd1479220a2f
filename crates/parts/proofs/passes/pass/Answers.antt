use Rattle.parts.proofs.Passing.{pass_head, pass_words, pass_on, pass_last, pass_end}
use Rattle.parts.proofs.passes.pass.Goals as goal

pub feed_head-behind-requires : goal.feed_head-behind-requires
feed_head-behind-requires c = pass_head _ _ _ _ _ _ _ _ c.requires

pub feed_words-went-requires : goal.feed_words-went-requires
feed_words-went-requires c = pass_words _ _ _ _ _ _ _ _ c.requires _ c.feed_head-behind.ensures

pub feed_end-requires : goal.feed_end-requires
feed_end-requires c = pass_last _ _ _ _ _ _ _ _ c.requires _ c.feed_head-behind.ensures _ c.feed_words-went.ensures c.if-ends.true

pub returns-then-ends : goal.returns-then-ends
returns-then-ends c = pass_end _ _ _ _ _ _ _ _ c.requires _ c.feed_head-behind.ensures _ c.feed_words-went.ensures _ c.if-ends.true c.feed_end.ensures

pub returns-else-ends : goal.returns-else-ends
returns-else-ends c = pass_on _ _ _ _ _ _ _ _ c.requires _ c.feed_head-behind.ensures _ c.feed_words-went.ensures c.if-ends.false
