use Rattle.unescape.proofs.Whole.{single_room, turns_room, walked_single, walked_turns}
use Rattle.unescape.proofs.list.walk.Goals as goal

pub walk_single-requires : goal.walk_single-requires
walk_single-requires c = (c.requires.0, single_room _ _ _ c.is_single.ensures c.if-is_single.true c.requires.1)

pub returns-then-is_single : goal.returns-then-is_single
returns-then-is_single c = walked_single _ _ _ c.is_single.ensures c.if-is_single.true c.walk_single.ensures

pub walk_turns-requires : goal.walk_turns-requires
walk_turns-requires c = (c.requires.0, turns_room _ _ _ c.is_single.ensures c.if-is_single.false c.requires.1)

pub returns : goal.returns
returns c = walked_turns _ _ _ c.is_single.ensures c.if-is_single.false c.walk_turns.ensures
