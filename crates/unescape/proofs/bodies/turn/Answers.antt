use Rattle.unescape.proofs.Turns.{raw_step, turn_raw, turn_str}
use Rattle.unescape.proofs.bodies.turn.Goals as goal

pub returns-then-is_raw : goal.returns-then-is_raw
returns-then-is_raw c =
    turn_raw _ _ c.is_raw.ensures c.if-is_raw.true (raw_step _ c.args.chars.now.within _ c.unescape_raw_str_or_raw_byte_str.ensures c.item.ensures)

pub returns : goal.returns
returns c = turn_str _ _ c.is_raw.ensures c.if-is_raw.false c.unescape_str_common.ensures
