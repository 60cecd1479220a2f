use Rattle.unescape.proofs.Turns.{str_step, str_slash}
use Rattle.unescape.proofs.bodies.unescape_str_common.Goals as goal

pub returns-then-c-eq92 : goal.returns-then-c-eq92
returns-then-c-eq92 c = str_slash _ _ c.if-c-eq92.true c.slash.ensures

pub returns : goal.returns
returns c = str_step _ c.args.chars.now.within _ c.if-c-eq92.false c.str_char.ensures c.item.ensures
