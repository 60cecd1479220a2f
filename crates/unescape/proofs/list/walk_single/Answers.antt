use Rattle.unescape.proofs.Whole.{single_walked}
use Rattle.unescape.proofs.list.walk_single.Goals as goal

pub returns : goal.returns
returns c = single_walked _ c.unescape_char_or_byte-read.ensures c.put.ensures
