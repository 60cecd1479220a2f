use Rattle.letters.proofs.Chars.{low_spaces}
use Rattle.letters.proofs.is_low_space.Goals as goal

pub returns : goal.returns
returns c = low_spaces _ c.requires
