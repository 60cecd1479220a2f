use Rattle.renewal.proofs.Writing.{put_word}
use mathlib.Core.Path.{◌∙◌}
use Rattle.renewal.proofs.records.put_word.Goals as goal

pub returns : goal.returns
returns c = put_word c.args.n (c.copy_from_slice.ensures.after ∙ c.to_le_bytes.ensures) c.requires
