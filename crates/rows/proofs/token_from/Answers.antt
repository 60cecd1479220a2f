use Rattle.rows.proofs.Whole.{record_cut}
use Rattle.rows.proofs.token_from.Goals as goal

pub returns : goal.returns
returns c = record_cut c.requires.0 c.requires.1 c.cut_run.ensures c.from.ensures
