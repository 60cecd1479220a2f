use Rattle.parts.proofs.Turning.{last_busy}
use Rattle.parts.proofs.state.Point.last.Goals as goal

pub returns-in-Busy : goal.returns-in-Busy
returns-in-Busy c =
    last_busy _ _ _ c.in-Busy.token _ _ c.in-Busy.is c.decide_end.ensures c.end-record.ensures.words c.end-record.ensures.len c.turn.ensures
