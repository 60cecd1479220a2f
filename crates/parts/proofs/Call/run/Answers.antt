use Rattle.parts.proofs.Calling.{call_stored, call_refused}
use Rattle.parts.proofs.Call.run.Goals as goal

pub returns-in-Ok : goal.returns-in-Ok
returns-in-Ok c = call_stored _ _ _ _ _ _ _ _ c.in-Ok.ensures

pub returns-in-Err : goal.returns-in-Err
returns-in-Err c = call_refused _ _ _ _ _ _ _ _ _ c.in-Err.ensures c.refuse.ensures
