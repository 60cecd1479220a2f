use Rattle.parts.proofs.Checking.{scanned_none}
use Rattle.parts.proofs.Call.scan.Goals as goal

pub returns-then-self-eq0 : goal.returns-then-self-eq0
returns-then-self-eq0 c = scanned_none _ _ _ _ _ c.if-self-eq0.true c.scan_rest.ensures
