use Rattle.std.proofs.lemmas.Result.{err_from_is_err_and}
use Rattle.parts.proofs.Calling.{check_ready, attempt_refused, attempt_short, attempt_stored}
use Rattle.parts.proofs.Call.attempt.Goals as goal

pub returns-in_err-scan : goal.returns-in_err-scan
returns-in_err-scan c =
    let a = c.args in
    let p = err_from_is_err_and c.from_residual.result c.from_residual.ensures.1 in
    rw (p.1, p.2) (attempt_refused a.self.lexer a.self.last a.self.chunk.now a.carry.now a.list.now _ c.in_err-scan.ensures)

pub deliver-requires : goal.deliver-requires
deliver-requires c = check_ready _ _ _ _ c.in_ok-scan.ensures

pub returns-in_err-deliver : goal.returns-in_err-deliver
returns-in_err-deliver c =
    let a = c.args in
    let p = err_from_is_err_and c.from_residual-in_err-deliver.result c.from_residual-in_err-deliver.ensures.1 in
    rw (p.1, p.2) (attempt_short a.self.lexer a.self.last a.self.chunk.now a.carry.now a.list.now _ c.in_ok-scan.ensures _ _ _ c.in_err-deliver.ensures)

pub returns : goal.returns
returns c = attempt_stored _ _ _ _ _ _ c.in_ok-scan.ensures _ _ _ c.in_ok-deliver.ensures
