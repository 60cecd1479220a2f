use native.Mathlib.Omega.{arith}
use Rattle.std.proofs.lemmas.Result.{err_from_is_err_and}
use Rattle.rows.proofs.Whole.{judged_roomy, judged_refused, judged_short, judged_done}
use Rattle.rows.proofs.judged.Goals as goal

pub returns-then-text-room : goal.returns-then-text-room
returns-then-text-room c = judged_roomy _ c.if-text-room.true c.check_cut.ensures

pub returns-in_err-need : goal.returns-in_err-need
returns-in_err-need c =
    let p = err_from_is_err_and c.from_residual.result c.from_residual.ensures.1 in
    rw (p.1, p.2) (judged_refused _ c.in_err-need.ensures)

pub returns-then-room-need : goal.returns-then-room-need
returns-then-room-need c = judged_short _ _ _ c.in_ok-need.ensures (omega arith)

pub returns : goal.returns
returns c = judged_done _ _ _ c.in_ok-need.ensures (omega arith)
