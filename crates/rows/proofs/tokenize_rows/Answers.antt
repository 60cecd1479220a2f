use Rattle.std.proofs.lemmas.Result.{err_from_is_err_and}
use Rattle.rows.proofs.Whole.{rowed_refused, judged_passed, rowed_done}
use Rattle.rows.proofs.tokenize_rows.Goals as goal

pub returns-in_err-judged : goal.returns-in_err-judged
returns-in_err-judged c =
    let p = err_from_is_err_and c.from_residual.result c.from_residual.ensures.1 in
    rw (p.1, p.2) (rowed_refused _ c.in_err-judged.ensures)

pub fill-requires : goal.fill-requires
fill-requires c = judged_passed _ _ _ c.in_ok-judged.ensures c.unicode.ensures.letters

pub returns : goal.returns
returns c = rowed_done _ _ _ c.in_ok-judged.ensures c.unicode.ensures.letters c.fill.ensures
