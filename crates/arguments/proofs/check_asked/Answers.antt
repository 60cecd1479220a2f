use Rattle.std.proofs.lemmas.Result.{err_from_is_err_and}
use Rattle.arguments.proofs.Asked.{asked_checked}
use borrow.Author.Rules.{rules}
use Rattle.arguments.proofs.check_asked.Goals as goal

pub returns-in_err-check_cut-clause-checked : goal.returns-in_err-check_cut-clause-checked
returns-in_err-check_cut-clause-checked c =
    let p = err_from_is_err_and c.from_residual-in_err-check_cut.result c.from_residual-in_err-check_cut.ensures.1 in
    rw (p.1, p.2) (search (rules, asked_checked))

pub returns-clause-checked : goal.returns-clause-checked
returns-clause-checked c = search (rules, asked_checked)
