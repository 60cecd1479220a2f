use native.Mathlib.Omega.{arith}
use Rattle.std.proofs.lemmas.Result.{err_from_is_err_and}
use Rattle.arguments.proofs.Listing.{asked_refused, asked_long, asked_listed}
use Rattle.arguments.proofs.list_asked.Goals as goal

pub returns-in_err-profile : goal.returns-in_err-profile
returns-in_err-profile c =
    let p = err_from_is_err_and c.from_residual.result c.from_residual.ensures.1 in
    rw (p.1, p.2) (asked_refused _ _ _ _ _ c.in_err-profile.ensures.checked)

pub returns-then-text-gt-MOST : goal.returns-then-text-gt-MOST
returns-then-text-gt-MOST c = asked_long _ _ _ _ c.in_ok-profile.ensures.checked (omega arith)

pub returns : goal.returns
returns c = asked_listed _ _ _ _ c.in_ok-profile.ensures.checked (omega arith) c.in_ok-profile.ensures.profile c.tokenize.ensures
