use Rattle.std.proofs.lemmas.Result.{err_from_is_err_and}
use Rattle.listing.proofs.Whole.{cut_short, listed_refused, listed_done}
use Rattle.listing.proofs.tokenize.Goals as goal

pub returns-in_err-check_cut : goal.returns-in_err-check_cut
returns-in_err-check_cut c =
    let p = err_from_is_err_and c.from_residual.result c.from_residual.ensures.1 in
    rw (p.1, p.2) (listed_refused c.args.text.now c.args.list.now c.args.profile _ c.in_err-check_cut.ensures)

pub store-requires : goal.store-requires
store-requires c = cut_short _ _ c.in_ok-check_cut.ensures

pub returns : goal.returns
returns c = listed_done _ _ c.in_ok-check_cut.ensures c.unicode.ensures.letters c.store.ensures
