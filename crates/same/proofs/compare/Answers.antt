use Rattle.listing.proofs.Whole.{cut_short}
use Rattle.same.proofs.Whole.{old_refused_is, new_refused_is, both_accepted}
use Rattle.same.proofs.compare.Goals as goal

pub returns-in-Err : goal.returns-in-Err
returns-in-Err c = old_refused_is _ _ _ _ c.in-Err.ensures

pub returns-in-Err-check_cut : goal.returns-in-Err-check_cut
returns-in-Err-check_cut c = new_refused_is _ _ _ _ c.in_default.ensures c.in-Err-check_cut.ensures

pub part-requires : goal.part-requires
part-requires c = (cut_short _ _ c.in_default.ensures, cut_short _ _ c.in_default-check_cut.ensures)

pub returns : goal.returns
returns c = both_accepted _ _ _ c.in_default.ensures c.in_default-check_cut.ensures c.unicode.ensures.letters c.part.ensures
