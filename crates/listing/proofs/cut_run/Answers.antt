use Rattle.listing.proofs.Whole.{run_none, run_some}
use borrow.Author.Rules.{rules}
use Rattle.listing.proofs.cut_run.Goals as goal

pub returns-then-text-gt-LONGEST : goal.returns-then-text-gt-LONGEST
returns-then-text-gt-LONGEST c = search (rules, run_none)

pub returns : goal.returns
returns c = search (rules, run_some)
