use borrow.Author.Rules.{rules}
use Rattle.text.proofs.Checks.{cut_unknown, cut_known}
use Rattle.text.proofs.check_cut.Goals as goal

pub returns-then-profile-ge-PROFILES : goal.returns-then-profile-ge-PROFILES
returns-then-profile-ge-PROFILES c = search (rules, cut_unknown, cut_known)

pub returns : goal.returns
returns c = search (rules, cut_unknown, cut_known)
