use borrow.Author.Rules.{rules}
use Rattle.text.proofs.Checks.{marked}
use Rattle.text.proofs.check_clean.Goals as goal

pub returns-then-text-gt-LONGEST : goal.returns-then-text-gt-LONGEST
returns-then-text-gt-LONGEST c = search (rules, marked)

pub returns-then-text-clean : goal.returns-then-text-clean
returns-then-text-clean c = search (rules, marked)

pub returns : goal.returns
returns c = search (rules, marked)
