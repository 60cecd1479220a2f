use borrow.Author.Rules.{rules}
use Rattle.text.proofs.Checks.{ways}
use Rattle.text.proofs.check_text.Goals as goal

pub returns-then-text-gt-LONGEST : goal.returns-then-text-gt-LONGEST
returns-then-text-gt-LONGEST c = search (rules, ways)

pub returns-then-good-text : goal.returns-then-good-text
returns-then-good-text c = search (rules, ways)

pub returns : goal.returns
returns c = search (rules, ways)
