use Rattle.renewal.proofs.Writing.{size_empty, size_stored}
use borrow.Author.Rules.{rules}
use Rattle.renewal.proofs.records.record_size.Goals as goal

pub returns-then-body-eq0 : goal.returns-then-body-eq0
returns-then-body-eq0 c = search (rules, size_empty)

pub returns : goal.returns
returns c = search (rules, size_stored)
