use Rattle.lists.specs.Steps.{values_from}
use Rattle.renewal.specs.Key.{body_length}
use Rattle.renewal.proofs.Bodies.{body_read, body_none}
use borrow.Author.Rules.{rules}
use Rattle.renewal.proofs.table.body_length.Goals as goal

pub returns-then-k-lt62 : goal.returns-then-k-lt62
unfolding values_from body_length
returns-then-k-lt62 c = search (rules, body_read)

pub returns-else-k-lt62 : goal.returns-else-k-lt62
returns-else-k-lt62 c = body_none c.args.kind c.if-k-lt62.false
