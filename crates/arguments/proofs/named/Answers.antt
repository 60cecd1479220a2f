use Rattle.arguments.proofs.Asked.{named_long, named_one, named_other}
use borrow.Author.Rules.{rules}
use Rattle.arguments.proofs.named.Goals as goal

pub returns-in-48-clause-told : goal.returns-in-48-clause-told
returns-in-48-clause-told c = search (rules, named_one)

pub returns-in-49-clause-told : goal.returns-in-49-clause-told
returns-in-49-clause-told c = search (rules, named_one)

pub returns-in_default-clause-told : goal.returns-in_default-clause-told
returns-in_default-clause-told c = search (rules, named_long)

pub returns-in_default-2-clause-told : goal.returns-in_default-2-clause-told
returns-in_default-2-clause-told c = search (rules, named_other)

pub returns-in_default-3-clause-told : goal.returns-in_default-3-clause-told
returns-in_default-3-clause-told c = search (rules, named_long)
