use Rattle.arguments.proofs.Asked.{no_word, one_word, more_words}
use borrow.Author.Rules.{rules}
use Rattle.arguments.proofs.profile_asked.Goals as goal

pub returns-in-0-clause-told : goal.returns-in-0-clause-told
returns-in-0-clause-told c = search (rules, no_word)

pub returns-in-1-clause-told : goal.returns-in-1-clause-told
returns-in-1-clause-told c = search (rules, one_word)

pub returns-in_default-clause-told : goal.returns-in_default-clause-told
returns-in_default-clause-told c = search (rules, more_words)
