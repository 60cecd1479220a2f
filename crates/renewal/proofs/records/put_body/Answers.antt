use Rattle.renewal.proofs.Writing.{body_first, body_four, body_second, body_both}
use borrow.Author.Rules.{rules}
use Rattle.renewal.proofs.records.put_body.Goals as goal

pub put_word-a-requires : goal.put_word-a-requires
put_word-a-requires c = search (rules, body_first)

pub returns-then-body-eq4 : goal.returns-then-body-eq4
returns-then-body-eq4 c = search (rules, body_four)

pub put_word-requires : goal.put_word-requires
put_word-requires c = search (rules, body_second)

pub returns : goal.returns
returns c = search (rules, body_both)
