use Rattle.lexer.proofs.Digits.{suffixes}
use borrow.Author.Rules.{rules}
use Rattle.lexer.proofs.numbers.eat_literal_suffix.Goals as goal

pub returns-then-not-is_id_start : goal.returns-then-not-is_id_start
returns-then-not-is_id_start c = search (rules, suffixes)

pub returns : goal.returns
returns c = search (rules, suffixes)
