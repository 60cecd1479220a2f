use Rattle.lexer.proofs.Bodies.{quoting}
use borrow.Author.Rules.{rules}
use Rattle.lexer.proofs.quotes.double_quoted_string.Goals as goal

pub loop-at-init : goal.loop-at-init
loop-at-init c = search (rules, quoting)

pub returns-then-c-eq34 : goal.returns-then-c-eq34
returns-then-c-eq34 c = search (rules, quoting)

pub loop-at-preserved-then-is_escape : goal.loop-at-preserved-then-is_escape
loop-at-preserved-then-is_escape c = search (rules, quoting)

pub loop-at-preserved : goal.loop-at-preserved
loop-at-preserved c = search (rules, quoting)

pub returns : goal.returns
returns c = search (rules, quoting)
