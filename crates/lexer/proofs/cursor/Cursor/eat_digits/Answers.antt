use borrow.Author.Rules.{rules}
use Rattle.lexer.proofs.Underscores.{reading}
use Rattle.lexer.proofs.cursor.Cursor.eat_digits.Goals.{then-b-eq95, else-b-eq95+then-is_digit_by}
use Rattle.lexer.proofs.cursor.Cursor.eat_digits.Goals as goal

pub loop-at-init : goal.loop-at-init
loop-at-init g c = search (rules, reading)

pub loop-at-preserved : goal.loop-at-preserved
loop-at-preserved g c = elim c.if-b-eq95.branch [ then-b-eq95 w ↦ search (rules, reading) | else-b-eq95+then-is_digit_by w ↦ search (rules, reading) ]

pub returns-after-loop-at : goal.returns-after-loop-at
returns-after-loop-at g c = search (rules, reading)

pub returns-else-is_digit_by : goal.returns-else-is_digit_by
returns-else-is_digit_by g c = search (rules, reading)
