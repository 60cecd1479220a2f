use borrow.Author.Rules.{rules}
use Rattle.lexer.proofs.cursor.Cursor.eat_whitespace.Goals as goal

pub returns : goal.returns
returns c = c.eat_while.ensures _ (λ x r h e. search rules)
