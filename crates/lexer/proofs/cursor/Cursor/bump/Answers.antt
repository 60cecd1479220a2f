use native.Mathlib.Omega.{arith}
use Rattle.characters.proofs.Text.{decoded_fits}
use Rattle.lexer.proofs.Steps.{bumped}
use borrow.Author.Rules.{rules}
use Rattle.lexer.proofs.cursor.Cursor.bump.Goals as goal

pub overflow_add-result : goal.overflow_add-result
overflow_add-result c = omega (arith, decoded_fits)

pub returns : goal.returns
returns c = bumped c.decode-d.ensures (search rules)
