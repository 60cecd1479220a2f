use Prim.Native.Nat.{◌-◌}
use lib.ListN.{length}
use denote.Param.{number}
use Rattle.cutters.specs.Digits.{digit_by}
use Rattle.lexer.specs.Steps.{place_of}
use Rattle.lexer.specs.contracts.cursor.Cursor.eat_digits.{HEX-type}
use Rattle.lexer.proofs.Underscores.{Reading}
use Rattle.lexer.proofs.cursor.Cursor.eat_digits.Given as goal

abbrev pub invariant-loop-at : goal.invariant-loop-at
invariant-loop-at g l = let hex = HEX-type (number g.row.HEX) in Reading (digit_by hex) hex l.text l.initial.at l.initial.any (place_of l.initial.misplaced) l.at l.any (place_of l.misplaced)

abbrev pub decreases-loop-at : goal.decreases-loop-at
decreases-loop-at g l = length l.text - l.at
