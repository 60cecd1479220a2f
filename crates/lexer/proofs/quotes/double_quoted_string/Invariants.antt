use Prim.Native.Nat.{◌-◌}
use lib.ListN.{length}
use Rattle.lexer.specs.Steps.{lines_number}
use Rattle.lexer.proofs.Bodies.{Quoting}
use Rattle.lexer.proofs.quotes.double_quoted_string.Given as goal

abbrev pub invariant-loop-at : goal.invariant-loop-at
invariant-loop-at l = Quoting l.text l.initial.at l.at l.body.plain (lines_number l.body.lines) l.body.twice l.body.prev

abbrev pub decreases-loop-at : goal.decreases-loop-at
decreases-loop-at l = length l.text - l.at
