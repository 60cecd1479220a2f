use Prim.Native.Nat.{◌-◌}
use lib.ListN.{length}
use Rattle.lexer.specs.Unicode.{letters_in}
use Rattle.lexer.specs.Promises.{tokens_by}
use Rattle.same.proofs.Ahead.{Seeking}
use Rattle.same.proofs.walk.next_counted.Given as goal

abbrev pub invariant-loop-from : goal.invariant-loop-from
invariant-loop-from l = Seeking (tokens_by (letters_in l.letters) l.profile) l.text l.from l.start

abbrev pub decreases-loop-from : goal.decreases-loop-from
decreases-loop-from l = length l.text - l.start
