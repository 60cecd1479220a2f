use Prim.Native.Nat.{◌-◌}
use lib.ListN.{length}
use Rattle.lexer.specs.Unicode.{letters_in}
use Rattle.lexer.specs.Promises.{tokens_by}
use Rattle.same.proofs.Parting.{Parting}
use Rattle.same.proofs.walk.part.Given as goal

abbrev pub invariant-loop-p : goal.invariant-loop-p
invariant-loop-p l = Parting (tokens_by (letters_in l.letters) l.profile) l.old l.new l.a l.b l.agreed

abbrev pub decreases-loop-p : goal.decreases-loop-p
decreases-loop-p l = length l.old - l.a
