use Prim.Native.Nat.{◌-◌}
use lib.ListN.{length}
use Rattle.lexer.specs.Unicode.{letters_in}
use Rattle.parts.proofs.Passing.{Feeding}
use Rattle.parts.proofs.passes.Went.feed_words.Given as goal

abbrev pub invariant-loop-at : goal.invariant-loop-at
invariant-loop-at l = Feeding (letters_in l.rules.letters) l.rules.profile l.text l.initial.went l.write l.initial.list l.at l.went l.list

abbrev pub decreases-loop-at : goal.decreases-loop-at
decreases-loop-at l = length l.text - l.at
