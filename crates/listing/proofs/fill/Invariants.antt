use Prim.Native.Nat.{◌-◌}
use Rattle.lexer.specs.Unicode.{letters_in}
use Rattle.listing.proofs.Whole.{Filling}
use Rattle.listing.proofs.fill.Given as goal

abbrev pub invariant-loop-k : goal.invariant-loop-k
invariant-loop-k l = Filling (letters_in l.letters) l.profile l.text l.from l.initial.list l.full l.at l.k l.list

abbrev pub decreases-loop-k : goal.decreases-loop-k
decreases-loop-k l = l.full - l.k
