use Prim.Native.Nat.{◌*◌}
use mathlib.Core.Path.{◌≡◌}
use lib.ListN.{length, drop}
use Rattle.cutters.specs.Records.{record_words}
use Rattle.lexer.specs.Unicode.{letters_in}
use Rattle.listing.proofs.Whole.{Counting}
use Rattle.lexer.specs.Promises.{tokens_by}
use Rattle.listing.proofs.count.Given as goal

abbrev pub invariant-loop-at : goal.invariant-loop-at
invariant-loop-at l = (length l.list ≡ 64 * record_words) × Counting (letters_in l.letters) l.profile l.text l.at l.n

abbrev pub decreases-loop-at : goal.decreases-loop-at
decreases-loop-at l = length (tokens_by (letters_in l.letters) l.profile (drop l.at l.text))
