use Prim.Native.Nat.{◌-◌, ◌*◌}
use mathlib.Core.Path.{◌≡◌}
use lib.ListN.{length}
use Rattle.lexer.specs.Unicode.{letters_in}
use Rattle.lexer.specs.Promises.{tokens_by}
use Rattle.cutters.specs.Records.{record_words}
use Rattle.renewal.proofs.Walking.{Walking}
use Rattle.renewal.proofs.walk.walk.Given as goal

abbrev pub invariant-loop-at : goal.invariant-loop-at
invariant-loop-at l = (length l.list ≡ 64 * record_words) × Walking (tokens_by (letters_in l.letters) l.profile) l.text l.write l.initial.key l.at l.n l.key

abbrev pub decreases-loop-at : goal.decreases-loop-at
decreases-loop-at l = length l.text - l.at
