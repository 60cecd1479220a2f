-- THE VALUES AND WHAT THEY MEAN: the value that a call hands back means the lexer that the definitions have behind that call, so that what is proved of lexers
-- and their histories is proved of the values that a caller holds.
-- Assumes nothing.
use Prim.Native.Nat.{ℕ, ◌≤◌}
use mathlib.Core.Path.{◌≡◌, refl}
use mathlib.Core.Bool.{Bool, true, false, ◌||◌}
use mathlib.Core.List.{List, [], ◌∷◌}
use native.Mathlib.Omega.{arith}
use lib.Dec.{eqb}
use lib.ListN.{length}
use Rattle.lists.proofs.Bools.{by_test}
use borrow.Author.Tests.{eqb-true}
use Rattle.text.specs.Answer.{done, too_long, not_utf8, direction_mark}
use Rattle.feeding.specs.Fed as F
use Rattle.feeding.specs.Lexer as L
use Rattle.feeding.specs.Call.{answer, accepted, next_lexer}
use Rattle.feeding.proofs.Refusals.{passed, accepts}
use Rattle.feeding.proofs.Running.{Fit, from_running, runs_short, running_started, running_kept}
use Rattle.phases.specs.Codec.{flag, flag_number}
use Rattle.phases.proofs.Coding.{code_back}
use Rattle.parts.specs.Coded.{meaning, packed, machine_of, packed_machine, pend_of, packed_pend}
use Rattle.parts.specs.Promises.{next_of, start_of}
use Rattle.parts.specs.declared.Lexer as D

flag_back : (b : Bool) → flag (flag_number b) ≡ b
flag_back true = refl
flag_back false = refl

machine_back : (s : F.State) → Fit s → machine_of (packed_machine s) ≡ s
machine_back F.idle f = refl
machine_back (F.busy q n m o) f = rw (code_back q f.0, flag_back o.hex, flag_back o.shut)
machine_back (F.held q n m o x) f = rw (code_back q f.0, flag_back o.hex, flag_back o.shut)

pend_back : (s : List ℕ) → length s ≤ 3 → pend_of (packed_pend s) ≡ s
pend_back [] h = refl
pend_back (a ∷ []) h = refl
pend_back (a ∷ b ∷ []) h = refl
pend_back (a ∷ b ∷ c ∷ []) h = refl
pend_back (a ∷ b ∷ c ∷ d ∷ s) h = absurd (omega arith)

-- a lexer that runs comes back from its integers
pub back : (x : L.Lexer) → L.running x ≡ true → meaning (packed x) ≡ x
back x h =
    let r = from_running x h in
    rw (flag_back x.over, machine_back x.state r.fit, pend_back x.pend (runs_short r))

-- THE NEXT VALUE MEANS THE NEXT LEXER, whatever value was handed in
pub next_means : (x : D.Lexer) (last : Bool) (chunk carry : List ℕ) (room : ℕ) → meaning (next_of x last chunk carry room) ≡ next_lexer (meaning x) last chunk carry room
unfolding next_of next_lexer
next_means x last chunk carry room =
    let n = (answer (meaning x) last chunk room).0 in
    by_test (eqb n done)
    (λ e. rw e (back (accepted (meaning x) last chunk carry) (taken e)))
    (λ e. rw e (by_test (eqb n too_long || (eqb n not_utf8 || eqb n direction_mark)) (λ f. rw f) (λ f. rw f)))
  where
    taken : eqb (answer (meaning x) last chunk room).0 done ≡ true → L.running (accepted (meaning x) last chunk carry) ≡ true
    taken e =
        let a = eqb-true (answer (meaning x) last chunk room).0 done e in
        rw (accepts (meaning x) last chunk carry room a) at (running_kept (meaning x) last chunk carry room (passed (meaning x) last chunk room a).runs)

pub start_means : (p : ℕ) → meaning (start_of p) ≡ L.started p
start_means p = back (L.started p) (running_started p)
