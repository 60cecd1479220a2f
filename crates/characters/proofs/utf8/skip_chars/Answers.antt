use mathlib.Core.Path.{◌≡◌, refl, sym, ◌∙◌}
use mathlib.Core.Bool.{Bool}
use mathlib.Core.List.{List}
use Prim.Native.Nat.{ℕ, ◌+◌, ◌<◌}
use native.Mathlib.Omega.{arith}
use lib.ListN.{length, get_or}
use Rattle.characters.specs.Steps.{stops, Passed}
use Rattle.characters.proofs.Direction.{low_free}
use Rattle.characters.proofs.Reading.{decoded_ascii}
use Rattle.characters.proofs.Text.{decoded_fits, decoded_some}
use Rattle.characters.proofs.Walks.{passed_none, walk_on, walk_stop}
use borrow.Author.Rules.{rules}
use Rattle.characters.proofs.utf8.skip_chars.Goals as goal

walk_ascii : (barred : Bool) {s : List ℕ} {from at at' : ℕ} → Passed (stops barred) s from at → at < length s → get_or s at 0 < 0x80 → at' ≡ at + 1 → Passed (stops barred) s from at'
walk_ascii barred {s} {from} {at} p l h e =
    walk_on p (decoded_ascii s at {code = get_or s at 0} {wide = 1} l h refl refl) l (low_free barred (get_or s at 0) (omega arith)) e

pub loop-at-init : goal.loop-at-init
loop-at-init c = passed_none (search rules)

pub loop-at-preserved-then-text-at-lt128 : goal.loop-at-preserved-then-text-at-lt128
loop-at-preserved-then-text-at-lt128 c = walk_ascii _ c.loop-at.invariant (omega arith) (omega arith) refl

pub returns-then-is_stop : goal.returns-then-is_stop
returns-then-is_stop c =
    let d = c in
    let l = d in
    (l.loop-at.invariant, λ h. walk_stop _ d.decode_wide-c.ensures (omega arith) (sym c.is_stop.ensures ∙ c.if-is_stop.true))

pub overflow_add-at-else-text-at-lt128 : goal.overflow_add-at-else-text-at-lt128
overflow_add-at-else-text-at-lt128 c = omega (arith, decoded_fits)

pub loop-at-smaller : goal.loop-at-smaller
loop-at-smaller c = omega (arith, decoded_some)

pub loop-at-preserved : goal.loop-at-preserved
loop-at-preserved c =
    let d = c in
    let l = d in
    walk_on l.loop-at.invariant d.decode_wide-c.ensures (omega arith) (sym c.is_stop.ensures ∙ c.if-is_stop.false) refl

pub returns : goal.returns
returns c = (c.loop-at.invariant, λ h. absurd (omega arith))
