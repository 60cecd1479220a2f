use mathlib.Core.Path.{◌≡◌, sym, ◌∙◌}
use Prim.Native.Nat.{◌+◌, ◌*◌}
use lib.ListN.{get_or}
use Rattle.characters.specs.Ranges.{◌to◌, in_range}
use native.Mathlib.Omega.{arith}
use Rattle.ucd.proofs.Search.{searched_by}
use borrow.Author.Rules.{rules}
use Rattle.ucd.proofs.ranges.search_first.Goals as goal

pub loop-p-smaller : goal.loop-p-smaller
loop-p-smaller c = omega (arith, c.narrow-p.ensures.1, c.loop-p-test.true)

pub returns : goal.returns
returns c =
    let t = c.args.table.now in
    let k = c.last_of-k.result in
    let e : c.contains.result ≡ in_range c.args.c (get_or t (2 * k) 0 to get_or t (2 * k + 1) 0) = search rules in
    e ∙ sym (searched_by t c.args.c c.requires c.if-p-eq0.false (c.last_of-k.ensures ∙ c.loop-p.invariant.same))
