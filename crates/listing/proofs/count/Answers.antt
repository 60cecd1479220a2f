use native.Mathlib.Omega.{arith}
use Rattle.listing.proofs.Whole.{counting_none, count_add, count_on, count_less, count_end}
use borrow.Author.Rules.{rules}
use Rattle.listing.proofs.count.Goals as goal

pub loop-at-init : goal.loop-at-init
loop-at-init c = search (rules, counting_none)

pub overflow_add-n : goal.overflow_add-n
overflow_add-n c = omega (arith, count_add c.loop-at.invariant.1 c.fill-r.ensures)

pub loop-at-smaller : goal.loop-at-smaller
loop-at-smaller c = search (rules, count_less)

pub loop-at-preserved : goal.loop-at-preserved
loop-at-preserved c = search (rules, count_on)

pub returns : goal.returns
returns c = search (rules, count_end)
