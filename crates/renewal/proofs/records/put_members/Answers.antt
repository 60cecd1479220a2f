use mathlib.Core.Path.{refl}
use native.Mathlib.Omega.{arith}
use Rattle.renewal.proofs.Entering.{entering_none, enter_within, enter_ready, enter_on, enter_end}
use borrow.Author.Rules.{rules}
use Rattle.renewal.proofs.records.put_members.Goals as goal

pub loop-i-init : goal.loop-i-init
loop-i-init c = search (rules, entering_none)

pub overflow_cast-end : goal.overflow_cast-end
overflow_cast-end c = omega (arith, enter_within c.requires c.loop-i.invariant c.loop-i-test.true refl)

pub overflow_add-end-in-loop-i : goal.overflow_add-end-in-loop-i
overflow_add-end-in-loop-i c = omega (arith, enter_within c.requires c.loop-i.invariant c.loop-i-test.true refl)

pub put_member-n-requires : goal.put_member-n-requires
put_member-n-requires c = search (rules, enter_ready)

pub loop-i-smaller : goal.loop-i-smaller
loop-i-smaller c = omega arith

pub loop-i-preserved : goal.loop-i-preserved
loop-i-preserved c = search (rules, enter_on)

pub returns : goal.returns
returns c = search (rules, enter_end)

pub slice_bounds-put_member-end : goal.slice_bounds-put_member-end
slice_bounds-put_member-end c = omega (arith, enter_within c.requires c.loop-i.invariant c.loop-i-test.true refl)
