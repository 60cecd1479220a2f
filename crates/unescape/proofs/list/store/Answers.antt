use native.Mathlib.Omega.{arith}
use Rattle.modes.specs.Numbers.{mode_number}
use Rattle.unescape.proofs.Whole.{room_enough, room_counted, stored_all, stored_twice}
use Rattle.unescape.proofs.list.store.Goals as goal

pub walk-requires : goal.walk-requires
walk-requires c =
    (c.requires, λ t. omega (arith, room_enough (mode_number c.args.mode) c.args.body.now c.args.list.now c.if-body-list.true))

pub returns-then-body-list : goal.returns-then-body-list
returns-then-body-list c = stored_all _ _ c.walk.ensures c.if-body-list.true

pub walk-requires-2 : goal.walk-requires-2
walk-requires-2 c = (c.requires, λ t. omega (arith, room_counted c.walk-need.ensures c.args.list.now c.if-list-need.false))

pub returns : goal.returns
returns c = stored_twice c.walk-need.ensures _ c.if-list-need.false c.walk-2.ensures
