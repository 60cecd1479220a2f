use native.Mathlib.Omega.{arith}
use mathlib.Core.Path.{ap}
use Rattle.text.specs.declared.Refusal.TheVariants.{RoomTooSmall}
use Rattle.parts.proofs.Calling.{room_enough, need_is}
use Rattle.parts.proofs.Call.check_room.Goals as goal

pub returns-then-self-room : goal.returns-then-self-room
returns-then-self-room c = room_enough c.requires c.if-self-room.true

pub returns-then-room-need : goal.returns-then-room-need
returns-then-room-need c =
    let n = need_is c.requires c.pass-went.ensures in
    (omega (arith, c.if-room-need.true, n), ap RoomTooSmall n)

pub returns : goal.returns
returns c = omega (arith, c.if-room-need.false, need_is c.requires c.pass-went.ensures)
