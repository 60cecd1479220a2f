use Rattle.rows.proofs.Whole.{needed_room, needed_none, needed_other}
use Rattle.rows.proofs.needed.Goals as goal

pub returns-in-Ok : goal.returns-in-Ok
returns-in-Ok c = needed_none c.in-Ok.ensures

pub returns-in-RoomTooSmall : goal.returns-in-RoomTooSmall
returns-in-RoomTooSmall c = needed_room (rw c.in-RoomTooSmall.is at c.in-Err.ensures)

pub returns-in_default : goal.returns-in_default
returns-in_default c = needed_other _ c.in-Err.ensures c.in_default.not-RoomTooSmall
