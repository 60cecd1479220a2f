use Rattle.parts.proofs.Calling.{accept_ready, deliver_stored}
use Rattle.parts.proofs.Call.deliver.Goals as goal

pub accept-requires : goal.accept-requires
accept-requires c = accept_ready c.requires c.in_ok-check_room.ensures c.pass-went.ensures

pub returns : goal.returns
returns c = deliver_stored _ _ _ _ _ c.in_ok-check_room.ensures _ _ c.pass-went.ensures c.accept.ensures
