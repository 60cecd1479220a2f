use mathlib.Core.Path.{refl}
use native.Mathlib.Omega.{arith}
use Rattle.listing.proofs.Whole.{stored_all, stored_counted}
use Rattle.listing.proofs.store.Goals as goal
use Rattle.listing.proofs.store.Goals.{then-room-text+else-room-n, else-room-text}

pub returns : goal.returns
returns c =
    elim c.if-room-text.branch [
      | then-room-text+else-room-n w ↦ stored_counted c.fill.ensures w.count-n.ensures (omega arith) refl refl
      | else-room-text w ↦ stored_all c.fill.ensures (omega arith) refl refl
    ]
