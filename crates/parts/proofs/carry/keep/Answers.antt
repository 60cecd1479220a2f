use Rattle.parts.proofs.Keeping.{there_is, from_on, some_kept, all_kept}
use Rattle.parts.proofs.carry.keep.Goals as goal

pub returns-then-there-old : goal.returns-then-there-old
returns-then-there-old c =
    let a = c.args in
    let t = there_is a.carry.now a.old a.last.packed a.last.kept c.min.ensures c.saturating_sub.ensures c.min-there.ensures in
    some_kept a.carry.now a.chunk.now a.old a.last.packed a.last.kept a.front a.back t c.move_down.ensures c.if-there-old.true

pub returns : goal.returns
returns c =
    let a = c.args in
    let t = there_is a.carry.now a.old a.last.packed a.last.kept c.min.ensures c.saturating_sub.ensures c.min-there.ensures in
    let b = rw (from_on a.chunk.now a.back _ c.min-2.ensures) at c.copy_in.ensures in
    all_kept a.carry.now a.chunk.now a.old a.last.packed a.last.kept a.front a.back t c.move_down.ensures c.if-there-old.false c.copy_in-n.ensures b
