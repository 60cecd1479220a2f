use Rattle.parts.proofs.Passing.{put_none, put_room, put_counted, put_stored}
use mathlib.Core.Path.{◌∙◌}
use Rattle.parts.proofs.passes.put.Goals as goal
use Rattle.parts.proofs.passes.put.Goals.{then-write, else-write}

pub returns-in_default : goal.returns-in_default
returns-in_default c = put_none _ _ _ _ _ c.in_default.is

pub slice_bounds-copy_from_slice-end : goal.slice_bounds-copy_from_slice-end
slice_bounds-copy_from_slice-end c =
    let a = c.args in
    put_room a.list.now a.write a.k a.at a.given _ c.in-Some.is c.requires.1 c.if-write.true

pub returns : goal.returns
returns c =
    let a = c.args in
    elim c.if-write.branch [
      | then-write w ↦
          let room = put_room a.list.now a.write a.k a.at a.given _ c.in-Some.is c.requires.1 w.if-write.true in
          rw w.list-is (put_stored a.list.now a.write a.k a.at a.given _ c.in-Some.is w.if-write.true room (w.copy_from_slice.ensures.after ∙ w.words.ensures))
      | else-write w ↦ rw w.list-is (put_counted a.list.now a.write a.k a.at a.given _ c.in-Some.is w.if-write.false)
    ]
