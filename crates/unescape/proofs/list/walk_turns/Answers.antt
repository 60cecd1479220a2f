use mathlib.Core.Path.{refl}
use native.Mathlib.Omega.{arith}
use Rattle.modes.specs.Numbers.{mode_number}
use Rattle.unescape.proofs.Turns.{turn_none, turn_view, turn_at}
use Rattle.unescape.proofs.Whole.{Half, walk_item, walk_no_item, walk_space, walk_no_space, walk_few, half_few, walk_room, half_room, walk_end}
use Rattle.unescape.proofs.list.walk_turns.Goals as goal
use Rattle.unescape.proofs.list.walk_turns.Goals.{in-Some-item, in_default-item}

pub put-n-requires : goal.put-n-requires
put-n-requires c =
    let i = c.loop-c.invariant in
    let w = i.walking in
    let v = turn_view i.same i.from c.next.ensures c.in-Some.is in
    let q = turn_at i.same i.from c.next.ensures c.in-Some.is _ c.turn-step.ensures in
    (omega (arith, walk_few w), omega (arith, w.within), omega (arith, q.place.within), walk_room _ _ v q w c.requires.1 c.in-Some-item.is)

pub put-n-requires-in-Some-space : goal.put-n-requires-in-Some-space
put-n-requires-in-Some-space c =
    let i = c.loop-c.invariant in
    let w = i.walking in
    let v = turn_view i.same i.from c.next.ensures c.in-Some.is in
    let q = turn_at i.same i.from c.next.ensures c.in-Some.is _ c.turn-step.ensures in
    let f : Half (mode_number c.args.mode) c.args.body.now c.args.list.now c.loop-c.start c.turn-step.result c.turn-step.new.chars.at c.match-step.n c.match-step.list = elim c.match-step.branch [
      | in-Some-item b ↦ rw (b.list-is, b.n-is) (walk_item _ _ v q w b.in-Some-item.is b.put-n.ensures)
      | in_default-item b ↦ rw (b.list-is, b.n-is) (walk_no_item _ _ v q w b.in_default-item.is)
    ] in
    let k = c.in-Some-space.is in
    let e = rw k at q.inside in
    (omega (arith, half_few f), omega (arith, w.within), omega (arith, e), half_room _ _ v q f c.requires.1 k)

pub loop-c-preserved-in-Some-space : goal.loop-c-preserved-in-Some-space
loop-c-preserved-in-Some-space c =
    let i = c.loop-c.invariant in
    let w = i.walking in
    let v = turn_view i.same i.from c.next.ensures c.in-Some.is in
    let q = turn_at i.same i.from c.next.ensures c.in-Some.is _ c.turn-step.ensures in
    let f : Half (mode_number c.args.mode) c.args.body.now c.args.list.now c.loop-c.start c.turn-step.result c.turn-step.new.chars.at c.match-step.n c.match-step.list = elim c.match-step.branch [
      | in-Some-item b ↦ rw (b.list-is, b.n-is) (walk_item _ _ v q w b.in-Some-item.is b.put-n.ensures)
      | in_default-item b ↦ rw (b.list-is, b.n-is) (walk_no_item _ _ v q w b.in_default-item.is)
    ] in
    record { same = q.same; from = refl; walking = walk_space _ _ v q f c.in-Some-space.is c.put-n-in-Some-space.ensures }

pub loop-c-preserved : goal.loop-c-preserved
loop-c-preserved c =
    let i = c.loop-c.invariant in
    let w = i.walking in
    let v = turn_view i.same i.from c.next.ensures c.in-Some.is in
    let q = turn_at i.same i.from c.next.ensures c.in-Some.is _ c.turn-step.ensures in
    let f : Half (mode_number c.args.mode) c.args.body.now c.args.list.now c.loop-c.start c.turn-step.result c.turn-step.new.chars.at c.match-step.n c.match-step.list = elim c.match-step.branch [
      | in-Some-item b ↦ rw (b.list-is, b.n-is) (walk_item _ _ v q w b.in-Some-item.is b.put-n.ensures)
      | in_default-item b ↦ rw (b.list-is, b.n-is) (walk_no_item _ _ v q w b.in_default-item.is)
    ] in
    record { same = q.same; from = refl; walking = walk_no_space _ _ v q f c.in_default-space.is }

pub returns : goal.returns
returns c =
    let i = c.loop-c.invariant in
    walk_end i.walking (turn_none i.same i.from c.next.ensures c.in_default.is)
