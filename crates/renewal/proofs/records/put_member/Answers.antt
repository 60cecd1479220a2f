use native.Mathlib.Omega.{arith}
use mathlib.Core.Path.{refl, sym}
use Rattle.renewal.proofs.Bodies.{body_some, body_no}
use Rattle.renewal.proofs.Writing.{entered_none, writable, entered_written, entered_sized, size_fits}
use Rattle.renewal.proofs.records.put_member.Goals as goal

pub returns-in_default : goal.returns-in_default
returns-in_default c = entered_none c.args.kind c.args.suffix c.args.text.now (sym (body_no c.args.kind c.in_default.ensures)) refl refl

pub put_record-requires : goal.put_record-requires
put_record-requires c =
    let b = body_some c.args.kind c.in-Some.ensures in writable c.args.kind c.args.suffix c.args.text.now b.0 b.1 c.requires c.if-write.true

pub returns-then-write : goal.returns-then-write
returns-then-write c =
    let b = body_some c.args.kind c.in-Some.ensures in
    entered_written c.args.kind c.args.suffix c.args.text.now b.0 b.1 c.if-write.true c.put_record.ensures

pub overflow_add-result : goal.overflow_add-result
overflow_add-result c =
    let b = body_some c.args.kind c.in-Some.ensures in omega (arith, size_fits _ _ b.0 b.1 c.record_size.ensures)

pub returns : goal.returns
returns c =
    let b = body_some c.args.kind c.in-Some.ensures in
    entered_sized c.args.kind c.args.suffix c.args.text.now b.0 b.1 c.if-write.false c.record_size.ensures refl refl
