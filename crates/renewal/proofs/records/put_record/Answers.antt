use mathlib.Core.Path.{refl}
use native.Mathlib.Omega.{arith}
use Rattle.renewal.proofs.Writing.{writable_kind, writable_byte, written_empty, writable_body, writable_texts, written_stored}
use borrow.Author.Rules.{rules}
use Rattle.renewal.proofs.records.put_record.Goals as goal

pub overflow_cast-kind : goal.overflow_cast-kind
overflow_cast-kind c = omega (arith, writable_kind c.requires)

pub put_byte-a-requires : goal.put_byte-a-requires
put_byte-a-requires c = search (rules, writable_byte)

pub returns-then-body-eq0 : goal.returns-then-body-eq0
returns-then-body-eq0 c = search (rules, written_empty)

pub put_body-b-requires : goal.put_body-b-requires
put_body-b-requires c = search (rules, writable_body)

pub put_texts-requires : goal.put_texts-requires
put_texts-requires c =
    let body = c in
    let some = body in
    let kind = some in
    writable_texts kind.requires kind.put_byte-a.ensures refl some.if-body-eq0.false body.put_body-b.ensures refl

pub returns : goal.returns
returns c = search (rules, written_stored)
