use mathlib.Core.Path.{refl}
use native.Mathlib.Omega.{arith}
use Rattle.renewal.proofs.Writing.{put_some}
use Rattle.renewal.proofs.records.put_some.Goals as goal

pub returns : goal.returns
returns c =
    let last = c in
    let first = last in
    let args = first.args in
    put_some args.part.now args.i args.m (omega arith) (omega arith) (omega arith) refl first.put_four.ensures refl refl last.put_four-2.ensures
