use mathlib.Core.Path.{refl}
use native.Mathlib.Omega.{arith}
use lib.ListN.{length-set}
use Rattle.renewal.proofs.Writing.{put_few}
use Rattle.renewal.proofs.records.put_few.Goals as goal

pub bounds-key-k-2 : goal.bounds-key-k-2
bounds-key-k-2 c = simp length-set (omega arith)

pub bounds-key-k-3 : goal.bounds-key-k-3
bounds-key-k-3 c = simp length-set (omega arith)

pub returns : goal.returns
returns c = put_few c.args.part.now (omega arith) (omega arith) refl refl refl refl
