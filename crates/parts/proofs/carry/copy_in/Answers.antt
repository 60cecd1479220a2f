use native.Mathlib.Omega.{arith}
use mathlib.Core.Path.{◌≡◌}
use Prim.Native.Nat.{◌+◌}
use Rattle.parts.proofs.Moving.{copying_none, copying_more}
use borrow.Author.Rules.{rules}
use Rattle.parts.proofs.carry.copy_in.Goals as goal

pub loop-i-init : goal.loop-i-init
loop-i-init c = search (rules, copying_none)

pub loop-i-preserved : goal.loop-i-preserved
loop-i-preserved c =
    let y : c.args.k + (c.loop-i.i + 1) ≡ (c.args.k + c.loop-i.i) + 1 = omega arith in
    rw y (copying_more c.loop-i.invariant c.loop-i-test.true (omega (arith, c.loop-i.invariant.long, c.min-n.ensures, c.loop-i-test.true, c.requires)))
