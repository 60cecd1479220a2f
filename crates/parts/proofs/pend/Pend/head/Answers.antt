use Prim.Native.Nat.{◌+◌, ◌≤◌, ◌<◌}
use native.Mathlib.Omega.{arith}
use lib.ListN.{length}
use borrow.Author.Rules.{rules}
use Rattle.parts.specs.Coded.{pend_of}
use Rattle.parts.proofs.Pending.{heads}
use Rattle.parts.proofs.pend.Pend.head.Goals as goal

pub overflow_sub-result : goal.overflow_sub-result
overflow_sub-result c =
    let g : length (pend_of c.args.self) < c.decode_four-x.result.wide = search (rules, heads) in
    omega (arith, c.len.ensures)

pub returns-then-x-lt-NO_CHAR : goal.returns-then-x-lt-NO_CHAR
returns-then-x-lt-NO_CHAR c = search (rules, heads)

pub overflow_cast-result : goal.overflow_cast-result
overflow_cast-result c =
    let g : c.len-2.result + length c.args.chunk.now ≤ 3 = search (rules, heads) in
    omega arith

pub returns-then-is_begun : goal.returns-then-is_begun
returns-then-is_begun c = search (rules, heads)

pub returns : goal.returns
returns c = search (rules, heads)
