use native.Mathlib.Omega.{arith}
use borrow.Author.Tests.{ne_eqb}
use Rattle.tokens.specs.Members.{is_counted}
use Rattle.same.proofs.walk.is_counted.Goals as goal

pub returns-in-1 : goal.returns-in-1
unfolding is_counted
returns-in-1 c = rw c.in-1.is

pub returns-in-2 : goal.returns-in-2
unfolding is_counted
returns-in-2 c = rw c.in-2.is

pub returns-in-4 : goal.returns-in-4
unfolding is_counted
returns-in-4 c = rw c.in-4.is

pub returns-in_default : goal.returns-in_default
unfolding is_counted
returns-in_default c =
    let k = c.args.kind in
    simp (ne_eqb k 4 (λ e. omega arith), ne_eqb k 2 (λ e. omega arith), ne_eqb k 1 (λ e. omega arith))
