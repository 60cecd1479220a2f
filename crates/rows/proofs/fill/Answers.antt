use Prim.Native.Nat.{◌<◌}
use native.Mathlib.Numerals.{add-one}
use native.Mathlib.Omega.{arith}
use mathlib.Core.Path.{ap}
use lib.ListN.{length}
use Rattle.lexer.specs.Unicode.{letters_in}
use Rattle.lexer.specs.Promises.{tokens_by}
use Rattle.rows.proofs.Filling.{row_length, not_all, all_stored}
use Rattle.rows.proofs.fill.Goals as goal

pub bounds-row-n : goal.bounds-row-n
bounds-row-n c =
    let v = c.loop-at.invariant in
    let u = letters_in c.args.letters.now in
    let k = not_all u c.args.profile c.args.text.now c.args.row.now c.loop-at.n v.few (rw (← v.place) c.loop-at-test.true) in
    omega (arith, k, ap length v.stored, row_length u c.args.profile c.args.text.now c.args.row.now c.loop-at.n, c.requires.1)

pub loop-at-smaller : goal.loop-at-smaller
loop-at-smaller c =
    let v = c.loop-at.invariant in
    let u = letters_in c.args.letters.now in
    let k : c.loop-at.n < length (tokens_by u c.args.profile c.args.text.now) = not_all u c.args.profile c.args.text.now c.args.row.now c.loop-at.n v.few (rw (← v.place) c.loop-at-test.true) in
    omega arith

pub loop-at-preserved : goal.loop-at-preserved
loop-at-preserved c =
    let v = c.loop-at.invariant in
    let u = letters_in c.args.letters.now in
    let k : c.loop-at.n < length (tokens_by u c.args.profile c.args.text.now) = not_all u c.args.profile c.args.text.now c.args.row.now c.loop-at.n v.few (rw (← v.place) c.loop-at-test.true) in
    record {
      few = omega arith;
      place = rw (add-one, c.token_from-t.ensures, v.place);
      stored = rw (add-one, c.token_from-t.ensures, v.place, v.stored);
    }

pub returns : goal.returns
returns c =
    let v = c.loop-at.invariant in
    let u = letters_in c.args.letters.now in
    rw v.stored (all_stored u c.args.profile c.args.text.now c.args.row.now c.loop-at.n v.few (rw (← v.place) c.loop-at-test.false) c.requires.1)
