use native.Mathlib.Omega.{arith}
use mathlib.Core.Path.{refl}
use borrow.Author.Rules.{rules}
use Rattle.characters.proofs.Ascii.{ascii_on, ascii_halt}
use Rattle.characters.proofs.Text.{go_on, halt_skip, end_skip, decoded_fits, decoded_some}
use Rattle.lexer.proofs.cursor.Cursor.eat_while.Goals as goal

pub returns-then-not-test : goal.returns-then-not-test
returns-then-not-test g c p h = ascii_halt (c.loop-at.invariant p h) c.byte-b.ensures (omega arith) (omega arith) (h _ _ (omega arith) c.test.ensures) c.if-not-test.true

pub loop-at-preserved-then-b-lt128 : goal.loop-at-preserved-then-b-lt128
loop-at-preserved-then-b-lt128 g c p h = ascii_on (c.loop-at.invariant p h) c.byte-b.ensures (omega arith) (omega arith) (h _ _ (omega arith) c.test.ensures) (search rules) refl refl

pub returns-then-not-test-2 : goal.returns-then-not-test-2
returns-then-not-test-2 g c p h = halt_skip (c.loop-at.invariant p h) c.decode-d.ensures (omega arith) (h _ _ (search rules) c.test-else-b-lt128.ensures) c.if-not-test-2.true

pub overflow_add-at-else-b-lt128 : goal.overflow_add-at-else-b-lt128
overflow_add-at-else-b-lt128 g c = omega (arith, decoded_fits)

pub loop-at-smaller : goal.loop-at-smaller
loop-at-smaller g c = omega (arith, decoded_some)

pub loop-at-preserved : goal.loop-at-preserved
loop-at-preserved g c p h = go_on (c.loop-at.invariant p h) c.decode-d.ensures (omega arith) (h _ _ (search rules) c.test-else-b-lt128.ensures) (search rules) refl refl

pub returns : goal.returns
returns g c p h = end_skip (c.loop-at.invariant p h) (omega arith)
