use native.Mathlib.Omega.{arith}
use mathlib.Core.Path.{◌∙◌}
use Rattle.lexer.specs.Unicode.{letters_in}
use Rattle.renewal.proofs.Whole.{room_enough, sized_fits, stored_all}
use Rattle.renewal.proofs.walk.store.Goals as goal
use Rattle.renewal.proofs.walk.store.Goals.{then-key-text+else-key-need, else-key-text}

pub walk-requires-clause-room : goal.walk-requires-clause-room
walk-requires-clause-room c t =
    elim c.if-key-text.branch [
      | then-key-text+else-key-need w ↦ omega (arith, c.if-key-text.auto.key, (sized_fits _ w.walk-need.ensures (omega arith)).1)
      | else-key-text w ↦ omega (arith, c.if-key-text.auto.key, room_enough (letters_in c.args.letters.now) c.args.profile c.args.text.now c.args.key.now (omega arith))
    ]

pub returns : goal.returns
returns c =
    elim c.if-key-text.branch [
      | then-key-text+else-key-need w ↦
          let p = sized_fits _ w.walk-need.ensures (omega arith) in stored_all _ (w.key-is ∙ p.0) p.1 c.walk.ensures
      | else-key-text w ↦
          stored_all _ w.key-is (room_enough (letters_in c.args.letters.now) c.args.profile c.args.text.now c.args.key.now (omega arith)) c.walk.ensures
    ]
