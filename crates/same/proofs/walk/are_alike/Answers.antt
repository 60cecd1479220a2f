use mathlib.Core.Path.{sym, ◌∙◌}
use borrow.Author.Tests.{eqb-true, eqb-false}
use Rattle.same.proofs.Alike.{pointwise_same, alike_kind, alike_suff, alike_bytes}
use Rattle.same.proofs.walk.are_alike.Goals as goal
use Rattle.same.proofs.walk.are_alike.Goals.{then-p-q, else-p-q}

pub returns-then-p-q-2 : goal.returns-then-p-q-2
returns-then-p-q-2 c =
    elim c.if-p-q.branch [
      | then-p-q w ↦
          alike_bytes c.args.old.now c.args.new.now _ _ _ _ _ _ _ _ w.if-p-q.true (eqb-true _ _ (sym w.value-is ∙ c.if-p-q-2.true)) c.requires.old c.requires.new
          (c.eq.ensures ∙ pointwise_same _ _)
      | else-p-q w ↦ absurd (w.if-p-q.false (eqb-true _ _ (sym w.value-is ∙ c.if-p-q-2.true)))
    ]

pub returns-else-p-q-2 : goal.returns-else-p-q-2
returns-else-p-q-2 c =
    elim c.if-p-q.branch [
      | then-p-q w ↦ alike_suff _ _ (eqb-false _ _ (sym w.value-is ∙ c.if-p-q-2.false)) c.if-p-q-2.false
      | else-p-q w ↦ alike_kind _ _ w.if-p-q.false c.if-p-q-2.false
    ]
