use mathlib.Core.Path.{sym, ◌∙◌}
use mathlib.Core.Bool.{false≢true}
use mathlib.Core.Logic.{inl, inr}
use Rattle.characters.proofs.Direction.{clear_low, clear_none}
use Rattle.characters.proofs.utf8.has_barred.Goals as goal

pub returns-then-most-ge244 : goal.returns-then-most-ge244
returns-then-most-ge244 c r b = clear_none c.args.text.now _ (c.has_mark.ensures r)

pub returns-else-most-ge244 : goal.returns-else-most-ge244
returns-else-most-ge244 c r b =
    elim c.if-most-ge244.either [
      | inl h ↦ clear_low c.args.text.now _ c.requires.1 h.1
      | inr h ↦ absurd (false≢true (sym h ∙ b))
    ]
