use mathlib.Core.Path.{sym, ◌∙◌}
use borrow.Author.Tests.{eqb-true, eqb-false}
use Rattle.characters.proofs.Unfinished.{unfinished_text, unfinished_nil}
use Rattle.characters.proofs.utf8.is_unfinished.Goals as goal

pub returns-then-is_empty : goal.returns-then-is_empty
returns-then-is_empty c =
    c.if-is_empty.true ∙ unfinished_nil c.args.text.now (eqb-true _ 0 (sym c.is_empty.ensures ∙ c.if-is_empty.true))

pub returns-else-is_empty : goal.returns-else-is_empty
returns-else-is_empty c =
    unfinished_text c.args.text.now (eqb-false _ 0 (sym c.is_empty.ensures ∙ c.if-is_empty.false))
    c.byte.ensures c.byte-else-is_empty.ensures c.byte-else-is_empty-2.ensures c.is_begun.ensures
