use borrow.Author.Rules.{rules}
use Rattle.characters.proofs.utf8.has_mark.Goals as goal

pub returns : goal.returns
returns c = λ r k h. let w = c.largest-most.ensures k h in search rules
