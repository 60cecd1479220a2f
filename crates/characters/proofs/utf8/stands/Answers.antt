use borrow.Author.Rules.{rules}
use Rattle.characters.proofs.Blocks.{stood_up}
use Rattle.characters.proofs.utf8.stands.Goals as goal

pub returns : goal.returns
returns c = λ k h. let w = c.largest.ensures k h in search (rules, stood_up)
