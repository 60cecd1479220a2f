use Rattle.std.proofs.lemmas.List.{take_rest}
use Rattle.std.proofs.Common.{ap, ◌∙◌, rules}
use borrow.Author.Tests.{tests}
use lib.Dec.{eqb}
use Rattle.std.specs.List.{position_or_len}
use Rattle.std.proofs.lemmas.Iterator.{YieldsList-from_slice}
use Rattle.std.proofs.lemmas.Iterator.Search.{position_from_yields_List}
use Rattle.lexer.specs.Cut.{not_lf}
use Rattle.lexer.proofs.Bytewise.{first_place, line_place}
use Rattle.lexer.proofs.cursor.Cursor.eat_line.Goals as goal

pub returns : goal.returns
unfolding not_lf
returns c =
    line_place (search rules) (first_place (λ b. eqb b 0x0A) _ (position_from_yields_List (λ b. eqb b 0x0A) _ _ c.position.result c.position.ensures.ran (YieldsList-from_slice _ c.iter.ensures.rest) (λ x b q k. search (rules, tests))) c.unwrap_or-n.ensures ∙ ap (position_or_len (λ b. eqb b 0x0A)) (take_rest c.args.text.now c.args.self.at))
