use Rattle.std.proofs.lemmas.List.{take_rest}
use Rattle.std.proofs.Common.{ap, ◌∙◌, rules}
use borrow.Author.Tests.{tests}
use Rattle.std.specs.List.{position_or_len}
use Rattle.std.proofs.lemmas.Iterator.{YieldsList-from_slice}
use Rattle.std.proofs.lemmas.Iterator.Search.{position_from_yields_List}
use Rattle.lexer.specs.Unicode.{more_in}
use Rattle.lexer.proofs.Bytewise.{halts, first_place, ran}
use Rattle.lexer.proofs.cursor.Cursor.eat_ascii_continue.Goals as goal

pub returns : goal.returns
returns c =
    let more = more_in c.args.letters.now.more.now in
    ran more (search rules) (first_place (halts more) _ (position_from_yields_List (halts more) _ _ c.position.result c.position.ensures.ran (YieldsList-from_slice _ c.iter.ensures.rest) (λ x b q k. search (rules, tests))) c.unwrap_or-n.ensures ∙ ap (position_or_len (halts more)) (take_rest c.args.text.now c.args.self.at))
