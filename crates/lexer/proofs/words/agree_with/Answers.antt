use Rattle.std.proofs.Common.{◌∙◌, ℕ, Bool, rules}
use borrow.Author.Tests.{tests}
use lib.Dec.{eqb}
use Rattle.std.specs.List.{zip}
use Rattle.std.proofs.lemmas.List.Folds.{length-prefix_len}
use Rattle.std.proofs.lemmas.Iterator.{YieldsList-from_slice, YieldsList-from_zip}
use Rattle.std.proofs.lemmas.Iterator.Search.{YieldsList-from_take_while}
use Rattle.std.proofs.lemmas.Iterator.Consumers.{count_from_yields_List}
use Rattle.lexer.proofs.Names.{agree_zip}
use Rattle.lexer.proofs.words.agree_with.Goals as goal

pub returns : goal.returns
returns c =
    let same : ℕ × ℕ → Bool = λ p. eqb p.0 p.1 in
    count_from_yields_List {v = λ p. (p.0.now, p.1.now)} c.take_while.result _ c.count.ensures.ran
    (YieldsList-from_take_while _ same (YieldsList-from_zip (YieldsList-from_slice c.args.text.now (cc)) (YieldsList-from_slice c.args.word.now (cc))) c.take_while.ensures.closure c.take_while.ensures.done (λ x b q k. search (rules, tests)))
    ∙ length-prefix_len same (zip c.args.text.now c.args.word.now) ∙ agree_zip c.args.word.now c.args.text.now
