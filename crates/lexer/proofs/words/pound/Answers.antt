use native.Mathlib.Omega.{arith}
use Rattle.std.proofs.Common.{◌≡◌, ap, ◌∙◌, drop, refl}
use Rattle.std.proofs.lemmas.List.{take_rest}
use borrow.Author.Rules.{rules}
use Rattle.lexer.specs.Cut.{agree, pragma_word}
use Rattle.lexer.proofs.Names.{agree_within, pound_pragma, pound_else}
use Rattle.lexer.proofs.words.pound.Goals.{After-agree_with-n}
use Rattle.lexer.proofs.words.pound.Goals as goal

counted : (c : After-agree_with-n) → c.agree_with-n.result ≡ agree pragma_word (drop c.args.from.at c.args.text.now)
counted c = c.agree_with-n.ensures ∙ ap (agree pragma_word) (take_rest c.args.text.now c.args.from.at)

pub returns-then-n-eq6 : goal.returns-then-n-eq6
returns-then-n-eq6 c =
    pound_pragma _ _ (counted (goal.at.returns-then-n-eq6 c).After-agree_with-n) c.if-n-eq6.true c.eat_line.ensures refl

pub overflow_add-result : goal.overflow_add-result
overflow_add-result c = omega (arith, agree_within c.args.text.now c.args.from.at (counted (goal.at.overflow_add-result c).After-agree_with-n))

pub returns : goal.returns
returns c = pound_else _ _ (counted (goal.at.returns c).After-agree_with-n) (search rules) c.if-n-eq6.false refl
