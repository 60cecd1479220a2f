use Rattle.std.proofs.Common.{ap, ◌∙◌, refl, take}
use Rattle.std.specs.Cmp.Lexicographic.{pointwise}
use Rattle.std.proofs.lemmas.List.{take_rest}
use lib.Dec.{eqb}
use Rattle.lexer.specs.Cut.{pragma_word}
use Rattle.lexer.proofs.Names.{word_pragma, word_not_pragma, word_plain}
use Rattle.lexer.proofs.words.ident_or_unknown_prefix.Goals.{else-profile-eq1-via-then-profile-eq1+else-starts_with, else-profile-eq1-via-else-profile-eq1}
use Rattle.lexer.proofs.words.ident_or_unknown_prefix.Goals as goal

pub returns-then-starts_with : goal.returns-then-starts_with
returns-then-starts_with c =
    word_pragma _ _ _ _ _ _ c.args.own.at c.requires.2 (c.starts_with.ensures.value ∙ ap (λ t. pointwise eqb pragma_word (take 6 t)) (take_rest c.args.text.now c.args.own.at)) c.if-profile-eq1.true c.if-starts_with.true c.eat_line.ensures refl

pub returns : goal.returns
returns c =
    elim c.else-profile-eq1.branch [
      | else-profile-eq1-via-then-profile-eq1+else-starts_with w ↦
          word_not_pragma _ _ _ _ _ _ c.args.own.at c.requires.2 (w.starts_with.ensures.value ∙ ap (λ t. pointwise eqb pragma_word (take 6 t)) (take_rest c.args.text.now c.args.own.at)) w.if-profile-eq1.true w.if-starts_with.false c.name.ensures
      | else-profile-eq1-via-else-profile-eq1 w ↦ word_plain _ _ _ _ _ _ w.if-profile-eq1.false c.name.ensures
    ]
