use borrow.Author.Rules.{rules}
use Rattle.characters.specs.Steps.{Place}
use Rattle.characters.specs.Text.{left}
use Rattle.lexer.specs.Cut.{number_suffix}
use Rattle.lexer.specs.Unicode.{start_in, more_in}
use Rattle.lexer.proofs.Advancing.{number_at}
use Rattle.lexer.proofs.Digits.{suffix_unit, suffix_eaten}
use Rattle.lexer.proofs.advance.numeral.Goals.{then-has_timing_or_imaginary_suffix, else-has_timing_or_imaginary_suffix}
use Rattle.lexer.proofs.advance.numeral.Goals as goal

pub returns : goal.returns
returns c =
    let s = c.args.text.now in
    let at = c.number-n.result.cursor.at in
    let start = c.args.letters.now.start.now in
    let more = c.args.letters.now.more.now in
    let place : Place s at c.if-has_timing_or_imaginary_suffix.end.at (number_suffix (start_in start) (more_in more) (left s at)) =
    elim c.if-has_timing_or_imaginary_suffix.branch [
      | then-has_timing_or_imaginary_suffix w ↦
          rw w.end-is (suffix_unit start more s at c.has_timing_or_imaginary_suffix.ensures (search rules) c.number-n.ensures.part.place.within)
      | else-has_timing_or_imaginary_suffix w ↦
          rw w.end-is (suffix_eaten start more s at c.has_timing_or_imaginary_suffix.ensures (search rules) w.eat_literal_suffix-end.ensures)
    ]
    in
    number_at _ _ c.number-n.ensures c.place_in.ensures place
