use Rattle.characters.proofs.Rows.{in_range_lem}
use Rattle.unescape.proofs.Digits.{digit_decimal, digit_upper, digit_lower, digit_none, digit_kept}
use mathlib.Core.Path.{◌≡◌, ◌∙◌}
use Rattle.unescape.specs.Escapes.{to_digit}
use Rattle.unescape.proofs.escapes.to_digit.Goals as goal
use Rattle.unescape.proofs.escapes.to_digit.Goals.{then-c, else-c, then-c-2, else-c-2, then-c-3, else-c-3}

pub overflow_sub-value : goal.overflow_sub-value
overflow_sub-value c = (in_range_lem _ _ _ c.if-c.true).over

pub overflow_sub-value-then-c-2 : goal.overflow_sub-value-then-c-2
overflow_sub-value-then-c-2 c = (in_range_lem _ _ _ c.if-c-2.true).over

pub overflow_sub-value-then-c-3 : goal.overflow_sub-value-then-c-3
overflow_sub-value-then-c-3 c = (in_range_lem _ _ _ c.if-c-3.true).over

pub returns : goal.returns
returns c =
    let e : c.if-c-3.value ≡ to_digit c.args.c = elim c.if-c-3.branch [
      | then-c-3 w ↦ digit_lower _ w.if-c-3.true w.value-is
      | else-c-3 u ↦
          elim c.if-c-2.branch [
            | then-c-2 w ↦ digit_upper _ w.if-c-2.true (u.value-is ∙ w.value-is)
            | else-c-2 w ↦
                elim c.if-c.branch [
                  | then-c v ↦ digit_decimal _ v.if-c.true (u.value-is ∙ w.value-is ∙ v.value-is)
                  | else-c v ↦ digit_none _ v.if-c.false w.if-c-2.false u.if-c-3.false (u.value-is ∙ w.value-is ∙ v.value-is)
                ]
          ]
    ] in
    digit_kept _ e c.then_some.ensures
