use borrow.Author.Rules.{rules}
use native.Mathlib.Omega.{arith}
use mathlib.Core.Path.{sym, ◌∙◌}
use Rattle.unescape.proofs.Eaten.{eaten_end, eaten_halt, eaten_more}
use Rattle.unescape.proofs.Digits.{digit_wide, small_first, digit_adds, small_on, room_on, count_few}
use Rattle.unescape.proofs.escapes.more_digits.Goals as goal

pub loop-i-init : goal.loop-i-init
loop-i-init c = search (rules, small_first)

pub returns-then-not-is_digit_or_underscore : goal.returns-then-not-is_digit_or_underscore
returns-then-not-is_digit_or_underscore c =
    let i = c.loop-i.invariant in
    eaten_halt digit_wide i.going c.loop-i-test.true (sym c.is_digit_or_underscore.ensures ∙ c.if-not-is_digit_or_underscore.true) i.same i.from

pub and-digits-requires : goal.and-digits-requires
and-digits-requires c =
    let i = c.loop-i.invariant in
    room_on _ _ _ c.to_digit-digit.ensures i.small (omega (arith, i.few))

pub loop-i-preserved : goal.loop-i-preserved
loop-i-preserved c =
    let i = c.loop-i.invariant in
    let d = c.to_digit-digit.ensures in
    let g = sym c.is_digit_or_underscore.ensures ∙ c.if-not-is_digit_or_underscore.false in
    rw c.and-digits.ensures (record {
      same = i.same;
      from = i.from;
      going = eaten_more digit_wide i.going c.loop-i-test.true g (digit_adds _ _ _ d g);
      small = small_on _ _ _ d i.small;
      few = count_few _ _ _ i.few;
    })

pub returns : goal.returns
returns c = let i = c.loop-i.invariant in eaten_end digit_wide i.going c.loop-i-test.false i.same
