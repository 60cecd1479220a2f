use mathlib.Core.Path.{refl, sym, ◌∙◌}
use Rattle.unescape.proofs.Eaten.{skipped_wide, eaten_end, eaten_halt, eaten_more}
use Rattle.unescape.proofs.bodies.eat_skipped.Goals as goal

pub returns-then-not-is_skipped : goal.returns-then-not-is_skipped
returns-then-not-is_skipped c =
    let i = c.loop-i.invariant in
    eaten_halt skipped_wide i.going c.loop-i-test.true (sym c.is_skipped.ensures ∙ c.if-not-is_skipped.true) i.same i.from

pub loop-i-preserved : goal.loop-i-preserved
loop-i-preserved c =
    let i = c.loop-i.invariant in
    record {
      same = i.same;
      from = i.from;
      going = eaten_more skipped_wide i.going c.loop-i-test.true (sym c.is_skipped.ensures ∙ c.if-not-is_skipped.false) refl;
    }

pub returns : goal.returns
returns c = let i = c.loop-i.invariant in eaten_end skipped_wide i.going c.loop-i-test.false i.same
