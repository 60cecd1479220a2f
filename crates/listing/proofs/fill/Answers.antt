use native.Mathlib.Omega.{arith}
use mathlib.Core.Path.{refl}
use mathlib.Core.Logic.{inl, inr}
use Rattle.lexer.proofs.Places.{end_some, end_within, suffix_after, suffix_within, found_within}
use Rattle.listing.proofs.Whole.{fill_room, fill_on, fill_left}
use Rattle.listing.proofs.fill.Goals as goal
use Rattle.listing.proofs.fill.Goals.{else-loop-k-test, then-loop-k-test+else-at-text}

pub put-requires-clause-room : goal.put-requires-clause-room
put-requires-clause-room c = fill_room c.loop-k.invariant c.loop-k-test.true

pub put-requires-clause-places : goal.put-requires-clause-places
put-requires-clause-places c = record {
  before_suffix = omega (arith, suffix_after);
  before_end = omega (arith, end_some);
  start_fits = omega arith;
  suffix_fits = omega (arith, suffix_within);
  found_fits = omega (arith, found_within);
  end_fits = omega (arith, end_within);
}

pub loop-k-preserved : goal.loop-k-preserved
loop-k-preserved c =
    fill_on c.loop-k.invariant c.loop-k-test.true c.if-at-text.true c.advance_token-t.ensures c.put.ensures refl

pub returns : goal.returns
returns c =
    fill_left c.loop-k.invariant (elim c.loop-k-test.branch [ else-loop-k-test w ↦ inl (omega arith) | then-loop-k-test+else-at-text w ↦ inr (omega arith) ]) refl
