use Prim.Native.Nat.{◌-◌, ◌≤◌, ◌^◌}
use Rattle.ucd.proofs.Search.{Searching}
use Rattle.ucd.proofs.ranges.last_of.Given as goal

abbrev pub invariant-loop-step : goal.invariant-loop-step
invariant-loop-step l =
    Searching l.table l.c l.fn.p.base l.fn.p.size l.p.base l.p.size × (l.p.size ≤ 2 ^ (5 - l._step))
