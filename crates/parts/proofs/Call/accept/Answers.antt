use native.Mathlib.Omega.{arith}
use mathlib.Core.Path.{refl}
use Rattle.parts.proofs.Calling.{begun_within, early_after, early_small, front_within, kept_small, accepted_is}
use Rattle.parts.proofs.Call.accept.Goals as goal

pub overflow_sub-fed : goal.overflow_sub-fed
overflow_sub-fed c = begun_within c.requires

pub keep-kept-requires : goal.keep-kept-requires
keep-kept-requires c = front_within c.requires c.end_before-early.ensures c.saturating_sub-front.ensures

pub overflow_sub-call : goal.overflow_sub-call
overflow_sub-call c = early_after c.requires c.end_before-early.ensures

pub overflow_cast-call-2 : goal.overflow_cast-call-2
overflow_cast-call-2 c = omega (arith, early_small c.requires c.end_before-early.ensures)

pub overflow_cast-call-3 : goal.overflow_cast-call-3
overflow_cast-call-3 c = omega (arith, kept_small c.requires c.end_before-early.ensures c.saturating_sub-front.ensures c.saturating_sub-back.ensures c.keep-kept.ensures)

pub returns : goal.returns
returns c = accepted_is c.requires c.end_before-early.ensures c.saturating_sub-front.ensures c.saturating_sub-back.ensures c.keep-kept.ensures _ refl refl c.behind.ensures
