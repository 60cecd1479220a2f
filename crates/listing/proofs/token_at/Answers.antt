use native.Mathlib.Omega.{arith}
use mathlib.Core.Path.{refl}
use Rattle.listing.proofs.Whole.{run_token, run_kind, one_token, one_start, one_found}
use Rattle.listing.proofs.token_at.Goals as goal

pub kind_of-requires : goal.kind_of-requires
kind_of-requires c = run_kind c.cut_run-r.ensures

pub overflow_cast-result : goal.overflow_cast-result
overflow_cast-result c = omega (arith, (one_start (run_token c.cut_run-r.ensures)).1)

pub overflow_add-result : goal.overflow_add-result
overflow_add-result c = omega (arith, (one_start (run_token c.cut_run-r.ensures)).1)

pub overflow_cast-result-2 : goal.overflow_cast-result-2
overflow_cast-result-2 c = omega (arith, one_found (run_token c.cut_run-r.ensures))

pub returns : goal.returns
returns c = one_token c.cut_run-r.ensures c.kind_of.ensures refl refl refl
