use mathlib.Core.Path.{refl, sym, ap, ◌∙◌}
use Rattle.same.specs.Compare.{Sight}
use Rattle.same.proofs.Parting.{parting_none, parting_stop, parting_same, parting_smaller, parting_on}
use Rattle.same.proofs.walk.part.Goals as goal

pub loop-p-init : goal.loop-p-init
loop-p-init c = parting_none _ _ _

pub returns-then-not-are_alike : goal.returns-then-not-are_alike
returns-then-not-are_alike c =
    rw (c.sight.ensures, c.sight-in-loop-p.ensures)
    (parting_stop c.loop-p.invariant c.next_counted-p.ensures c.next_counted-q.ensures c.are_alike.ensures c.if-not-are_alike.true)

pub returns-then-agreement-eq0 : goal.returns-then-agreement-eq0
returns-then-agreement-eq0 c =
    let l = ap (λ (v : Sight). v.len) (sym c.sight.ensures) ∙ c.if-agreement-eq0.true in
    rw (c.sight.ensures, c.sight-in-loop-p.ensures)
    (parting_same c.loop-p.invariant c.next_counted-p.ensures c.next_counted-q.ensures c.are_alike.ensures c.if-not-are_alike.false l)

pub loop-p-smaller : goal.loop-p-smaller
loop-p-smaller c =
    parting_smaller c.loop-p.invariant c.next_counted-p.ensures c.next_counted-q.ensures c.are_alike.ensures c.if-not-are_alike.false
    (λ z. c.if-agreement-eq0.false (ap (λ (v : Sight). v.len) c.sight.ensures ∙ z))

pub loop-p-preserved : goal.loop-p-preserved
loop-p-preserved c =
    parting_on c.loop-p.invariant c.next_counted-p.ensures c.next_counted-q.ensures c.are_alike.ensures c.if-not-are_alike.false
    (λ z. c.if-agreement-eq0.false (ap (λ (v : Sight). v.len) c.sight.ensures ∙ z)) refl
