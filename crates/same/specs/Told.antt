-- What a comparison that code holds says.
-- Assumes nothing.
use Rattle.text.specs.Refusals.{refused}
use Rattle.same.specs.Compare.{Sight, Comparison, same, different, old_refused, new_refused, showing, refused_by}
use Rattle.same.specs.declared.Sight.{Sight as Seen}
use Rattle.same.specs.declared.Comparison.{Comparison as Outcome}
use Rattle.same.specs.declared.Comparison.TheVariants as outcome

abbrev pub seen : Seen → Sight
seen v = record { kind = v.kind; start = v.start; len = v.len }

abbrev pub told : Outcome → Comparison
told (outcome.Same p) = showing same p.agreed (seen p.old) (seen p.new)
told (outcome.Different p) = showing different p.agreed (seen p.old) (seen p.new)
told (outcome.OldRefused r) = refused_by old_refused (refused r)
told (outcome.NewRefused r) = refused_by new_refused (refused r)
