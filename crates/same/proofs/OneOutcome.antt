-- What a comparison says is said of one value alone: so the promise of `compare`, which speaks of `told`, leaves one.
-- Assumes nothing.
use Rattle.std.specs.Prelude.{◌≡◌, refl, cond, ℕ, eqb}
use mathlib.Core.Path.{sym, ap, ◌∙◌}
use Rattle.text.specs.declared.Refusal.{Refusal}
use Rattle.text.specs.declared.Refusal.TheVariants.{UnknownSelector, TooLong, NotUtf8, RoomTooSmall, DirectionMark}
use Rattle.text.specs.Refusals.{refused}
use Rattle.same.specs.Compare.{Sight, Comparison}
use Rattle.same.specs.declared.Sight.{Sight as Seen}
use Rattle.same.specs.declared.Agreement.{Agreement}
use Rattle.same.specs.declared.Comparison.{Comparison as Outcome}
use Rattle.same.specs.declared.Comparison.TheVariants as outcome
use Rattle.same.specs.Told.{told}

abbrev refusal_at : ℕ → ℕ → Refusal
refusal_at n a =
    cond (eqb n 1) UnknownSelector (cond (eqb n 2) TooLong (cond (eqb n 3) (NotUtf8 a) (cond (eqb n 4) (RoomTooSmall a) (DirectionMark a))))

refusal_back : (r : Refusal) → refusal_at (refused r).0 (refused r).1 ≡ r
refusal_back UnknownSelector = refl
refusal_back TooLong = refl
refusal_back (NotUtf8 n) = refl
refusal_back (RoomTooSmall n) = refl
refusal_back (DirectionMark n) = refl

abbrev seen_at : Sight → Seen
seen_at v = record { kind = v.kind; start = v.start; len = v.len }

abbrev agreement_at : Comparison → Agreement
agreement_at c = record { agreed = c.agreed; old = seen_at c.old; new = seen_at c.new }

abbrev at : Comparison → Outcome
at c =
    cond (eqb c.verdict 0) (outcome.Same (agreement_at c)) (cond (eqb c.verdict 1) (outcome.Different (agreement_at c)) (cond (eqb c.verdict 2) (outcome.OldRefused (refusal_at c.refusal.0 c.refusal.1)) (outcome.NewRefused (refusal_at c.refusal.0 c.refusal.1))))

back : (c : Outcome) → at (told c) ≡ c
back (outcome.Same p) = refl
back (outcome.Different p) = refl
back (outcome.OldRefused r) = ap outcome.OldRefused (refusal_back r)
back (outcome.NewRefused r) = ap outcome.NewRefused (refusal_back r)

pub told_one : (c d : Outcome) → told c ≡ told d → c ≡ d
told_one c d e = sym (back c) ∙ ap at e ∙ back d
