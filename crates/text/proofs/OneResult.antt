-- What is told of a call is told of one result alone: so the promises that speak of `given` and `told` leave one result, and those that speak of `checked`
-- where a call gives no value.
-- Assumes nothing.
use Rattle.std.specs.Prelude.{◌≡◌, refl, Result, Ok, Err, Bool, true, false, cond, ℕ, eqb}
use mathlib.Core.Path.{sym, ap, ◌∙◌}
use Rattle.text.specs.declared.Refusal.{Refusal}
use Rattle.text.specs.declared.Refusal.TheVariants.{UnknownSelector, TooLong, NotUtf8, RoomTooSmall, DirectionMark}
use Rattle.text.specs.Refusals.{refused, given, checked, told}

-- the result with these two numbers, where `a` is what a call gives
abbrev back : {A : Type 0} → A → ℕ × ℕ → Result A Refusal
back a p =
    cond (eqb p.0 0) (Ok a) (cond (eqb p.0 1) (Err UnknownSelector) (cond (eqb p.0 2) (Err TooLong) (cond (eqb p.0 3) (Err (NotUtf8 p.1)) (cond (eqb p.0 4) (Err (RoomTooSmall p.1)) (Err (DirectionMark p.1))))))

back_refused : {A : Type 0} (a : A) (r : Refusal) → back a (refused r) ≡ Err r
back_refused a UnknownSelector = refl
back_refused a TooLong = refl
back_refused a (NotUtf8 n) = refl
back_refused a (RoomTooSmall n) = refl
back_refused a (DirectionMark n) = refl

back_given : (r : Result ℕ Refusal) → back (given r).1 (given r) ≡ r
back_given (Ok n) = refl
back_given (Err r) = back_refused (refused r).1 r

pub given_one : (r q : Result ℕ Refusal) → given r ≡ given q → r ≡ q
given_one r q e = sym (back_given r) ∙ ap (λ (p : ℕ × ℕ). back p.1 p) e ∙ back_given q

back_checked : (r : Result (Unit {0}) Refusal) → back tt (checked r) ≡ r
back_checked (Ok n) = refl
back_checked (Err r) = back_refused tt r

pub checked_one : (r q : Result (Unit {0}) Refusal) → checked r ≡ checked q → r ≡ q
checked_one r q e = sym (back_checked r) ∙ ap (back tt) e ∙ back_checked q

back_told : (r : Result Bool Refusal) → back (eqb (told r).1 1) (told r) ≡ r
back_told (Ok true) = refl
back_told (Ok false) = refl
back_told (Err r) = back_refused (eqb (refused r).1 1) r

pub told_one : (r q : Result Bool Refusal) → told r ≡ told q → r ≡ q
told_one r q e = sym (back_told r) ∙ ap (λ (p : ℕ × ℕ). back (eqb p.1 1) p) e ∙ back_told q
