-- The laws of every scanner: one that has read a character answers, or goes on behind it; and a scan goes on with a value and ends with
-- an error.
-- Assumes nothing.
use Prim.Native.Nat.{ℕ, ◌+◌, ◌≤◌, ◌<◌}
use native.Mathlib.Omega.{arith}
use mathlib.Core.Path.{◌≡◌, refl, ap, sym, ◌∙◌}
use mathlib.Core.List.{List, [], ◌∷◌}
use lib.ListN.{length}
use Rattle.std.specs.Prelude.{Option, Some, None, Result, Ok, Err}
use Rattle.characters.specs.Text.{Decoded, left}
use Rattle.characters.proofs.Text.{decoded_point, left_end}
use Rattle.modes.specs.declared.errors.EscapeError.{EscapeError}
use Rattle.modes.specs.Numbers.{error_number, outcome_of}
use Rattle.modes.specs.Errors.{Outcome, char, error}
use Rattle.unescape.specs.Chars.{first_of, rest_of, Next}
use Rattle.unescape.specs.Escapes.{◌then◌}
use Rattle.unescape.specs.Steps.{Scanned}

-- ---- the next character
pub next_end : {s : List ℕ} {at : ℕ} → at ≤ length s → length s ≤ at → Next s at None s at
next_end {s} {at} k h =
    let e = left_end s at h in
    record { same = refl; read = rw e; place = record { after = omega arith; within = k; there = e ∙ sym (ap rest_of e) }; onward = tt }

pub next_char : {s : List ℕ} {at code wide : ℕ} → Decoded s at code wide → at < length s → Next s at (Some code) s (at + wide)
next_char d l =
    let p = decoded_point d l in
    record { same = refl; read = rw p.view; place = record { after = omega arith; within = p.within; there = sym (ap rest_of p.view) }; onward = omega (arith, p.some) }

none_left : (l : List ℕ) → None ≡ first_of l → l ≡ []
none_left [] e = refl
none_left (c ∷ t) e = cc

some_left : (l : List ℕ) {c : ℕ} → Some c ≡ first_of l → l ≡ c ∷ rest_of l
some_left [] e = cc
some_left (c ∷ t) e = cc

module _ {s s' : List ℕ} {at end : ℕ} {x : Option ℕ} (n : Next s at x s' end) where
  pub next_none : x ≡ None → left s at ≡ []
  next_none e = none_left (left s at) (sym e ∙ n.read)

  pub next_some : {c : ℕ} → x ≡ Some c → left s at ≡ c ∷ left s end
  next_some {c} e = some_left (left s at) (sym e ∙ n.read) ∙ ap (λ (t : List ℕ). c ∷ t) (sym n.place.there)

  pub next_onward : {c : ℕ} → x ≡ Some c → at < end
  next_onward e = rw e at n.onward

  module _ (f : List ℕ → Outcome × List ℕ) {r : Result ℕ EscapeError} where
    -- at the end
    pub scanned_end : {e : EscapeError} → x ≡ None → f [] ≡ (error (error_number e), []) → r ≡ Err e → Scanned f s at r s' end
    scanned_end k g h =
        let v = next_none k in
        let p = n.place in
        record {
          same = n.same;
          what = ap outcome_of h ∙ sym (ap (λ (l : List ℕ). (f l).0) v ∙ ap (λ (x : Outcome × List ℕ). x.0) g);
          place = record { after = p.after; within = p.within; there = p.there ∙ ap rest_of v ∙ sym (ap (λ (l : List ℕ). (f l).1) v ∙ ap (λ (x : Outcome × List ℕ). x.1) g) };
        }

    -- by one character
    module _ {c : ℕ} (k : x ≡ Some c) where
      pub scanned_char : (o : Outcome) → ((t : List ℕ) → f (c ∷ t) ≡ (o, t)) → outcome_of r ≡ o → Scanned f s at r s' end
      scanned_char o g h =
          let v = ap f (next_some k) ∙ g (left s end) in
          let p = n.place in
          record {
            same = n.same;
            what = h ∙ sym (ap (λ (x : Outcome × List ℕ). x.0) v);
            place = record { after = p.after; within = p.within; there = sym (ap (λ (x : Outcome × List ℕ). x.1) v) };
          }

      -- and what is behind it
      pub scanned_on : (g : List ℕ → Outcome × List ℕ) {s'' : List ℕ} {end' : ℕ} → ((t : List ℕ) → f (c ∷ t) ≡ g t) → Scanned g s' end r s'' end' → Scanned f s at r s'' end'
      scanned_on g e q' =
          let v = ap f (next_some k) ∙ e (left s end) in
          let q = rw n.same at q' in
          let p = q.place in
          record {
            same = q.same;
            what = rw v q.what;
            place = record { after = omega (arith, p.after, n.place.after); within = p.within; there = rw v p.there };
          }

-- ---- by a scan, and with its value another
module _ (f g : List ℕ → Outcome × List ℕ) (h : ℕ → List ℕ → Outcome × List ℕ) (e : (l : List ℕ) → f l ≡ (g l then h)) {s s' : List ℕ} {at end : ℕ} {r : Result ℕ EscapeError} (q : Scanned g s at r s' end) where
  split : (o : Outcome) → outcome_of r ≡ o → f (left s at) ≡ ((o, left s end) then h)
  split o k = e (left s at) ∙ rw (← q.what, k, ← q.place.there)

  pub then_error : {k : EscapeError} {r' : Result ℕ EscapeError} → r ≡ Err k → r' ≡ Err k → Scanned f s at r' s' end
  then_error {k} v w =
      let m = split (error (error_number k)) (ap outcome_of v) in
      record { same = q.same; what = rw m (ap outcome_of w); place = record { after = q.place.after; within = q.place.within; there = rw m } }

  pub then_value : {v end' : ℕ} {s'' : List ℕ} {r' : Result ℕ EscapeError} → r ≡ Ok v → Scanned (h v) s' end r' s'' end' → Scanned f s at r' s'' end'
  then_value {v} k q' =
      let z = rw q.same at q' in
      let m = split (char v) (ap outcome_of k) in
      record {
        same = z.same;
        what = rw m z.what;
        place = record { after = omega (arith, q.place.after, z.place.after); within = z.place.within; there = rw m z.place.there };
      }

-- the same as another
pub scanned_same : (f : List ℕ → Outcome × List ℕ) {g : List ℕ → Outcome × List ℕ} {s s' : List ℕ} {at end : ℕ} {r : Result ℕ EscapeError} → ((l : List ℕ) → f l ≡ g l) → Scanned g s at r s' end → Scanned f s at r s' end
scanned_same f {s = s} {at = at} e q = let v = e (left s at) in record { same = q.same; what = rw v q.what; place = rw v q.place }

-- with nothing read
pub scanned_stay : (f : List ℕ → Outcome × List ℕ) {s : List ℕ} {at : ℕ} {r : Result ℕ EscapeError} → at ≤ length s → ((l : List ℕ) → f l ≡ (outcome_of r, l)) → Scanned f s at r s at
scanned_stay f {s} {at} k e =
    let v = e (left s at) in
    record { same = refl; what = rw v; place = rw v (record { after = omega arith; within = k; there = refl }) }
