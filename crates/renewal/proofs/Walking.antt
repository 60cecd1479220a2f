-- The walk over a text by runs of tokens, which sizes or writes the key, over any cutter.
-- Assumes nothing.
use Prim.Native.Nat.{ℕ, ◌+◌, ◌-◌, ◌*◌, ◌≤◌}
use native.Mathlib.Omega.{arith}
use mathlib.Core.Path.{◌≡◌, ap, ◌∙◌}
use mathlib.Core.Bool.{Bool, true}
use mathlib.Core.List.{List, [], ◌++◌}
use lib.ListN.{length, drop, length-append, length-drop, drop_of_length-le}
use lib.Seq.{drop-drop}
use Rattle.lists.specs.Steps.{PutIf}
use Rattle.lists.proofs.Store.{Storing, storing_none, storing_on, storing_end}
use Rattle.text.specs.Answer.{longest}
use Rattle.cutters.specs.Records.{Token, total, record_words}
use Rattle.tokens.specs.Members.{counted, members_by}
use Rattle.renewal.specs.Key.{key_of, key_by}
use Rattle.renewal.specs.Steps.{bodies, toks, entries, RunReady, Walked}
use Rattle.renewal.proofs.Runs.{Taken}

-- ---- the walk: to go on from here comes to the same
pub record Walking (cutter : List ℕ → List Token) (s : List ℕ) (write : Bool) (key₀ : List ℕ) (at n : ℕ) (key : List ℕ) : Type 0 where
  pub within : at ≤ length s
  pub few : n ≤ 11 * at
  pub room : (write ≡ true → length (key_by cutter s) ≤ length key₀)
  pub storing : Storing (key_by cutter s) write key₀ (key_by cutter (drop at s)) n key

pub walking_none : (cutter : List ℕ → List Token) (s : List ℕ) (write : Bool) (key : List ℕ) → (write ≡ true → length (key_by cutter s) ≤ length key) → Walking cutter s write key 0 0 key
walking_none cutter s write key h =
    record { within = omega arith; few = omega arith; room = h; storing = storing_none (key_by cutter s) write key }

module _ {cutter : List ℕ → List Token} {s key₀ key : List ℕ} {write : Bool} {at n : ℕ} {ts : List Token} (list : List ℕ) (count : ℕ)
    (w : Walking cutter s write key₀ at n key) (r : Taken cutter (drop at s) ts) (e : toks list 0 count ≡ ts) where
  pub walk_ready : {table : List ℕ} → table ≡ bodies → length s ≤ longest → record_words * count ≤ length list → RunReady table write n s at list count key
  walk_ready b l c =
      let x = ap length r.view ∙ length-append (entries (drop at s) ts) (key_by cutter (drop (total ts) (drop at s))) in
      let y : total ts ≤ length s - at = omega (arith, r.within, length-drop at s) in
      record {
        table_is = b;
        short = l;
        words = c;
        within = rw e (omega (arith, w.within));
        low = rw e (omega (arith, w.few, w.within, r.few));
        room = λ t. rw e (omega (arith, w.room t, w.storing.count, w.storing.long, x));
      }

  pub walk_on : {at' n' : ℕ} {key' : List ℕ} → at' ≡ at + total ts → PutIf write key n (entries (drop at s) (toks list 0 count)) key' n' → Walking cutter s write key₀ at' n' key'
  walk_on {at'} {n'} {key'} a p₀ =
      let p : PutIf write key n (entries (drop at s) ts) key' n' = rw e at p₀ in
      let far : drop (total ts) (drop at s) ≡ drop at' s = drop-drop (total ts) at s ∙ rw a in
      let v : key_by cutter (drop at s) ≡ entries (drop at s) ts ++ key_by cutter (drop at' s) = r.view ∙ rw far in
      record {
        within = omega (arith, w.within, r.within, length-drop at s);
        few = omega (arith, w.few, p.next, r.few);
        room = w.room;
        storing = storing_on (rw v at w.storing) p;
      }

pub walk_end : {cutter : List ℕ → List Token} {s key₀ key : List ℕ} {write : Bool} {at n : ℕ} → cutter [] ≡ [] → Walking cutter s write key₀ at n key → length s ≤ at → Walked cutter s write key₀ n key
unfolding key_by members_by counted key_of
walk_end {cutter} {s} {key₀} {key} {write} {at} {n} c w h =
    let z : key_by cutter (drop at s) ≡ [] = rw (drop_of_length-le s {i = at} h, c) in
    let e = storing_end (rw z at w.storing) in
    record { few = omega (arith, w.few, w.within); size = e.0; key_is = e.1 }
