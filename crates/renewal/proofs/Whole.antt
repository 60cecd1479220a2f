-- The answer of `renewal_key`, and that it is the only one.
-- Assumes nothing.
use Prim.Native.Nat.{ℕ, ◌/◌, ◌≤◌, ◌<◌}
use native.Mathlib.Omega.{arith}
use mathlib.Core.Path.{◌≡◌, refl, ap, sym, subst, ◌∙◌}
use mathlib.Core.Bool.{true, false}
use mathlib.Core.List.{List}
use lib.Dec.{eqb}
use lib.ListN.{length, take, drop}
use lib.Seq.{take-append_seam}
use borrow.Author.Tests.{eq-eqb}
use Rattle.characters.specs.Direction.{unmarked_up_to}
use Rattle.text.specs.Answer.{done, room_too_small, direction_mark, check_cut, CutMarked}
use Rattle.text.specs.Steps.{Entered}
use Rattle.text.specs.declared.Refusal.{Refusal}
use Rattle.text.specs.Refusals.{refused}
use Rattle.text.proofs.Checks.{cut_accepted, never_done}
use Rattle.text.proofs.Marks.{marked_refused}
use Rattle.text.proofs.Room as room
use Rattle.cutters.specs.Records.{Token}
use Rattle.lexer.specs.Cut.{Letters}
use Rattle.lexer.specs.Unicode.{unicode}
use Rattle.lexer.specs.Promises.{tokens3, profile3, tokens_of, tokens_by}
use Rattle.tokens.specs.Members.{members3, members_of}
use Rattle.tokens.proofs.OpenQasm.{members_known}
use Rattle.renewal.specs.Key.{key_of, key_by, key_of_text}
use Rattle.renewal.specs.Promises.{answer_of, keyed, Keyed}
use Rattle.renewal.specs.Steps.{Walked, StoredKey}
use Rattle.renewal.proofs.Keyable.{keyable}
use Rattle.renewal.proofs.Runs.{key_few_by}
use Rattle.renewal.proofs.Exactly.{exactly_when}

-- ---- for a text that passed the checks
-- room for eleven bytes for each byte of the text is enough
pub room_enough : (u : Letters) (profile : ℕ) (s key : List ℕ) → length s ≤ length key / 11 → length (key_by (tokens_by u profile) s) ≤ length key
room_enough u profile s key l = omega (arith, key_few_by (keyable u profile) s)

module _ (cutter : List ℕ → List Token) {s key : List ℕ} where
  -- what is sized leaves the memory as it was
  pub stored_none : {n : ℕ} {key' : List ℕ} → Walked cutter s false key n key' → length key' < n → StoredKey cutter s key room_too_small n key'
  stored_none w l = room.stored_none w.size (rw w.key_is at l) w.key_is refl refl

  pub sized_fits : {n : ℕ} {key' : List ℕ} → Walked cutter s false key n key' → n ≤ length key' → (key' ≡ key) × (length (key_by cutter s) ≤ length key)
  sized_fits w l = (w.key_is, omega (arith, w.size, ap length w.key_is))

  -- and what has room is written
  pub stored_all : {n : ℕ} {key' key'' : List ℕ} → key' ≡ key → length (key_by cutter s) ≤ length key → Walked cutter s true key' n key'' → StoredKey cutter s key done n key''
  stored_all {n} {key'' = key''} e h w₀ =
      let w : Walked cutter s true key n key'' = rw e at w₀ in
      room.stored_all w.size (omega (arith, w.size)) h w.key_is refl refl

-- ---- the whole
keyed_by : {s key key' : List ℕ} {profile number also : ℕ} → Entered (check_cut s profile) (length key) (length (key_by (tokens_of profile) s)) (key_by (tokens_of profile) s) key number also key' → Keyed s profile key number also key'
unfolding answer_of keyed key_of_text members_of key_by
keyed_by e = record { answer = e.answer; key_is = e.memory }

pub keyed_refused : (s key : List ℕ) (profile : ℕ) (r : Refusal) → refused r ≡ check_cut s profile → Keyed s profile key (refused r).0 (refused r).1 key
keyed_refused s key profile r e =
    keyed_by (room.refused (record { number_is = ap (λ (x : ℕ × ℕ). x.0) e; also_is = ap (λ (x : ℕ × ℕ). x.1) e }) (never_done r) refl)

-- under its profiles the key is that of OpenQASM 3's tokens
key_known : (profile : ℕ) (s : List ℕ) → profile3 profile ≡ true → key_by (tokens3 profile) s ≡ key_by (tokens_of profile) s
unfolding key_by members3 members_of
key_known profile s h = ap key_of (sym (members_known profile s h))

pub keyed_done : {u : Letters} (s : List ℕ) (profile : ℕ) {key key' : List ℕ} {number also : ℕ} → (done, 0) ≡ check_cut s profile → u ≡ unicode → StoredKey (tokens_by u profile) s key number also key' → Keyed s profile key number also key'
unfolding tokens3
keyed_done s profile {key} {key'} {number} {also} c l r₀ =
    let z : (check_cut s profile).0 ≡ done = ap (λ (x : ℕ × ℕ). x.0) (sym c) in
    let e = key_known profile s (cut_accepted s profile z).known in
    let r : StoredKey (tokens3 profile) s key number also key' = subst (λ (u : Letters). StoredKey (tokens_by u profile) s key number also key') l r₀ in
    keyed_by (room.passed (record { number_is = refl; also_is = refl }) z (rw e at r))

-- ---- what a call that is done has written: the key of an accepted text
pub done_accepted : {s : List ℕ} {profile : ℕ} {key : List ℕ} {a : ℕ} {key' : List ℕ} → Keyed s profile key done a key' → (check_cut s profile).0 ≡ done
unfolding answer_of
done_accepted {s} {profile} {key} p = (room.was_done (check_cut s profile) (length key) (length (key_of_text profile s)) p.answer refl).0

pub done_written : {s : List ℕ} {profile : ℕ} {key : List ℕ} {a : ℕ} {key' : List ℕ} → Keyed s profile key done a key' → take a key' ≡ key_of_text profile s
unfolding answer_of keyed
done_written {s} {profile} {key} {a} p =
    let k = key_of_text profile s in
    let n : a ≡ length k = (room.was_done (check_cut s profile) (length key) (length k) p.answer refl).2 in
    let d : eqb (answer_of s profile (length key)).0 done ≡ true = eq-eqb _ _ (sym p.answer.number_is) in
    rw (n, p.key_is, d) (take-append_seam k (drop (length k) key))

-- THE THEOREM on what two calls have written: the keys are equal if and only if the counted tokens are
pub exactly_when_written : {s s' : List ℕ} {profile : ℕ} {key key' : List ℕ} {a b : ℕ} {k k' : List ℕ} → Keyed s profile key done a k → Keyed s' profile key' done b k' →
    (take a k ≡ take b k' → members_of profile s ≡ members_of profile s') × (members_of profile s ≡ members_of profile s' → take a k ≡ take b k')
exactly_when_written {s} {s'} {profile} p q =
    let e = exactly_when profile s s' (done_accepted p) (done_accepted q) in
    (λ h. e.0 (sym (done_written p) ∙ h ∙ done_written q), λ h. done_written p ∙ e.1 h ∙ sym (done_written q))

-- ---- ONE OUTCOME: two calls with the same text, profile and room answer the same and leave the same
pub keyed_unique : {s : List ℕ} {profile : ℕ} {key : List ℕ} {n a m b : ℕ} {l k : List ℕ} → Keyed s profile key n a l → Keyed s profile key m b k → (n ≡ m) × (a ≡ b) × (l ≡ k)
keyed_unique p q =
    (p.answer.number_is ∙ sym q.answer.number_is, p.answer.also_is ∙ sym q.answer.also_is, p.key_is ∙ sym q.key_is)

-- ---- A TEXT WITH A DIRECTION MARK is refused with 7, in whatever room, and no byte of the memory changes
pub keyed_marked : {s key key' : List ℕ} {profile number also : ℕ} → CutMarked s profile → Keyed s profile key number also key' → (number ≡ direction_mark) × (also ≡ unmarked_up_to s) × (key' ≡ key)
unfolding answer_of keyed
keyed_marked m k =
    let e = marked_refused m in
    (rw e at k.answer.number_is, rw e at k.answer.also_is, rw e at k.key_is)
