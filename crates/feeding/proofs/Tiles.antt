-- TILES: the records of a call lie one behind the other, from where the token not handed out started to where the next such token starts; and how many they
-- are at most.
-- Assumes nothing.
use Prim.Native.Nat.{ℕ, ◌+◌, ◌≤◌, ◌<◌}
use native.Mathlib.Omega.{arith}
use mathlib.Core.Path.{◌≡◌, refl}
use mathlib.Core.Bool.{Bool, true, false, cond}
use mathlib.Core.List.{List, [], ◌∷◌, ◌++◌, append-nil}
use lib.Dec.{ltb}
use lib.ListN.{length, length-append}
use borrow.Author.Tests.{ltb-false}
use Rattle.lists.proofs.Bools.{by_test}
use Rattle.characters.specs.Utf8.{chars, width}
use Rattle.lexer.specs.Cut.{Letters}
use Rattle.lexer.specs.Unicode.{unicode}
use Rattle.locality.specs.Machine.{Act, eats, halts}
use Rattle.locality.specs.Phases.{Phase, act, first}
use Rattle.locality.proofs.Machine.{by_act}
use Rattle.feeding.specs.Tracker.{Tracker, fresh, seen}
use Rattle.feeding.specs.Fed.{Rec, State, idle, busy, held, feed, feeds, last_of, finish}
use Rattle.feeding.specs.Begun.{whole, beyond}
use Rattle.feeding.specs.Lexer.{Lexer, taken}
use Rattle.feeding.specs.Call.{end_before, bytes, fed_to, given, fed_all, next_begun, early}
use Rattle.feeding.proofs.Running.{Runs, all_fed}

-- records that lie one behind the other, from a place to an end
abbrev pub Tiles : ℕ → List Rec → ℕ → Type 0
Tiles at [] end = at ≡ end
Tiles at (r ∷ rs) end = (r.start ≡ at) × Tiles (at + r.token.len) rs end

pub tiles_join : (a b : List Rec) (at mid end : ℕ) → Tiles at a mid → Tiles mid b end → Tiles at (a ++ b) end
tiles_join [] b at mid end s t = rw s t
tiles_join (r ∷ a) b at mid end s t = (s.0, tiles_join a b (at + r.token.len) mid end s.1 t)

pub tiles_grow : (rs : List Rec) (at end : ℕ) → Tiles at rs end → at ≤ end
tiles_grow [] at end t = omega arith
tiles_grow (r ∷ rs) at end t = omega (arith, tiles_grow rs (at + r.token.len) end t.1)

-- ---- the end of those that start before a place
pub record Early (place at end e : ℕ) : Type 0 where
  pub after : at ≤ e
  pub within : e ≤ end
  -- it is the end of all, or it is not before the place
  pub all : (end < place → e ≡ end)
  pub past : (place ≤ end → place ≤ e)

early_is : (place : ℕ) (rs : List Rec) (at end : ℕ) → Tiles at rs end → Early place at end (end_before place at rs)
unfolding end_before
early_is place [] at end t = record { after = omega arith; within = omega arith; all = λ h. t; past = λ h. omega arith }
early_is place (r ∷ rs) at end t =
    let next = r.start + r.token.len in
    let i = early_is place rs next end (rw (← t.0) at t.1) in
    by_test (ltb r.start place)
    (λ e. rw (e, end_before) (record { after = omega (arith, t.0, i.after); within = i.within; all = i.all; past = i.past }))
    (λ e.
    let l : place ≤ at = omega (arith, ltb-false r.start place e, t.0) in
    let g : at ≤ end = tiles_grow (r ∷ rs) at end t in
    rw (e, end_before) (record { after = omega arith; within = g; all = λ h. absurd (omega arith); past = λ h. l }))

-- ---- what the machine hands out
module _ (u : Letters) (p : ℕ) where
  feed_tiles : (at : ℕ) (x : State) (c : ℕ) → Tiles at (feed u p at x c).0 (feed u p at x c).1.1 × (length (feed u p at x c).0 ≤ 1)
  unfolding feed
  feed_tiles at idle c = (refl, omega arith)
  feed_tiles at (busy q n m o) c = (refl, omega arith)
  feed_tiles at (held q n m o x) c =
      by_act (act u) (act u q (x ∷ c ∷ [])) (λ b r e. rw (e, feed) (refl, omega arith)) (λ b k e. rw (e, feed) ((refl, refl), omega arith))

  pub feeds_tiles : (l : List ℕ) (at : ℕ) (x : State) → Tiles at (feeds u p at x l).0 (feeds u p at x l).1.1 × (length (feeds u p at x l).0 ≤ length l)
  unfolding feeds
  feeds_tiles [] at x = (refl, omega arith)
  feeds_tiles (c ∷ l) at x =
      let r = feed u p at x c in
      let s = feeds u p r.1.1 r.1.0 l in
      let f = feed_tiles at x c in
      let i = feeds_tiles l r.1.1 r.1.0 in
      (tiles_join r.0 s.0 at r.1.1 s.1.1 f.0 i.0, omega (arith, length-append r.0 s.0, f.1, i.1))

  last_tiles : (at n m : ℕ) (o : Tracker) (a : Act Phase) → Tiles at (last_of u p at n m o a) (at + n) × (length (last_of u p at n m o a) ≡ 1)
  unfolding last_of
  last_tiles at n m o (eats b q) = ((refl, refl), refl)
  last_tiles at n m o (halts b k) = ((refl, refl), refl)

  pub finish_tiles : (at : ℕ) (x : State) → Tiles at (finish u p at x) (at + taken x) × (length (finish u p at x) ≤ 2)
  unfolding finish
  finish_tiles at idle = (omega arith, omega arith)
  finish_tiles at (busy q n m o) = let t = last_tiles at n m o (act u q []) in (t.0, omega (arith, t.1))
  finish_tiles at (held q n m o x) =
      by_act (act u) (act u q (x ∷ []))
      (λ b r e. let t = last_tiles at (n + width x) (cond b n m) (seen o b n x) (act u r []) in rw (e, finish) (t.0, omega (arith, t.1)))
      (λ b k e.
      let t = last_tiles (at + n) (width x) 0 (fresh x) (act u (first u p x) []) in
      let z : at + (n + width x) ≡ at + n + width x = omega arith in
      rw (e, finish, z) ((refl, t.0), omega (arith, t.1)))

-- ---- the records of a call
module _ (x : Lexer) (chunk : List ℕ) where
  pub fed_tile : Tiles x.begun (given x false chunk) (next_begun x false chunk)
  unfolding given
  fed_tile = rw append-nil (feeds_tiles unicode x.profile (chars (whole (bytes x false chunk))) x.begun x.state).0

  pub few_fed : length (given x false chunk) ≤ length (chars (whole (bytes x false chunk)))
  unfolding given
  few_fed = rw append-nil (feeds_tiles unicode x.profile (chars (whole (bytes x false chunk))) x.begun x.state).1

  pub few_last : length (given x true chunk) ≤ length (chars (whole (bytes x true chunk))) + 2
  unfolding given
  few_last =
      let r = fed_to x true chunk in
      omega (
        arith,
        length-append r.0 (finish unicode x.profile r.1.1 r.1.0),
        (feeds_tiles unicode x.profile (chars (whole (bytes x true chunk))) x.begun x.state).1,
        (finish_tiles unicode x.profile r.1.1 r.1.0).1,
      )

  -- at the finish, where no character is unfinished
  last_tile : Runs x → length (beyond (bytes x true chunk)) ≡ 0 → Tiles x.begun (given x true chunk) (next_begun x true chunk)
  unfolding given
  last_tile r h =
      let f = fed_to x true chunk in
      let e = f.1.1 + taken f.1.0 in
      let z : e ≡ fed_all x true chunk = omega (arith, all_fed x r true chunk) in
      rw z at (tiles_join f.0 (finish unicode x.profile f.1.1 f.1.0) x.begun f.1.1 e
      (feeds_tiles unicode x.profile (chars (whole (bytes x true chunk))) x.begun x.state).0 (finish_tiles unicode x.profile f.1.1 f.1.0).0)

module _ (x : Lexer) (r : Runs x) (last : Bool) (chunk : List ℕ) where
  -- the next token starts within what was fed
  pub next_within : next_begun x last chunk ≤ fed_all x last chunk
  next_within = by_test last (λ e. rw e (omega arith)) (λ e. rw e (omega (arith, all_fed x r false chunk)))

  -- ONE BEHIND THE OTHER. At the finish no character may be unfinished: the records of one that is refused for it end before that character
  module _ (h : (last ≡ true → length (beyond (bytes x last chunk)) ≡ 0)) where
    pub given_tile : Tiles x.begun (given x last chunk) (next_begun x last chunk)
    given_tile = by_test last (λ e. rw e (last_tile x chunk r (h e))) (λ e. rw e (fed_tile x chunk))

    -- those that start before the chunk
    pub given_early : Early x.fed x.begun (next_begun x last chunk) (early x last chunk)
    given_early = early_is x.fed (given x last chunk) x.begun (next_begun x last chunk) given_tile
