-- JOINED: whatever the parts, what is handed out on the way and at the finish are the tokens of the whole text.
-- Assumes nothing.
use Prim.Native.Nat.{ℕ, ◌+◌}
use mathlib.Core.Path.{◌≡◌, refl, ap, sym, ◌∙◌}
use mathlib.Core.Bool.{cond}
use mathlib.Core.List.{List, [], ◌∷◌, ◌++◌}
use Rattle.lists.proofs.Cut.{cut_nil, cut_cons}
use Rattle.characters.specs.Utf8.{width}
use Rattle.cutters.specs.Records.{Token}
use Rattle.lexer.specs.Cut.{Letters, tokens}
use Rattle.locality.specs.Machine as machine
use Rattle.locality.specs.Machine.{Act, eats, halts, run, cut_by}
use Rattle.locality.specs.Phases.{Phase, act, first, Usual}
use Rattle.locality.specs.Feed as feeder
use Rattle.locality.proofs.Machine.{run_eats, run_halts, run_length, by_act}
use Rattle.locality.proofs.Feed.{fed}
use Rattle.feeding.specs.Tracker.{Tracker, fresh, seen}
use Rattle.feeding.specs.Fed.{Rec, State, idle, busy, held, feed, feeds, last_of, finish}

-- the tokens of records
unfoldable pub toks : List Rec → List Token
toks [] = []
toks (r ∷ rs) = r.token ∷ toks rs

pub toks_join : (a b : List Rec) → toks (a ++ b) ≡ toks a ++ toks b
unfolding toks
toks_join [] b = refl
toks_join (r ∷ a) b = ap (λ (l : List Token). r.token ∷ l) (toks_join a b)

-- without what was seen of underscores
abbrev bare : State → feeder.State Phase
bare idle = feeder.idle
bare (busy q n m o) = feeder.busy q n m
bare (held q n m o x) = feeder.held q n m x

module _ (u : Letters) (p : ℕ) where
  abbrev A : Phase → List ℕ → Act Phase
  A = act u

  abbrev F : ℕ → Phase
  F = first u p

  -- ---- one character is fed, and some
  step : (at : ℕ) (x : State) (c : ℕ) → (toks (feed u p at x c).0 ≡ (feeder.feed A F (bare x) c).0) × (bare (feed u p at x c).1.0 ≡ (feeder.feed A F (bare x) c).1)
  unfolding feed feeder.feed toks
  step at idle c = (refl, refl)
  step at (busy q n m o) c = (refl, refl)
  step at (held q n m o x) c =
      by_act A (A q (x ∷ c ∷ [])) (λ b r e. (rw (e, feed, feeder.feed), rw (e, feed, feeder.feed))) (λ b k e. (rw (e, feed, feeder.feed), rw (e, feed, feeder.feed)))

  steps : (l : List ℕ) (at : ℕ) (x : State) → (toks (feeds u p at x l).0 ≡ (feeder.feeds A F (bare x) l).0) × (bare (feeds u p at x l).1.0 ≡ (feeder.feeds A F (bare x) l).1)
  unfolding feeds feeder.feeds toks
  steps [] at x = (refl, refl)
  steps (c ∷ l) at x =
      let r = feed u p at x c in
      let s = step at x c in
      let i = steps l r.1.1 r.1.0 in
      (toks_join r.0 (feeds u p r.1.1 r.1.0 l).0 ∙ rw (← s.1, ← s.0, i.0), i.1 ∙ rw s.1)

  -- ---- the finish
  last_is_lem : (at n m : ℕ) (o : Tracker) (a : Act Phase) → toks (last_of u p at n m o a) ≡ (machine.ended A a n m).0 ∷ []
  unfolding last_of toks
  last_is_lem at n m o (eats b r) = refl
  last_is_lem at n m o (halts b k) = refl

  none : cut_by A F [] ≡ []
  unfolding cut_by
  none = cut_nil (λ c t. run A (F c) (width c) 0 t)

  ended_rest : (a : Act Phase) (n m : ℕ) → (machine.ended A a n m).1 ≡ []
  ended_rest (eats b q) n m = refl
  ended_rest (halts b k) n m = refl

  -- where the text ends, the token that has begun is the last
  alone : (q : Phase) (n m : ℕ) → (run A q n m []).0 ∷ cut_by A F (run A q n m []).1 ≡ (machine.ended A (A q []) n m).0 ∷ []
  unfolding run
  alone q n m = ap (λ (l : List ℕ). (machine.ended A (A q []) n m).0 ∷ cut_by A F l) (ended_rest (A q []) n m) ∙ ap (λ (l : List Token). (machine.ended A (A q []) n m).0 ∷ l) none

  single : (x : ℕ) → cut_by A F (x ∷ []) ≡ (machine.ended A (A (F x) []) (width x) 0).0 ∷ []
  unfolding cut_by
  single x = cut_cons (λ c t. run A (F c) (width c) 0 t) (λ a l. run_length A (F a) (width a) 0 l) x [] ∙ alone (F x) (width x) 0

  finish_is : (at : ℕ) (x : State) → toks (finish u p at x) ≡ feeder.finish A F (bare x)
  unfolding finish feeder.due toks
  finish_is at idle = sym none
  finish_is at (busy q n m o) = last_is_lem at n m o (A q []) ∙ sym (alone q n m)
  finish_is at (held q n m o x) =
      by_act A (A q (x ∷ []))
      (λ b r e.
      rw (e, finish) (last_is_lem at (n + width x) (cond b n m) (seen o b n x) (A r []))
      ∙ sym (alone r (n + width x) (cond b n m)) ∙ ap (λ (r : Token × List ℕ). r.0 ∷ cut_by A F r.1) (sym (run_eats A n m e)))
      (λ b k e.
      let t : Token = record { kind = k; len = n; suffix = cond b n m } in
      rw (e, finish) (ap (λ (l : List Token). t ∷ l) (last_is_lem (at + n) (width x) 0 (fresh x) (A (F x) []) ∙ sym (single x)))
      ∙ ap (λ (r : Token × List ℕ). r.0 ∷ cut_by A F r.1) (sym (run_halts A (x ∷ []) n m e)))

  pub joined : Usual u → (l : List ℕ) → let r = feeds u p 0 idle l in toks (r.0 ++ finish u p r.1.1 r.1.0) ≡ tokens u p l
  joined usual l =
      let r = feeds u p 0 idle l in
      let s = steps l 0 idle in
      toks_join r.0 (finish u p r.1.1 r.1.0) ∙ rw (finish_is r.1.1 r.1.0, s.0, s.1) (fed u usual p l)
