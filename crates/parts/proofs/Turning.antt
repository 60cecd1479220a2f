-- A character that a token has come to is decided, from what the machine says and what calls have made.
-- Assumes nothing.
use Prim.Native.Nat.{ℕ, ◌+◌, ◌≤◌}
use mathlib.Core.Path.{◌≡◌, ap, sym, ◌∙◌}
use mathlib.Core.Bool.{Bool, cond}
use mathlib.Core.List.{[], ◌∷◌}
use native.Mathlib.Nat.{add-zero}
use native.Mathlib.Omega.{arith}
use borrow.Author.Tests.{lt-ltb}
use Rattle.std.specs.Prelude.{None, Some}
use Rattle.characters.specs.Utf8.{width}
use Rattle.characters.proofs.Valid.{width_some}
use Rattle.text.specs.Answer.{longest}
use Rattle.lexer.specs.Cut.{Letters}
use Rattle.locality.specs.Phases as P
use Rattle.feeding.specs.Tracker as T
use Rattle.feeding.specs.Fed.{idle, busy, held, ended, feed, last_of}
use Rattle.feeding.specs.Lexer.{depth_of}
use Rattle.feeding.proofs.SeesZero.{sees_zero}
use Rattle.phases.specs.Coded.{phase_of, tracker_of, act_of, act_in, EndsWith}
use Rattle.phases.specs.declared.Phase as D
use Rattle.phases.specs.declared.End.{End}
use Rattle.phases.specs.declared.Act as A
use Rattle.phases.specs.declared.Act.TheVariants as Y
use Rattle.parts.specs.Coded.{busy_of, state_of}
use Rattle.parts.specs.Steps.{rec_of, turned, released, lastly, Lastly, Stepped}
use Rattle.parts.specs.declared.state.State as S
use Rattle.parts.specs.declared.state.State.TheVariants as X
use Rattle.parts.specs.declared.state.Turn.{Turn}
use Rattle.parts.specs.declared.state.Token.{Token}
use Rattle.parts.specs.declared.state.Record.{Record}

-- the same token with a character behind
hold : {q q' : P.Phase} {n n' m m' : ℕ} {o o' : T.Tracker} (c : ℕ) → busy q n m o ≡ busy q' n' m' o' → held q n m o c ≡ held q' n' m' o' c
hold c e = cc

module _ (u : Letters) (profile : ℕ) (t : Token) (x y : ℕ) (d : depth_of (phase_of t.phase) ≤ t.eaten) (h : t.eaten + width x ≤ longest) where
  abbrev q : P.Phase
  q = phase_of t.phase

  abbrev n : ℕ
  n = t.eaten

  abbrev m : ℕ
  m = t.mark

  abbrev o : T.Tracker
  o = tracker_of t.tracker

  module _ (r : A.Act) (e : act_of r ≡ act_in u q (x ∷ y ∷ [])) where
    -- the depth can be told
    told : P.act u q (x ∷ y ∷ []) ≡ act_of r
    unfolding act_in
    told = sym (e ∙ rw (lt-ltb (depth_of q) longest (omega (arith, width_some x))))

    alone : y ≡ 0 → P.act u q (x ∷ []) ≡ act_of r
    alone z = sees_zero u q x ∙ ap (λ (k : ℕ). P.act u q (x ∷ k ∷ [])) (sym z) ∙ told

    module _ (b : Bool) (p : D.Phase) (i : r ≡ Y.Eats b p) (at : ℕ) where
      fed_eats : feed u profile at (held q n m o x) y ≡ ([], (held (phase_of p) (n + width x) (cond b n m) (T.seen o b n x) y, at))
      unfolding feed
      fed_eats = rw (told ∙ ap act_of i, feed)

      freed_eats : y ≡ 0 → released u profile at (held q n m o x) ≡ ([], (busy (phase_of p) (n + width x) (cond b n m) (T.seen o b n x), at))
      unfolding released
      freed_eats z = rw (alone z ∙ ap act_of i, released)

    module _ (k : End) (i : r ≡ Y.Halts k) (at : ℕ) where
      fed_halts : feed u profile at (held q n m o x) y ≡ (ended at n m o k.suffix k.kind ∷ [], (held (P.first u profile x) (width x) 0 (T.fresh x) y, at + n))
      unfolding feed
      fed_halts = rw (told ∙ ap act_of i, feed)

      freed_halts : y ≡ 0 → released u profile at (held q n m o x) ≡ (ended at n m o k.suffix k.kind ∷ [], (busy (P.first u profile x) (width x) 0 (T.fresh x), at + n))
      unfolding released
      freed_halts z = rw (alone z ∙ ap act_of i, released)

    pub stepped_eats : (b : Bool) (p : D.Phase) → r ≡ Y.Eats b p → (t' : Token) → busy_of t' ≡ busy (phase_of p) (n + width x) (cond b n m) (T.seen o b n x) → Stepped u profile t x y t' None
    stepped_eats b p i t' g =
        record {
          small = omega arith;
          held_is = λ at. rw (add-zero at, hold y g) (sym (fed_eats b p i at));
          freed_is = λ z at. rw (add-zero at, g) (sym (freed_eats b p i at z));
        }

    pub stepped_halts : (k : End) → r ≡ Y.Halts k → (t' : Token) → busy_of t' ≡ busy (P.first u profile x) (width x) 0 (T.fresh x) → (c : Record) → ((at : ℕ) → rec_of at c ≡ ended at n m o k.suffix k.kind) → c.len ≡ n → Stepped u profile t x y t' (Some c)
    stepped_halts k i t' g c f l =
        record {
          small = omega arith;
          held_is = λ at. rw (f at, l, hold y g) (sym (fed_halts k i at));
          freed_is = λ z at. rw (f at, l, g) (sym (freed_halts k i at z));
        }

-- the last token
pub last_busy : (s : S.State) (at : ℕ) (v : Turn) (t : Token) (k : End) (c : Record) → s ≡ X.Busy t → EndsWith (phase_of t.phase) k.suffix k.kind → ((i : ℕ) → rec_of i c ≡ ended i t.eaten t.mark (tracker_of t.tracker) k.suffix k.kind) → c.len ≡ t.eaten → turned v at ≡ (rec_of at c ∷ [], (idle, at + c.len)) → Lastly at (state_of s) v
unfolding lastly last_of
last_busy s at v t k c e f g l z = rw e (record { all = λ u profile i. z ∙ rw (f.ends u i, g at, l) })
