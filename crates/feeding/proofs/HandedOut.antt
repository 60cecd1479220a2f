-- HANDED OUT: behind a text exactly the tokens of its whole characters that have two whole characters behind them, no later and no earlier. For the state holds the
-- last character and has eaten the one before it: what is handed out ends before these two, and the next token does not.
-- Assumes nothing.
use Prim.Native.Nat.{ℕ, ◌+◌, ◌-◌, ◌≤◌, ◌<◌}
use native.Mathlib.Omega.{arith}
use mathlib.Core.Path.{◌≡◌, refl, ap, sym, ◌∙◌}
use mathlib.Core.Bool.{true, false, cond}
use mathlib.Core.List.{List, [], ◌∷◌, ◌++◌, append_assoc, append-nil}
use borrow.Author.Tests.{le-leb, lt-leb}
use Rattle.characters.specs.Utf8.{chars, width}
use Rattle.characters.specs.Text.{byte_length}
use Rattle.characters.proofs.Text.{bytes_append}
use Rattle.characters.proofs.Valid.{width_some}
use Rattle.cutters.specs.Records.{Token, total}
use Rattle.lexer.specs.Cut.{Letters, tokens}
use Rattle.lexer.specs.Unicode.{unicode}
use Rattle.lexer.specs.Promises.{tokens3, profile3}
use Rattle.lexer.proofs.Places.{known3}
use Rattle.locality.specs.Machine.{Act, eats, halts}
use Rattle.locality.specs.Phases.{Phase, act, Usual}
use Rattle.locality.proofs.Machine.{by_act}
use Rattle.locality.proofs.Clause.{unicode_usual}
use Rattle.feeding.specs.Tracker.{Tracker, seen}
use Rattle.feeding.specs.Fed.{Rec, State, idle, busy, held, feed, feeds, last_of, finish}
use Rattle.feeding.specs.Begun.{whole}
use Rattle.feeding.specs.Lexer.{Lexer}
use Rattle.feeding.specs.Call.{given}
use Rattle.feeding.specs.History.{within, but_two, settled}
use Rattle.feeding.proofs.Fed.{toks, toks_join, joined}
use Rattle.feeding.proofs.History.{out, Stands, out_on}
use Rattle.feeding.proofs.Tiles.{Tiles, feeds_tiles}

-- the bytes before two last characters
but_two_lem : (a : List ℕ) (x y : ℕ) → but_two (a ++ x ∷ y ∷ []) ≡ byte_length a
unfolding but_two byte_length
but_two_lem [] x y = refl
but_two_lem (c ∷ []) x y = refl
but_two_lem (c ∷ d ∷ []) x y = refl
but_two_lem (c ∷ d ∷ e ∷ a) x y = ap (λ (n : ℕ). width c + n) (but_two_lem (d ∷ e ∷ a) x y)

pub tiles_total : (rs : List Rec) (at end : ℕ) → Tiles at rs end → end ≡ at + total (toks rs)
unfolding toks
tiles_total [] at end t = omega arith
tiles_total (r ∷ rs) at end t = omega (arith, tiles_total rs (at + r.token.len) end t.1)

-- ---- how a state lies in the text l fed so far: the token not handed out starts at `at`
pub record Holds (l : List ℕ) (at n x : ℕ) : Type 0 where
  pub front : List ℕ
  pub before : ℕ
  pub is : l ≡ front ++ before ∷ x ∷ []
  pub past : at ≤ byte_length front
  pub size : byte_length front + width before ≡ at + n

pub record Begins (l : List ℕ) (at n : ℕ) : Type 0 where
  pub only : ℕ
  pub is : l ≡ only ∷ []
  pub none : at ≡ 0
  pub size : n ≡ width only

abbrev pub Has : List ℕ → ℕ → State → Type 0
Has l at idle = (l ≡ []) × (at ≡ 0)
Has l at (busy q n m o) = Begins l at n
Has l at (held q n m o x) = Holds l at n x

module _ (u : Letters) (p : ℕ) where
  has_step : (at : ℕ) (x : State) (c : ℕ) (l : List ℕ) → Has l at x → Has (l ++ c ∷ []) (feed u p at x c).1.1 (feed u p at x c).1.0
  unfolding feed byte_length
  has_step at idle c l h = record { only = c; is = ap (λ (k : List ℕ). k ++ c ∷ []) h.0; none = h.1; size = refl }
  has_step at (busy q n m o) c l h =
      record { front = []; before = h.only; is = ap (λ (k : List ℕ). k ++ c ∷ []) h.is; past = omega (arith, h.none); size = omega (arith, h.none, h.size) }
  has_step at (held q n m o x) c l h =
      let f = h.front ++ h.before ∷ [] in
      let i : l ++ c ∷ [] ≡ f ++ x ∷ c ∷ [] = ap (λ (k : List ℕ). k ++ c ∷ []) h.is ∙ append_assoc h.front (h.before ∷ x ∷ []) (c ∷ []) ∙ sym (append_assoc h.front (h.before ∷ []) (x ∷ c ∷ [])) in
      let j : byte_length f ≡ byte_length h.front + width h.before = bytes_append h.front (h.before ∷ []) ∙ omega arith in
      by_act (act u) (act u q (x ∷ c ∷ []))
      (λ b r e. rw (e, feed) (record { front = f; before = x; is = i; past = omega (arith, h.past); size = omega (arith, h.size) }))
      (λ b k e. rw (e, feed) (record { front = f; before = x; is = i; past = omega (arith, h.size); size = omega (arith, h.size) }))

  pub has_steps : (k : List ℕ) (at : ℕ) (x : State) (l : List ℕ) → Has l at x → Has (l ++ k) (feeds u p at x k).1.1 (feeds u p at x k).1.0
  unfolding feeds
  has_steps [] at x l h = rw append-nil h
  has_steps (c ∷ k) at x l h =
      let r = feed u p at x c in
      rw append_assoc at (has_steps k r.1.1 r.1.0 (l ++ c ∷ []) (has_step at x c l h))

  -- ---- the token that is not handed out has eaten into the last two characters
  last_long : (at n m : ℕ) (o : Tracker) (a : Act Phase) (k : ℕ) → k < n → within k (toks (last_of u p at n m o a)) ≡ []
  unfolding last_of toks within
  last_long at n m o (eats b r) k h = rw (lt-leb n k h)
  last_long at n m o (halts b r) k h = rw (lt-leb n k h)

  finish_long : (l : List ℕ) (at : ℕ) (x : State) → Has l at x → within (but_two l - at) (toks (finish u p at x)) ≡ []
  unfolding finish toks within but_two
  finish_long l at idle h = refl
  finish_long l at (busy q n m o) h = last_long at n m o (act u q []) (but_two l - at) (omega (arith, ap but_two h.is, h.size, width_some h.only))
  finish_long l at (held q n m o x) h =
      let j : but_two l ≡ byte_length h.front = ap but_two h.is ∙ but_two_lem h.front h.before x in
      let w : but_two l - at < n = omega (arith, j, h.size, width_some h.before, h.past) in
      by_act (act u) (act u q (x ∷ []))
      (λ b r e. rw (e, finish) (last_long at (n + width x) (cond b n m) (seen o b n x) (act u r []) (but_two l - at) (omega arith)))
      (λ b k e. rw (e, finish, lt-leb n (but_two l - at) w))

  at_most : (l : List ℕ) (at : ℕ) (x : State) → Has l at x → at ≤ but_two l
  at_most l at idle h = omega (arith, h.1)
  at_most l at (busy q n m o) h = omega (arith, h.none)
  at_most l at (held q n m o x) h = omega (arith, ap but_two h.is ∙ but_two_lem h.front h.before x, h.past)

within_join : (n : ℕ) (a b : List Token) → total a ≤ n → within n (a ++ b) ≡ a ++ within (n - total a) b
unfolding within
within_join n [] b h = let z : n - 0 ≡ n = omega arith in rw z
within_join n (t ∷ a) b h =
    let z : n - t.len - total a ≡ n - (t.len + total a) = omega arith in
    rw (le-leb t.len n (omega arith), within_join (n - t.len) a b (omega arith), z)

-- on characters, over any letters
pub handed_chars : (u : Letters) → Usual u → (p : ℕ) (l : List ℕ) → toks (feeds u p 0 idle l).0 ≡ within (but_two l) (tokens u p l)
handed_chars u usual p l =
    let r = feeds u p 0 idle l in
    let h = has_steps u p l 0 idle [] (refl, refl) in
    let a = toks r.0 in
    let b = toks (finish u p r.1.1 r.1.0) in
    let t : r.1.1 ≡ total a = tiles_total r.0 0 r.1.1 (feeds_tiles u p l 0 idle).0 ∙ omega arith in
    let m : total a ≤ but_two l = omega (arith, t, at_most u p l r.1.1 r.1.0 h) in
    let n : within (but_two l - total a) b ≡ [] = ap (λ (k : ℕ). within (but_two l - k) b) (sym t) ∙ finish_long u p l r.1.1 r.1.0 h in
    sym (ap (within (but_two l)) (sym (joined u p usual l) ∙ toks_join r.0 (finish u p r.1.1 r.1.0)) ∙ within_join (but_two l) a b m ∙ ap (λ (k : List Token). a ++ k) n ∙ append-nil a)

module _ (p : ℕ) (known : profile3 p ≡ true) where
  pub handed_out : (s : List ℕ) → toks (out p s) ≡ settled p s
  unfolding settled tokens3
  handed_out s = handed_chars unicode unicode_usual p (chars (whole s)) ∙ ap (within (but_two (chars (whole s)))) (sym (known3 p (whole s) known))

  -- ---- of one call: it hands out the tokens that its chunk settles
  pub handed_in_lem : {s : List ℕ} {x : Lexer} → Stands p s x → (chunk : List ℕ) → settled p (s ++ chunk) ≡ settled p s ++ toks (given x false chunk)
  handed_in_lem {s} {x} h chunk =
      sym (handed_out (s ++ chunk)) ∙ ap toks (out_on h chunk) ∙ toks_join (out p s) (given x false chunk)
      ∙ ap (λ (y : List Token). y ++ toks (given x false chunk)) (handed_out s)
