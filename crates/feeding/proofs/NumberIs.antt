-- THE NUMBER of the text question behind an accepted call: 1 for a span that is empty or does not lie in its tokens, or for other lengths of what is lent; then 6
-- exactly for a span that starts before the chunk and of which some byte is not kept for these tokens. The further bounds in `number` are for values that no
-- call left.
-- Assumes nothing.
use Prim.Native.Nat.{ℕ, ◌+◌, ◌-◌, ◌≤◌, ◌<◌, min}
use native.Mathlib.Decide.{dec_lt}
use native.Mathlib.Omega.{arith}
use mathlib.Core.Path.{◌≡◌, sym, ◌∙◌}
use mathlib.Core.Logic.{◌↔◌}
use mathlib.Core.Bool.{Bool, true, false, not, cond, ◌&&◌, false≢true}
use mathlib.Core.List.{List}
use lib.Dec.{eqb, leb, ltb}
use lib.ListN.{length}
use borrow.Author.Tests.{le-leb, leb-true, ltb-true, lt-ltb, not-false}
use Rattle.lists.proofs.Bools.{by_test, both}
use Rattle.text.specs.Answer.{done}
use Rattle.feeding.specs.Lexer.{Lexer, started}
use Rattle.feeding.specs.Call.{fed_all, next_begun, accepted}
use Rattle.feeding.specs.Question.{bad_span, not_kept, number}
use Rattle.feeding.specs.History.{Taken, after}
use Rattle.feeding.proofs.History.{on, state_of_history}
use Rattle.feeding.proofs.Carry.{kept_long}
use Rattle.feeding.proofs.TextIs.{stands_within}

-- the span lies in the tokens of the last accepted call, and what is lent is as long as it was
abbrev pub inside : Lexer → List ℕ → List ℕ → ℕ → ℕ → Bool
inside x chunk carry start len =
    not (eqb len 0) && ((leb x.from start && leb (start + len) x.until) && (eqb (length chunk) x.chunk_len && eqb (length carry) x.carry_len))

-- what holds of a lexer that an accepted call left
pub record Sound (x : Lexer) : Type 0 where
  pub ends : x.until ≤ x.chunk_at + x.chunk_len
  pub fits : x.kept ≤ x.carry_len

within_both : (a b c : ℕ) → b ≤ c → (leb a b && leb a c) ≡ leb a b
within_both a b c h = by_test (leb a b) (λ e. rw (e, le-leb a c (omega (arith, leb-true a b e)))) (λ e. rw e)

module _ (x : Lexer) (s : Sound x) (chunk carry : List ℕ) (start len : ℕ) where
  -- how far the bytes go that are kept for these tokens, and whether the span starts before the chunk and goes further
  abbrev far : ℕ
  far = x.from + min x.packed x.kept

  abbrev lacks : Bool
  lacks = ltb start x.chunk_at && ltb far (start + len)

  pub number_is : number x chunk carry start len ≡
      cond (not (inside x chunk carry start len)) bad_span
      (cond (ltb start x.chunk_at && ltb (x.from + min x.packed x.kept) (start + len)) not_kept
      done)
  unfolding number
  number_is =
      let m : min x.kept x.carry_len ≡ x.kept = omega (arith, s.fits) in
      rw (within_both (start + len) x.until (x.chunk_at + x.chunk_len) s.ends, m)

  -- the byte of a place is kept for these tokens: it is among the first, which are packed from where they start, and kept
  abbrev pub KeptFor : ℕ → Type 0
  KeptFor i = (i < x.from + x.packed) × (i < x.from + x.kept)

  pub record Lost : Type 0 where
    pub place : ℕ
    pub after : start ≤ place
    pub before : place < start + len
    pub gone : (KeptFor place → ⊥)

  pub record Six : Type 0 where
    pub asked : inside x chunk carry start len ≡ true
    pub early : start < x.chunk_at
    pub lost : Lost

  -- a span that lies inside is not empty
  some : inside x chunk carry start len ≡ true → 0 < len
  some e = elim (dec_lt 0 len) [ yes y ↦ y | no n ↦ let z : len ≡ 0 = omega arith in absurd (false≢true (rw z at e)) ]

  lost_last : inside x chunk carry start len ≡ true → lacks ≡ true → Six
  lost_last e f =
      let g = both (ltb start x.chunk_at) (ltb far (start + len)) f in
      let a : far < start + len = ltb-true far (start + len) g.1 in
      let n : 0 < len = some e in
      record {
        asked = e;
        early = ltb-true start x.chunk_at g.0;
        lost = record { place = start + len - 1; after = omega arith; before = omega arith; gone = λ z. omega (arith, z.0, z.1) };
      }

  past : Six → far < start + len
  past c = let d = c.lost in elim (dec_lt far (start + len)) [ yes y ↦ y | no n ↦ absurd (d.gone (omega (arith, d.before), omega (arith, d.before))) ]

  pub six_exactly : (number x chunk carry start len ≡ not_kept) ↔ Six
  six_exactly = (
    (λ h.
        let k = sym number_is ∙ h in
        by_test (not (inside x chunk carry start len)) (λ e. absurd (omega (arith, rw e at k)))
        (λ e. by_test lacks (lost_last (not-false (inside x chunk carry start len) e)) (λ f. absurd (omega (arith, rw (e, f) at k))))),
    (λ c. number_is ∙ rw (c.asked, lt-ltb start x.chunk_at c.early, lt-ltb far (start + len) (past c))),
  )

-- ---- from the start on
pub sound_behind : (p : ℕ) (cs : List Taken) (last : Bool) (chunk carry : List ℕ) → Sound (accepted (after (started p) cs) last chunk carry)
sound_behind p cs last chunk carry = record { ends = by last; fits = kept_long (after (started p) cs) last chunk carry }
  where
    by : (last : Bool) → next_begun (after (started p) cs) last chunk ≤ fed_all (after (started p) cs) last chunk
    by true = omega arith
    by false = stands_within (on (state_of_history p cs) chunk carry)
