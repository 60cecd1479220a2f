-- RUNNING IS KEPT: a started lexer is running, and whatever a call answers, the lexer behind a running one is running. So from a start on 5 is answered exactly
-- to a lexer that is over: the test on the values handed in refuses none.
-- Assumes nothing.
use Prim.Native.Nat.{ℕ, suc, ◌+◌, ◌≤◌}
use native.Mathlib.Omega.{arith}
use mathlib.Core.Path.{◌≡◌, refl, sym, ◌∙◌}
use mathlib.Core.Logic.{◌↔◌}
use mathlib.Core.Bool.{Bool, true, false, not, ◌&&◌, ◌||◌}
use mathlib.Core.List.{List, [], ◌∷◌}
use lib.Dec.{eqb, leb}
use lib.ListN.{length, length-append, length-drop}
use borrow.Author.Tests.{le-leb, leb-true, eqb-true, eq-eqb}
use Rattle.lists.proofs.Bools.{by_test, on_cond, both, or_false}
use Rattle.characters.specs.Utf8.{chars, width, valid_up_to}
use Rattle.characters.specs.Unfinished.{unfinished}
use Rattle.characters.specs.Text.{byte_length}
use Rattle.characters.proofs.Text.{bytes_chars}
use Rattle.characters.proofs.Valid.{width_some, valid_within}
use Rattle.text.specs.Answer.{done, too_long, not_utf8, direction_mark}
use Rattle.letters.specs.Chars.{is_whitespace}
use Rattle.cutters.specs.Kinds.{marks, mark_in}
use Rattle.cutters.specs.Digits.{is_digit}
use Rattle.lexer.specs.Cut.{Letters, wide_emoji}
use Rattle.lexer.specs.Unicode.{unicode}
use Rattle.locality.specs.Machine.{Act, eats, halts}
use Rattle.locality.specs.Phases.{Phase, behind_slash, line, inside, into, closing, closed, space, name, emoji_name, spelling, behind_at, behind_dollar, wire, zero_first, figures, pointed, decimals, behind_e, power, quote, quote_closed, suffixed, single, act, first}
use Rattle.locality.proofs.Machine.{by_act}
use Rattle.feeding.specs.Fed.{State, idle, busy, held, feed, feeds}
use Rattle.feeding.specs.Begun.{whole, beyond}
use Rattle.feeding.specs.Lexer.{Lexer, started, base_of, depth_of, fits, taken, running}
use Rattle.feeding.specs.Call.{not_open, bytes, fed_to, fed_all, answer, accepted, shut, next_lexer}
use Rattle.feeding.specs.History.{Taken, after}
use Rattle.feeding.proofs.Begun.{whole_long}
use Rattle.feeding.proofs.Ways.{by_way, Ways}
use Rattle.feeding.proofs.Unfinished.{unfinished_short}
use Rattle.feeding.proofs.Refusals.{passed, five_exactly, Call}

-- ---- the phases: behind n bytes, and what is eaten is at least one more
abbrev pub Small : ℕ → Phase → Type 0
Small n q = (base_of q ≤ 3) × (depth_of q ≤ n)

abbrev Kept : ℕ → Act Phase → Type 0
Kept n (eats b q) = Small (suc n) q
Kept n (halts b k) = Unit {0}

act_kept : (u : Letters) (q : Phase) (l : List ℕ) (n : ℕ) → Small n q → Kept n (act u q l)
act_kept u q l n s = by_way (Kept n) u q l (ways q s)
  where
    ways : (q : Phase) → Small n q → Ways (Kept n) q
    ways behind_slash s = ((omega arith, omega arith), ((omega arith, omega arith), tt))
    ways (line k) s = ((omega arith, omega arith), tt)
    ways (inside d) s = ((tt, (omega arith, omega arith)), (((omega arith, omega arith), (omega arith, omega arith)), (omega arith, omega arith)))
    ways (into d) s = (tt, (omega arith, omega arith))
    ways closing s = (tt, (omega arith, omega arith))
    ways closed s = tt
    ways space s = ((omega arith, omega arith), tt)
    ways name s = ((omega arith, omega arith), ((omega arith, omega arith), tt))
    ways emoji_name s = ((omega arith, omega arith), tt)
    ways (spelling bare k) s = (((omega arith, omega arith), (omega arith, omega arith)), (((omega arith, omega arith), ((omega arith, omega arith), tt)), tt))
    ways behind_at s = (((omega arith, omega arith), tt), tt)
    ways behind_dollar s = ((omega arith, omega arith), ((λ b. (omega arith, omega arith)), (tt, tt)))
    ways (wire any) s = ((λ b. (omega arith, omega arith)), (tt, tt))
    ways zero_first s = (
      ((omega arith, omega arith), ((omega arith, omega arith), (omega arith, omega arith))),
      ((λ b. (omega arith, omega arith)), (((omega arith, omega arith), (omega arith, omega arith)), (λ b. ((omega arith, omega arith), tt)))),
    )
    ways (figures base any) s = ((λ b. (omega arith, omega arith)), (((omega arith, omega arith), (omega arith, omega arith)), (λ b. ((omega arith, omega arith), tt))))
    ways (pointed base) s = ((omega arith, omega arith), ((omega arith, omega arith), tt))
    ways (decimals base) s = ((omega arith, omega arith), ((omega arith, omega arith), ((omega arith, omega arith), tt)))
    ways (behind_e base) s = ((omega arith, omega arith), ((λ b. (omega arith, omega arith)), (λ b. ((omega arith, omega arith), tt))))
    ways (power base any) s = ((λ b. (omega arith, omega arith)), (λ b. ((omega arith, omega arith), tt)))
    ways (quote escaped k) s = (tt, ((omega arith, omega arith), (λ b t. (omega arith, omega arith))))
    ways (quote_closed k) s = ((omega arith, omega arith), tt)
    ways (suffixed k) s = ((omega arith, omega arith), tt)
    ways (single k) s = tt

first_small : (u : Letters) (p c n : ℕ) → Small n (first u p c)
unfolding first
first_small u p c n =
    let S = Small n in
    on_cond S (eqb c 0x2F) (omega arith, omega arith)
    (on_cond S (is_whitespace c) (omega arith, omega arith)
    (on_cond S (u.start c) (on_cond S (eqb p 1 && eqb c 0x70) (omega arith, omega arith) (omega arith, omega arith))
    (on_cond S (is_digit c) (on_cond S (eqb c 0x30) (omega arith, omega arith) (omega arith, omega arith))
    (on_cond S (eqb c 0x23) (omega arith, omega arith)
    (on_cond S (eqb c 0x40) (omega arith, omega arith)
    (on_cond S (eqb c 0x24) (omega arith, omega arith)
    (on_cond S (not (eqb (mark_in marks c) 0)) (omega arith, omega arith)
    (on_cond S (eqb c 0x22) (omega arith, omega arith)
    (on_cond S (wide_emoji u.emoji c) (omega arith, omega arith) (omega arith, omega arith))))))))))

-- ---- the same of a state
abbrev pub Fit : State → Type 0
Fit idle = Unit {0}
Fit (busy q n m o) = Small n q
Fit (held q n m o x) = Small n q

from_small : (q : Phase) (n : ℕ) → (leb (base_of q) 3 && leb (depth_of q) n) ≡ true → Small n q
from_small q n h = let p = both (leb (base_of q) 3) (leb (depth_of q) n) h in (leb-true (base_of q) 3 p.0, leb-true (depth_of q) n p.1)

to_small : (q : Phase) (n : ℕ) → Small n q → (leb (base_of q) 3 && leb (depth_of q) n) ≡ true
to_small q n s = rw (le-leb (base_of q) 3 s.0) (le-leb (depth_of q) n s.1)

pub from_fits : (x : State) → fits x ≡ true → Fit x
from_fits idle h = tt
from_fits (busy q n m o) h = from_small q n h
from_fits (held q n m o x) h = from_small q n h

pub to_fits : (x : State) → Fit x → fits x ≡ true
to_fits idle h = refl
to_fits (busy q n m o) h = to_small q n h
to_fits (held q n m o x) h = to_small q n h

module _ (u : Letters) (p : ℕ) where
  pub fit_step : (at : ℕ) (x : State) (c : ℕ) → Fit x → Fit (feed u p at x c).1.0 × ((feed u p at x c).1.1 + taken (feed u p at x c).1.0 ≡ at + taken x + width c)
  unfolding feed
  fit_step at idle c f = (first_small u p c (width c), omega arith)
  fit_step at (busy q n m o) c f = (f, omega arith)
  fit_step at (held q n m o x) c f =
      by_act (act u) (act u q (x ∷ c ∷ []))
      (λ b r e.
      let k : Kept n (eats b r) = rw e at (act_kept u q (x ∷ c ∷ []) n f) in
      rw (e, feed) ((k.0, omega (arith, k.1, width_some x)), omega arith))
      (λ b k e. rw (e, feed) (first_small u p x (width x), omega arith))

  pub fit_steps : (l : List ℕ) (at : ℕ) (x : State) → Fit x → Fit (feeds u p at x l).1.0 × ((feeds u p at x l).1.1 + taken (feeds u p at x l).1.0 ≡ at + taken x + byte_length l)
  unfolding feeds byte_length
  fit_steps [] at x f = (f, omega arith)
  fit_steps (c ∷ l) at x f =
      let r = feed u p at x c in
      let s = fit_step at x c f in
      let i = fit_steps l r.1.1 r.1.0 s.0 in
      (i.0, omega (arith, i.1, s.1))

-- ---- and of a lexer
pub record Runs (x : Lexer) : Type 0 where
  pub goes : unfinished x.pend ≡ true
  pub fit : Fit x.state
  pub all : x.begun + (taken x.state + length x.pend) ≡ x.fed

pub from_running : (x : Lexer) → running x ≡ true → Runs x
unfolding running
from_running x h =
    let p = both (unfinished x.pend) (fits x.state && eqb (x.begun + (taken x.state + length x.pend)) x.fed) h in
    let q = both (fits x.state) (eqb (x.begun + (taken x.state + length x.pend)) x.fed) p.1 in
    record { goes = p.0; fit = from_fits x.state q.0; all = eqb-true _ x.fed q.1 }

pub to_running : (x : Lexer) → Runs x → running x ≡ true
unfolding running
to_running x r = rw (r.goes, to_fits x.state r.fit) (eq-eqb _ x.fed r.all)

-- what is unfinished has three bytes at most
pub runs_short : {x : Lexer} → Runs x → length x.pend ≤ 3
runs_short {x} r = unfinished_short x.pend r.goes

-- ---- one call
module _ (x : Lexer) (r : Runs x) (last : Bool) (chunk : List ℕ) where
  -- every byte is in a token that is handed out, in the one that has begun, or in an unfinished character
  pub all_fed : (fed_to x last chunk).1.1 + taken (fed_to x last chunk).1.0 + length (beyond (bytes x last chunk)) ≡ fed_all x last chunk
  all_fed =
      let b = bytes x last chunk in
      omega (arith, (fit_steps unicode x.profile (chars (whole b)) x.begun x.state r.fit).1, r.all, bytes_chars (whole b), whole_long b, length-drop (valid_up_to b) b, valid_within b, length-append x.pend chunk)

pub fed_runs : (x : Lexer) → Runs x → (chunk carry : List ℕ) → unfinished (beyond (bytes x false chunk)) ≡ true → Runs (accepted x false chunk carry)
fed_runs x r chunk carry h =
    record {
      goes = h;
      fit = (fit_steps unicode x.profile (chars (whole (bytes x false chunk))) x.begun x.state r.fit).0;
      all = omega (arith, all_fed x r false chunk);
    }

end_runs : (x : Lexer) (chunk carry : List ℕ) → Runs (accepted x true chunk carry)
unfolding unfinished
end_runs x chunk carry = record { goes = refl; fit = tt; all = omega arith }

pub running_started : (p : ℕ) → running (started p) ≡ true
unfolding unfinished
running_started p = to_running (started p) (record { goes = refl; fit = tt; all = omega arith })

-- WHATEVER THE ANSWER
pub running_kept : (x : Lexer) (last : Bool) (chunk carry : List ℕ) (room : ℕ) → running x ≡ true → running (next_lexer x last chunk carry room) ≡ true
unfolding next_lexer
running_kept x last chunk carry room h =
    let n = (answer x last chunk room).0 in
    by_test (eqb n done) (λ e. rw e (to_running (accepted x last chunk carry) (by last (eqb-true n done e))))
    (λ e. rw e (on_cond (λ (y : Lexer). running y ≡ true) (eqb n too_long || (eqb n not_utf8 || eqb n direction_mark)) (to_running (shut x last chunk carry) (record { goes = r.goes; fit = r.fit; all = r.all })) h))
  where
    r : Runs x
    r = from_running x h

    by : (last : Bool) → (answer x last chunk room).0 ≡ done → Runs (accepted x last chunk carry)
    by true e = end_runs x chunk carry
    by false e = fed_runs x r chunk carry (passed x false chunk room e).goes

-- ---- from a start on
-- the lexer behind any calls, accepted or refused
unfoldable pub reached : Lexer → List Call → Lexer
reached x [] = x
reached x (c ∷ cs) = reached (next_lexer x c.last c.chunk c.carry c.room) cs

pub running_reached : (x : Lexer) (cs : List Call) → running x ≡ true → running (reached x cs) ≡ true
unfolding reached
running_reached x [] h = h
running_reached x (c ∷ cs) h = running_reached (next_lexer x c.last c.chunk c.carry c.room) cs (running_kept x c.last c.chunk c.carry c.room h)

-- 5 EXACTLY WHERE IT IS OVER
pub five_running : (x : Lexer) → running x ≡ true → (last : Bool) (chunk : List ℕ) (room : ℕ) → ((answer x last chunk room).0 ≡ not_open) ↔ (x.over ≡ true)
five_running x h last chunk room =
    let e : (x.over || not (running x)) ≡ x.over = rw (h, or_false) in
    let f = five_exactly x last chunk room in
    (λ k. sym e ∙ f.0 k, λ k. f.1 (e ∙ k))

pub five_reached : (p : ℕ) (cs : List Call) (last : Bool) (chunk : List ℕ) (room : ℕ) → ((answer (reached (started p) cs) last chunk room).0 ≡ not_open) ↔ ((reached (started p) cs).over ≡ true)
five_reached p cs = five_running (reached (started p) cs) (running_reached (started p) cs (running_started p))

-- ---- feeds that were accepted, one behind the other
pub record Accepted (x : Lexer) (c : Taken) : Type 0 where
  pub room : ℕ
  pub is : (answer x false c.chunk room).0 ≡ done

abbrev pub AllAccepted : Lexer → List Taken → Type 0
AllAccepted x [] = Unit {0}
AllAccepted x (c ∷ cs) = Accepted x c × AllAccepted (accepted x false c.chunk c.carry) cs

pub runs_after : (cs : List Taken) (x : Lexer) → Runs x → AllAccepted x cs → Runs (after x cs)
unfolding after
runs_after [] x r a = r
runs_after (c ∷ cs) x r a =
    runs_after cs (accepted x false c.chunk c.carry) (fed_runs x r c.chunk c.carry (passed x false c.chunk a.0.room a.0.is).goes) a.1

pub still_open : (cs : List Taken) (x : Lexer) → x.over ≡ false → (after x cs).over ≡ false
unfolding after
still_open [] x h = h
still_open (c ∷ cs) x h = still_open cs (accepted x false c.chunk c.carry) refl

pub running_history : (p : ℕ) (cs : List Taken) → AllAccepted (started p) cs → running (after (started p) cs) ≡ true
running_history p cs a = to_running (after (started p) cs) (runs_after cs (started p) (from_running (started p) (running_started p)) a)
