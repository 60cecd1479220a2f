-- HISTORY: the state of a lexer behind accepted calls, and what they handed out, are functions of the text of their chunks.
-- Assumes nothing.
use Prim.Native.Nat.{ℕ}
use native.Mathlib.Omega.{arith}
use mathlib.Core.Path.{◌≡◌, refl, ap, sym, ◌∙◌}
use mathlib.Core.Bool.{false}
use mathlib.Core.List.{List, [], ◌∷◌, ◌++◌, append_assoc, append-nil}
use lib.ListN.{length, length-append}
use lib.Seq.{drop-nil}
use Rattle.characters.specs.Utf8.{chars, valid_up_to}
use Rattle.lexer.specs.Cut.{Letters}
use Rattle.lexer.specs.Unicode.{unicode}
use Rattle.feeding.specs.Fed.{Rec, State, idle, feed, feeds}
use Rattle.feeding.specs.Begun.{whole, beyond}
use Rattle.feeding.specs.Lexer.{Lexer, started}
use Rattle.feeding.specs.Call.{bytes, fed_to, given, accepted}
use Rattle.feeding.specs.History.{Taken, after, handed_in, text_of_all}
use Rattle.feeding.proofs.Begun.{no_chars, beyond_on, whole_chars}

-- ---- two parts, or both at once
pub feeds_join : (u : Letters) (p : ℕ) (a b : List ℕ) (at : ℕ) (x : State) →
    let r = feeds u p at x a in
    let q = feeds u p r.1.1 r.1.0 b in
    feeds u p at x (a ++ b) ≡ (r.0 ++ q.0, q.1)
unfolding feeds
feeds_join u p [] b at x = refl
feeds_join u p (c ∷ a) b at x = let r = feed u p at x c in rw (feeds_join u p a b r.1.1 r.1.0, append_assoc)

-- ---- what comes of the text s alone, fed from the start
abbrev pub from_start : ℕ → List ℕ → List Rec × (State × ℕ)
from_start p s = feeds unicode p 0 idle (chars (whole s))

-- what has been handed out
abbrev pub out : ℕ → List ℕ → List Rec
out p s = (from_start p s).0

-- a lexer that stands behind the text s
pub record Stands (p : ℕ) (s : List ℕ) (x : Lexer) : Type 0 where
  pub same : x.profile ≡ p
  pub rest : x.pend ≡ beyond s
  pub long : x.fed ≡ length s
  pub there : (x.state, x.begun) ≡ (from_start p s).1

module _ {p : ℕ} {s : List ℕ} {x : Lexer} (h : Stands p s x) (chunk : List ℕ) where
  pub bytes_are : bytes x false chunk ≡ beyond s ++ chunk
  bytes_are = ap (λ (b : List ℕ). b ++ chunk) h.rest

  -- the machine goes on where it stands
  pub fed_are : from_start p (s ++ chunk) ≡ (out p s ++ (fed_to x false chunk).0, (fed_to x false chunk).1)
  fed_are =
      let r = from_start p s in
      let l = chars (whole (beyond s ++ chunk)) in
      let a : x.begun ≡ r.1.1 = ap (λ (y : State × ℕ). y.1) h.there in
      let b : x.state ≡ r.1.0 = ap (λ (y : State × ℕ). y.0) h.there in
      let w : fed_to x false chunk ≡ feeds unicode p r.1.1 r.1.0 l = rw (h.same, a, b, bytes_are) in
      ap (feeds unicode p 0 idle) (whole_chars s chunk) ∙ feeds_join unicode p (chars (whole s)) l 0 idle
      ∙ ap (λ (y : List Rec × (State × ℕ)). (r.0 ++ y.0, y.1)) (sym w)

  -- behind one accepted call more it stands behind the longer text
  pub on : (carry : List ℕ) → Stands p (s ++ chunk) (accepted x false chunk carry)
  on carry =
      record {
        same = h.same;
        rest = ap beyond bytes_are ∙ sym (beyond_on s chunk);
        long = omega (arith, h.long, length-append s chunk);
        there = ap (λ (y : List Rec × (State × ℕ)). y.1) (sym fed_are);
      }

  pub out_on : out p (s ++ chunk) ≡ out p s ++ given x false chunk
  unfolding given
  out_on = ap (λ (y : List Rec × (State × ℕ)). y.0) fed_are ∙ ap (λ (y : List Rec). out p s ++ y) (sym (append-nil _))

-- ---- behind any accepted calls
pub behind : {p : ℕ} (cs : List Taken) {s : List ℕ} {x : Lexer} → Stands p s x → Stands p (s ++ text_of_all cs) (after x cs) × (out p (s ++ text_of_all cs) ≡ out p s ++ handed_in x cs)
unfolding after handed_in text_of_all
behind {p} [] {s} h = (rw append-nil h, ap (out p) (append-nil s) ∙ sym (append-nil (out p s)))
behind {p} (c ∷ cs) {s} {x} h =
    let y = accepted x false c.chunk c.carry in
    let j = behind cs (on h c.chunk c.carry) in (
      rw append_assoc at j.0,
      rw (← append_assoc s c.chunk (text_of_all cs)) (j.1 ∙ ap (λ (l : List Rec). l ++ handed_in y cs) (out_on h c.chunk) ∙ append_assoc (out p s) (given x false c.chunk) (handed_in y cs)),
    )

-- at the start it stands behind no text
pub stands : (p : ℕ) → Stands p [] (started p)
unfolding feeds
stands p =
    record {
      same = refl;
      rest = sym (drop-nil (valid_up_to []));
      long = refl;
      there = sym (ap (λ (l : List ℕ). (feeds unicode p 0 idle l).1) no_chars);
    }

out_none : (p : ℕ) → out p [] ≡ []
unfolding feeds
out_none p = ap (λ (l : List ℕ). (feeds unicode p 0 idle l).0) no_chars

-- THE STATE IS A FUNCTION OF THE HISTORY, and so is what was handed out
pub state_of_history : (p : ℕ) (cs : List Taken) → Stands p (text_of_all cs) (after (started p) cs)
state_of_history p cs = (behind cs (stands p)).0

pub handed_history : (p : ℕ) (cs : List Taken) → handed_in (started p) cs ≡ out p (text_of_all cs)
handed_history p cs = sym ((behind cs (stands p)).1 ∙ ap (λ (y : List Rec). y ++ handed_in (started p) cs) (out_none p))
