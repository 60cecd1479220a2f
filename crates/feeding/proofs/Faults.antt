-- FAULTS ARE THE WHOLE TEXT'S: behind accepted calls the refusals 2, 3 and 7 of a call and their places are those of the whole text so far. Of a mark and of bad
-- bytes the first in the text is given; and bytes are bad exactly once nothing could follow that makes them well-formed.
-- Assumes nothing.
use Prim.Native.Nat.{ℕ, ◌+◌, ◌-◌, ◌/◌, ◌<◌}
use native.Mathlib.Omega.{arith}
use mathlib.Core.Path.{◌≡◌, refl, ap, ap₂, sym, ◌∙◌}
use mathlib.Core.Logic.{◌↔◌}
use mathlib.Core.Bool.{Bool, true, false, not, cond, false≢true}
use mathlib.Core.List.{List, [], ◌∷◌, ◌++◌, append_assoc, append-nil}
use lib.Dec.{eqb, ltb}
use lib.ListN.{length, length-append, length-drop}
use lib.Seq.{take_all}
use borrow.Author.Tests.{not-true, eqb-true, eq-eqb}
use Rattle.lists.specs.All.{all}
use Rattle.lists.proofs.All.{all_append}
use Rattle.lists.proofs.Bools.{by_test, both}
use Rattle.characters.specs.Utf8.{chars, bytes_before, valid_up_to, WellFormed}
use Rattle.characters.specs.Unfinished.{unfinished}
use Rattle.characters.specs.Text.{byte_length}
use Rattle.characters.specs.Direction.{is_direction, unmarked, unmarked_up_to}
use Rattle.characters.proofs.Text.{bytes_chars}
use Rattle.characters.proofs.Valid.{valid_within}
use Rattle.characters.proofs.Direction.{marked_before}
use Rattle.text.specs.Answer.{done, unknown_selector, too_long, longest, check_room, ◌and_then◌}
use Rattle.cutters.specs.Records.{record_words}
use Rattle.feeding.specs.Begun.{whole, beyond, fault_of}
use Rattle.feeding.specs.Lexer.{Lexer, started, running}
use Rattle.feeding.specs.Call.{known_in_parts, bytes, given, fed_all, answer}
use Rattle.feeding.specs.History.{Taken, after, text_of_all}
use Rattle.feeding.proofs.Begun.{no_chars, whole_long, good_is, beyond_on, whole_chars}
use Rattle.feeding.proofs.History.{Stands, stands, bytes_are, on, state_of_history}
use Rattle.feeding.proofs.Unfinished.{Completed, unfinished_exactly}
use Rattle.feeding.proofs.Refusals.{no_fault, passed}
use Rattle.feeding.proofs.Running.{AllAccepted, still_open, running_history}

-- ---- a mark, where a text goes on
all_behind : (p : ℕ → Bool) (a b : List ℕ) → all p a ≡ true → all p (a ++ b) ≡ all p b
unfolding all
all_behind p [] b h = refl
all_behind p (c ∷ a) b h = let k = both (p c) (all p a) h in rw (k.0, all_behind p a b k.1)

before_behind : (p : ℕ → Bool) (a b : List ℕ) → all (λ c. not (p c)) a ≡ true → bytes_before p (a ++ b) ≡ byte_length a + bytes_before p b
unfolding all bytes_before byte_length
before_behind p [] b h = omega arith
before_behind p (c ∷ a) b h =
    let k = both (not (p c)) (all (λ c. not (p c)) a) h in
    rw (not-true (p c) k.0, before_behind p a b k.1) (omega arith)

module _ (s chunk : List ℕ) (clean : unmarked (whole s) ≡ true) where
  marks_on : unmarked (whole (s ++ chunk)) ≡ unmarked (whole (beyond s ++ chunk))
  unfolding unmarked
  marks_on = ap (all (λ c. not (is_direction c))) (whole_chars s chunk) ∙ all_behind (λ c. not (is_direction c)) (chars (whole s)) (chars (whole (beyond s ++ chunk))) clean

  place_on : unmarked_up_to (whole (s ++ chunk)) ≡ valid_up_to s + unmarked_up_to (whole (beyond s ++ chunk))
  unfolding unmarked unmarked_up_to
  place_on =
      ap (bytes_before is_direction) (whole_chars s chunk) ∙ before_behind is_direction (chars (whole s)) (chars (whole (beyond s ++ chunk))) clean
      ∙ ap (λ (n : ℕ). n + bytes_before is_direction (chars (whole (beyond s ++ chunk)))) (bytes_chars (whole s) ∙ whole_long s)

  -- a lexer that looks only at the bytes behind the whole characters of s, and at the chunk, finds the fault of all of it
  pub fault_is : (last : Bool) → fault_of last (valid_up_to s) (beyond s ++ chunk) ≡ fault_of last 0 (s ++ chunk)
  unfolding fault_of
  fault_is last =
      let z : (n : ℕ) → 0 + n ≡ n = λ n. omega arith in
      rw (marks_on, z (unmarked_up_to (whole (s ++ chunk))), z (valid_up_to (s ++ chunk)), place_on, beyond_on s chunk, good_is s chunk)

-- ---- the answer, by the whole text t, for a list with room for so many records where so many are handed out
abbrev pub judged : ℕ → Bool → List ℕ → ℕ → ℕ → ℕ × ℕ
judged profile last t room need =
    cond (known_in_parts profile) (done, 0) (unknown_selector, 0)
    and_then (cond (ltb longest (length t)) (too_long, 0) (done, 0)
    and_then (fault_of last 0 t
    and_then check_room room need))

pub answer_is : {p : ℕ} {s : List ℕ} {x : Lexer} → Stands p s x → x.over ≡ false → running x ≡ true → unmarked (whole s) ≡ true → (last : Bool) (chunk : List ℕ) (room : ℕ) →
    answer x last chunk room ≡ judged p last (s ++ chunk) (room / record_words) (length (given x last chunk))
unfolding answer
answer_is {p} {s} {x} h o r clean last chunk room =
    let n : x.fed - length x.pend ≡ valid_up_to s = omega (arith, h.long, ap length h.rest, length-drop (valid_up_to s) s, valid_within s) in
    let f : fault_of last (x.fed - length x.pend) (bytes x last chunk) ≡ fault_of last 0 (s ++ chunk) = ap₂ (λ (k : ℕ) (y : List ℕ). fault_of last k y) n (bytes_are h chunk) ∙ fault_is s chunk clean last in
    let l : fed_all x last chunk ≡ length (s ++ chunk) = omega (arith, h.long, length-append s chunk) in
    rw (r, f, l, o, h.same)

-- ---- behind accepted calls there is no mark
clean_all : {p : ℕ} (cs : List Taken) {s : List ℕ} {x : Lexer} → Stands p s x → unmarked (whole s) ≡ true → AllAccepted x cs → unmarked (whole (s ++ text_of_all cs)) ≡ true
unfolding text_of_all
clean_all [] {s} h clean a = ap (λ (y : List ℕ). unmarked (whole y)) (append-nil s) ∙ clean
clean_all (c ∷ cs) {s} {x} h clean a =
    let k : unmarked (whole (s ++ c.chunk)) ≡ true = marks_on s c.chunk clean ∙ ap (λ (y : List ℕ). unmarked (whole y)) (sym (bytes_are h c.chunk)) ∙ (passed x false c.chunk a.0.room a.0.is).clean in
    ap (λ (y : List ℕ). unmarked (whole y)) (sym (append_assoc s c.chunk (text_of_all cs))) ∙ clean_all cs (on h c.chunk c.carry) k a.1

clean_none : unmarked (whole []) ≡ true
unfolding unmarked all
clean_none = ap (all (λ c. not (is_direction c))) no_chars

-- FROM THE START ON: behind accepted calls the answer is the judgement of the whole text, whatever its parts
pub answer_of_history : (p : ℕ) (cs : List Taken) → AllAccepted (started p) cs → (last : Bool) (chunk : List ℕ) (room : ℕ) →
    let x = after (started p) cs in
    answer x last chunk room ≡ judged p last (text_of_all cs ++ chunk) (room / record_words) (length (given x last chunk))
answer_of_history p cs a =
    answer_is (state_of_history p cs) (still_open cs (started p) refl) (running_history p cs a) (clean_all cs (stands p) clean_none a)

-- ---- why a mark goes first: one among the whole characters stands before the bad bytes
pub mark_first : (s : List ℕ) → unmarked (whole s) ≡ false → unmarked_up_to (whole s) < valid_up_to s
mark_first s h = omega (arith, marked_before (whole s) h, whole_long s)

-- BAD, EXACTLY: where no bytes put behind the text make it well-formed
pub bad_exactly : (s : List ℕ) → (unfinished (beyond s) ≡ false) ↔ (Completed s → ⊥)
bad_exactly s = (
  (λ h c. false≢true (sym h ∙ (unfinished_exactly s).1 c)),
  (λ n. by_test (unfinished (beyond s)) (λ e. absurd (n ((unfinished_exactly s).0 e))) (λ e. e)),
)

-- ---- texts that are good to the end are refused nowhere
whole_all : (t : List ℕ) → WellFormed t → whole t ≡ t
whole_all t g = take_all (valid_up_to t) t (omega (arith, g))

-- a well-formed text without marks may be cut anywhere: what comes before the cut has no fault
pub good_on_the_way : (s z : List ℕ) → WellFormed (s ++ z) → unmarked (s ++ z) ≡ true → fault_of false 0 s ≡ (done, 0)
unfolding fault_of unmarked
good_on_the_way s z g m =
    let p : ℕ → Bool = λ c. not (is_direction c) in
    let e : chars (s ++ z) ≡ chars (whole s) ++ chars (whole (beyond s ++ z)) = ap chars (sym (whole_all (s ++ z) g)) ∙ whole_chars s z in
    let u : unmarked (whole s) ≡ true = (all_append p (chars (whole s)) (chars (whole (beyond s ++ z))) (ap (all p) (sym e) ∙ m)).0 in
    let v : unfinished (beyond s) ≡ true = (unfinished_exactly s).1 (record { rest = z; good = g }) in
    rw (u, v)

-- and the finish finds no fault in exactly these
pub finish_as_whole : (t : List ℕ) → (fault_of true 0 t ≡ (done, 0)) ↔ (WellFormed t × (unmarked t ≡ true))
unfolding fault_of
finish_as_whole t = (
  (λ h.
      let f = no_fault true 0 t (ap (λ (r : ℕ × ℕ). r.0) h) in
      let n : length (beyond t) ≡ 0 = eqb-true (length (beyond t)) 0 f.1 in
      let g : WellFormed t = omega (arith, n, length-drop (valid_up_to t) t, valid_within t) in
      (g, ap unmarked (sym (whole_all t g)) ∙ f.0)),
  (λ c.
      let u : unmarked (whole t) ≡ true = ap unmarked (whole_all t c.0) ∙ c.1 in
      let v : eqb (length (beyond t)) 0 ≡ true = eq-eqb (length (beyond t)) 0 (omega (arith, c.0, length-drop (valid_up_to t) t)) in
      rw (u, v)),
)
