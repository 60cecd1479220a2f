-- REFUSALS: what an accepted call has passed; 1, 4 and 5 change nothing, and 2, 3 and 7 end the lexer; behind these and behind the finish every call answers 5
-- with 0 for good; and 5 is answered to no other lexer, but to values that are none.
-- Assumes nothing.
use Prim.Native.Nat.{ℕ, ◌+◌, ◌-◌, ◌/◌, ◌≤◌}
use native.Mathlib.Omega.{arith}
use mathlib.Core.Path.{◌≡◌, refl, ap}
use mathlib.Core.Logic.{◌↔◌}
use mathlib.Core.Bool.{Bool, true, false, not, cond, ◌||◌, false≢true}
use mathlib.Core.List.{List, [], ◌∷◌}
use lib.Dec.{eqb, ltb}
use lib.ListN.{length}
use borrow.Author.Tests.{ltb-false, eqb-true, eqb-false, ne_eqb, not-false}
use Rattle.lists.proofs.Bools.{by_test}
use Rattle.characters.specs.Utf8.{valid_up_to}
use Rattle.characters.specs.Unfinished.{unfinished}
use Rattle.characters.specs.Direction.{unmarked, unmarked_up_to}
use Rattle.text.specs.Answer.{done, unknown_selector, too_long, not_utf8, room_too_small, direction_mark, longest, check_room, ◌and_then◌}
use Rattle.cutters.specs.Records.{record_words}
use Rattle.feeding.specs.Begun.{whole, beyond, fault_of}
use Rattle.feeding.specs.Lexer.{Lexer, running}
use Rattle.feeding.specs.Call.{not_open, known_in_parts, bytes, given, fed_all, answer, accepted, shut, next_lexer, next_carry, next_list}

-- ---- what a row of checks says
pub then_done : (x y : ℕ × ℕ) → (x and_then y).0 ≡ done → (x.0 ≡ done) × (y.0 ≡ done)
then_done x y h = by_test (eqb x.0 done) (λ e. (eqb-true x.0 done e, rw e at h)) (λ e. absurd (eqb-false x.0 done e (rw e at h)))

-- a number that none of two checks gives, they do not give in order
then_never : (n : ℕ) (x y : ℕ × ℕ) → (x.0 ≡ n → ⊥) → (y.0 ≡ n → ⊥) → (x and_then y).0 ≡ n → ⊥
then_never n x y f g h = by_test (eqb x.0 done) (λ e. g (rw e at h)) (λ e. f (rw e at h))

cond_never : (n : ℕ) (b : Bool) (x y : ℕ × ℕ) → (x.0 ≡ n → ⊥) → (y.0 ≡ n → ⊥) → (cond b x y).0 ≡ n → ⊥
cond_never n true x y f g = f
cond_never n false x y f g = g

pub cond_done : (b : Bool) (n m : ℕ) → (n ≡ done → ⊥) → (cond {A = ℕ × ℕ} b (done, 0) (n, m)).0 ≡ done → b ≡ true
cond_done true n m f h = refl
cond_done false n m f h = absurd (f h)

pub cond_not : (b : Bool) (x y : ℕ × ℕ) → (x.0 ≡ done → ⊥) → (cond b x y).0 ≡ done → b ≡ false
cond_not true x y f h = absurd (f h)
cond_not false x y f h = refl

pub neither : (p q : Bool) → (p || q) ≡ false → (p ≡ false) × (q ≡ false)
neither true q h = absurd (false≢true (rw h))
neither false q h = (refl, h)

-- ---- the fault of a text, and what has none
abbrev goes_on : Bool → List ℕ → Bool
goes_on last s = cond last (eqb (length (beyond s)) 0) (unfinished (beyond s))

abbrev mark_fault : ℕ → List ℕ → ℕ × ℕ
mark_fault at s = cond (unmarked (whole s)) (done, 0) (direction_mark, at + unmarked_up_to (whole s))

abbrev bad_fault : Bool → ℕ → List ℕ → ℕ × ℕ
bad_fault last at s = cond (goes_on last s) (done, 0) (not_utf8, at + valid_up_to s)

pub no_fault : (last : Bool) (at : ℕ) (s : List ℕ) → (fault_of last at s).0 ≡ done → (unmarked (whole s) ≡ true) × (cond last (eqb (length (beyond s)) 0) (unfinished (beyond s)) ≡ true)
unfolding fault_of
no_fault last at s h =
    let t = then_done (mark_fault at s) (bad_fault last at s) h in
    (cond_done (unmarked (whole s)) direction_mark _ (λ e. omega arith) t.0, cond_done (goes_on last s) not_utf8 _ (λ e. omega arith) t.1)

fault_never : (n : ℕ) (last : Bool) (at : ℕ) (s : List ℕ) → (n ≡ done → ⊥) → (n ≡ direction_mark → ⊥) → (n ≡ not_utf8 → ⊥) → (fault_of last at s).0 ≡ n → ⊥
unfolding fault_of
fault_never n last at s f g h =
    then_never n (mark_fault at s) (bad_fault last at s)
    (cond_never n (unmarked (whole s)) _ _ (λ k. f (omega arith)) (λ k. g (omega arith)))
    (cond_never n (goes_on last s) _ _ (λ k. f (omega arith)) (λ k. h (omega arith)))

-- ---- what holds where a call is accepted
pub record Passed (x : Lexer) (last : Bool) (chunk : List ℕ) (room : ℕ) : Type 0 where
  pub still : x.over ≡ false
  pub runs : running x ≡ true
  pub known : known_in_parts x.profile ≡ true
  pub short : fed_all x last chunk ≤ longest
  pub clean : unmarked (whole (bytes x last chunk)) ≡ true
  pub goes : cond last (eqb (length (beyond (bytes x last chunk))) 0) (unfinished (beyond (bytes x last chunk))) ≡ true
  pub fits : length (given x last chunk) ≤ room / record_words

module _ (x : Lexer) (last : Bool) (chunk : List ℕ) where
  abbrev not_now : Bool
  not_now = x.over || not (running x)

  abbrev opened : ℕ × ℕ
  opened = cond not_now (not_open, 0) (done, 0)

  abbrev profile : ℕ × ℕ
  profile = cond (known_in_parts x.profile) (done, 0) (unknown_selector, 0)

  abbrev long : ℕ × ℕ
  long = cond (ltb longest (fed_all x last chunk)) (too_long, 0) (done, 0)

  abbrev fault : ℕ × ℕ
  fault = fault_of last (x.fed - length x.pend) (bytes x last chunk)

  abbrev fit : ℕ → ℕ × ℕ
  fit room = check_room (room / record_words) (length (given x last chunk))

  module _ (room : ℕ) where
    pub passed : (answer x last chunk room).0 ≡ done → Passed x last chunk room
    unfolding answer
    passed h =
        let p = then_done opened (profile and_then (long and_then (fault and_then fit room))) h in
        let q = then_done profile (long and_then (fault and_then fit room)) p.1 in
        let r = then_done long (fault and_then fit room) q.1 in
        let s = then_done fault (fit room) r.1 in
        let o = neither x.over (not (running x)) (cond_not not_now (not_open, 0) (done, 0) (λ e. omega arith) p.0) in
        let f = no_fault last (x.fed - length x.pend) (bytes x last chunk) s.0 in
        record {
          still = o.0;
          runs = not-false (running x) o.1;
          known = cond_done (known_in_parts x.profile) unknown_selector 0 (λ e. omega arith) q.0;
          short = ltb-false longest (fed_all x last chunk) (cond_not (ltb longest (fed_all x last chunk)) (too_long, 0) (done, 0) (λ e. omega arith) r.0);
          clean = f.0;
          goes = f.1;
          fits = ltb-false (room / record_words) (length (given x last chunk)) (cond_not (ltb (room / record_words) (length (given x last chunk))) _ _ (λ e. omega arith) s.1);
        }

    -- ---- 5: to a lexer that is over and to what is no lexer, and to nothing else
    pub five : not_now ≡ true → answer x last chunk room ≡ (not_open, 0)
    unfolding answer
    five h = rw h

    pub over_five : x.over ≡ true → answer x last chunk room ≡ (not_open, 0)
    over_five h = five (rw h)

    pub five_exactly : ((answer x last chunk room).0 ≡ not_open) ↔ ((x.over || not (running x)) ≡ true)
    unfolding answer
    five_exactly = (only, λ h. ap (λ (r : ℕ × ℕ). r.0) (five h))
      where
        only : (answer x last chunk room).0 ≡ not_open → not_now ≡ true
        only h =
            by_test not_now (λ e. e)
            (λ e. absurd (then_never not_open opened (profile and_then (long and_then (fault and_then fit room)))
            (λ k. omega (arith, rw e at k))
            (then_never not_open profile (long and_then (fault and_then fit room))
            (cond_never not_open (known_in_parts x.profile) _ _ (λ k. omega arith) (λ k. omega arith))
            (then_never not_open long (fault and_then fit room)
            (cond_never not_open (ltb longest (fed_all x last chunk)) _ _ (λ k. omega arith) (λ k. omega arith))
            (then_never not_open fault (fit room)
            (fault_never not_open last _ (bytes x last chunk) (λ k. omega arith) (λ k. omega arith) (λ k. omega arith))
            (cond_never not_open (ltb (room / record_words) (length (given x last chunk))) _ _ (λ k. omega arith) (λ k. omega arith)))))
            h))

  -- ---- what a refusal changes
  -- the list
  pub list_unchanged : (list : List ℕ) → ((answer x last chunk (length list)).0 ≡ done → ⊥) → next_list x last chunk list ≡ list
  unfolding next_list
  list_unchanged list f = rw (ne_eqb (answer x last chunk (length list)).0 done f)

  module _ (carry : List ℕ) (room : ℕ) where
    -- the carry
    pub carry_unchanged : ((answer x last chunk room).0 ≡ done → ⊥) → next_carry x last chunk carry room ≡ carry
    unfolding next_carry
    carry_unchanged f = rw (ne_eqb (answer x last chunk room).0 done f)

    -- and, but for 2, 3 and 7, the lexer
    pub unchanged : (n : ℕ) → (answer x last chunk room).0 ≡ n → (n ≡ done → ⊥) → (n ≡ too_long → ⊥) → (n ≡ not_utf8 → ⊥) → (n ≡ direction_mark → ⊥) → next_lexer x last chunk carry room ≡ x
    unfolding next_lexer
    unchanged n e f g h i = rw (e, ne_eqb n done f, ne_eqb n too_long g, ne_eqb n not_utf8 h, ne_eqb n direction_mark i)

    -- TOO LITTLE ROOM CHANGES NOTHING
    pub four_nothing : (answer x last chunk room).0 ≡ room_too_small → (next_lexer x last chunk carry room ≡ x) × (next_carry x last chunk carry room ≡ carry)
    four_nothing e = (unchanged room_too_small e (λ h. omega arith) (λ h. omega arith) (λ h. omega arith) (λ h. omega arith), carry_unchanged (λ h. omega arith))

    pub over_stays : x.over ≡ true → next_lexer x last chunk carry room ≡ x
    over_stays h = unchanged not_open (ap (λ (r : ℕ × ℕ). r.0) (over_five room h)) (λ h. omega arith) (λ h. omega arith) (λ h. omega arith) (λ h. omega arith)

    -- ---- what ends it: the finish, and 2, 3 and 7
    pub accepts : (answer x last chunk room).0 ≡ done → next_lexer x last chunk carry room ≡ accepted x last chunk carry
    unfolding next_lexer
    accepts e = rw e

    pub shuts : (n : ℕ) → (answer x last chunk room).0 ≡ n → (eqb n too_long || (eqb n not_utf8 || eqb n direction_mark)) ≡ true → next_lexer x last chunk carry room ≡ shut x last chunk carry
    unfolding next_lexer
    shuts n e h = by_test (eqb n done) (λ f. absurd (clash n f h)) (λ f. rw (e, f, h))
      where
        clash : (n : ℕ) → eqb n done ≡ true → (eqb n too_long || (eqb n not_utf8 || eqb n direction_mark)) ≡ true → ⊥
        clash n f h = let z : n ≡ 0 = eqb-true n done f in false≢true (rw z at h)

-- ---- all the calls that follow
pub record Call : Type 0 where
  pub last : Bool
  pub chunk : List ℕ
  pub carry : List ℕ
  pub room : ℕ

-- their answers in turn
unfoldable pub answers : Lexer → List Call → List (ℕ × ℕ)
answers x [] = []
answers x (c ∷ cs) = answer x c.last c.chunk c.room ∷ answers (next_lexer x c.last c.chunk c.carry c.room) cs

-- 5 with 0 for each
unfoldable pub fives : List Call → List (ℕ × ℕ)
fives [] = []
fives (c ∷ cs) = (not_open, 0) ∷ fives cs

-- OVER IS OVER
pub five_for_good : (x : Lexer) (cs : List Call) → x.over ≡ true → answers x cs ≡ fives cs
unfolding answers fives
five_for_good x [] h = refl
five_for_good x (c ∷ cs) h =
    rw (over_five x c.last c.chunk c.room h, over_stays x c.last c.chunk c.carry c.room h, five_for_good x cs h)

-- so behind the finish
pub finished_for_good : (x : Lexer) (chunk carry : List ℕ) (room : ℕ) (cs : List Call) → (answer x true chunk room).0 ≡ done → answers (next_lexer x true chunk carry room) cs ≡ fives cs
finished_for_good x chunk carry room cs e = rw (accepts x true chunk carry room e) (five_for_good (accepted x true chunk carry) cs refl)

-- and behind a refusal that ends the lexer
pub refused_for_good : (x : Lexer) (last : Bool) (chunk carry : List ℕ) (room n : ℕ) (cs : List Call) → (answer x last chunk room).0 ≡ n →
    (eqb n too_long || (eqb n not_utf8 || eqb n direction_mark)) ≡ true → answers (next_lexer x last chunk carry room) cs ≡ fives cs
refused_for_good x last chunk carry room n cs e h = rw (shuts x last chunk carry room n e h) (five_for_good (shut x last chunk carry) cs refl)
