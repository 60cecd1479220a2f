-- A CALL: what its checks say, what its passes come to, and what is handed back, for every value of the lexer.
-- Assumes nothing.
use Prim.Native.Nat.{ℕ, ◌+◌, ◌-◌, ◌/◌, ◌≤◌}
use mathlib.Core.Path.{◌≡◌, refl, ap, sym, ◌∙◌}
use mathlib.Core.Bool.{Bool, true, false, not, cond, ◌||◌}
use mathlib.Core.List.{List, [], ◌∷◌, ◌++◌}
use native.Mathlib.Omega.{arith}
use lib.Dec.{eqb, ltb}
use Rattle.std.specs.Prelude.{Ok, Err}
use lib.ListN.{length, drop, length-append, length-take, length-drop}
use borrow.Author.Tests.{eqb-true, le-ltb, ltb-false, not-false}
use Rattle.lists.specs.Over.{over}
use Rattle.lists.proofs.Bools.{by_test}
use Rattle.lists.proofs.Store.{stored_front}
use Rattle.characters.specs.Utf8.{chars, valid_up_to}
use Rattle.characters.specs.Text.{byte_length}
use Rattle.characters.proofs.Text.{bytes_chars, bytes_append}
use Rattle.characters.proofs.Valid.{valid_within}
use Rattle.text.specs.Answer.{done, unknown_selector, too_long, longest, check_room, ◌and_then◌}
use Rattle.cutters.specs.Records.{record_words}
use Rattle.lexer.specs.Cut.{Letters}
use Rattle.lexer.specs.Unicode.{unicode}
use Rattle.feeding.specs.Fed.{Rec, words, State, idle, finish}
use Rattle.feeding.specs.Begun.{whole, beyond, fault_of}
use Rattle.feeding.specs.Lexer.{Lexer, taken, running}
use Rattle.feeding.specs.Call.{not_open, known_in_parts, fed_to, given, fed_all, next_begun, answer, early, places, sequence, there, up_to, keeps, accepted, next_carry, next_list}
use Rattle.feeding.proofs.Begun.{whole_long}
use Rattle.feeding.proofs.Refusals.{then_done, cond_not, neither, no_fault}
use Rattle.feeding.proofs.Running.{Runs, from_running, to_fits, runs_short, all_fed}
use Rattle.feeding.proofs.Tiles.{Early, few_fed, few_last, next_within, given_early}
use Rattle.feeding.proofs.Carry.{places_long, up_more, up_stop, kept_long}
use Rattle.parts.specs.Coded.{state_of, packed_pend, meaning, packed}
use Rattle.parts.specs.Promises.{next_of, Called}
use Rattle.parts.specs.Refusals.{feed_refused}
use Rattle.parts.specs.Steps.{first_of, passed, PassReady, Gone, behind_as, check_of, Checked, CallReady, AcceptReady, Accepted, Refused, Delivered, Attempted, kept_bytes, Kept, end_in}
use Rattle.text.specs.declared.Refusal.{Refusal}
use Rattle.text.specs.declared.Refusal.TheVariants.{UnknownSelector, TooLong, NotUtf8, RoomTooSmall, DirectionMark}
use Rattle.parts.specs.declared.refusals.FeedRefusal.{FeedRefusal}
use Rattle.parts.specs.declared.refusals.FeedRefusal.TheVariants.{NotOpen, Text}
use Rattle.parts.specs.declared.check.Scan.{Scan}
use Rattle.parts.specs.declared.passes.Went.{Went}
use Rattle.parts.specs.declared.Lexer as D
use Rattle.parts.specs.declared.pend.Pend.{Pend}
use Rattle.parts.specs.declared.Fed.{Fed}
use Rattle.parts.proofs.Passing.{words_long, few_chars}
use Rattle.parts.proofs.Keeping.{end_in_front, keeps_is}

-- ---- checks in order
then_assoc : (x y z : ℕ × ℕ) → (x and_then y) and_then z ≡ x and_then (y and_then z)
then_assoc x y z = by_test (eqb x.0 done) (λ e. rw e) (λ e. rw (e, e))

module _ (x : Lexer) (last : Bool) (chunk : List ℕ) where
  abbrev opened : ℕ × ℕ
  opened = cond (x.over || not (running x)) (not_open, 0) (done, 0)

  abbrev known : ℕ × ℕ
  known = cond (known_in_parts x.profile) (done, 0) (unknown_selector, 0)

  abbrev fitting : ℕ × ℕ
  fitting = cond (ltb longest (fed_all x last chunk)) (too_long, 0) (done, 0)

  abbrev fault : ℕ × ℕ
  fault = fault_of last (x.fed - length x.pend) (x.pend ++ chunk)

  pub answer_then : (room : ℕ) → answer x last chunk room ≡ check_of x last chunk and_then check_room (room / record_words) (length (given x last chunk))
  unfolding answer check_of
  answer_then room =
      let z = check_room (room / record_words) (length (given x last chunk)) in
      sym (then_assoc opened (known and_then (fitting and_then fault)) z
      ∙ ap (λ (y : ℕ × ℕ). opened and_then y) (then_assoc known (fitting and_then fault) z
      ∙ ap (λ (y : ℕ × ℕ). known and_then y) (then_assoc fitting fault z)))

  pub check_ready : (c : Scan) → Checked x last chunk (Ok c) → CallReady x last chunk c
  unfolding check_of
  check_ready c k =
      let a = then_done opened (known and_then (fitting and_then fault)) (ap (λ (z : ℕ × ℕ). z.0) k.0) in
      let b = then_done known (fitting and_then fault) a.1 in
      let d = then_done fitting fault b.1 in
      let r = neither x.over (not (running x)) (cond_not (x.over || not (running x)) (not_open, 0) (done, 0) (λ z. omega (arith, z)) a.0) in
      let s : fed_all x last chunk ≤ longest = ltb-false longest (fed_all x last chunk) (cond_not (ltb longest (fed_all x last chunk)) (too_long, 0) (done, 0) (λ z. omega (arith, z)) d.0) in
      let f = no_fault last (x.fed - length x.pend) (x.pend ++ chunk) d.1 in
      record {
        runs = not-false (running x) r.1;
        short = s;
        whole = λ l. eqb-true (length (beyond (x.pend ++ chunk))) 0 (rw l at f.1);
        good = k.1;
      }

-- ---- what the passes come to
module _ {x : Lexer} {last : Bool} {chunk : List ℕ} {c : Scan} (k : CallReady x last chunk c) where
  abbrev b : List ℕ
  b = x.pend ++ chunk

  abbrev part : List ℕ
  part = c.text.now

  abbrev fed : List ℕ
  fed = first_of c.head ++ chars part

  runs : Runs x
  runs = from_running x k.runs

  are : chars (whole b) ≡ fed
  are = k.good.are

  -- all bytes up to the unfinished character
  sum : byte_length (first_of c.head) + length part ≡ length (whole b)
  sum = omega (arith, bytes_append (first_of c.head) (chars part), bytes_chars part, ap byte_length are, bytes_chars (whole b))

  beside : length (whole b) + length (beyond b) ≡ length x.pend + length chunk
  beside = omega (arith, whole_long b, length-drop (valid_up_to b) b, valid_within b, length-append x.pend chunk)

  pub pass_is : passed unicode x.profile x.begun x.state fed last ≡ (given x last chunk, (cond last idle (fed_to x last chunk).1.0, next_begun x last chunk))
  unfolding passed given
  pass_is = rw (sym are) (by last refl)
    where
      by : (l : Bool) → last ≡ l → (let r = fed_to x last chunk in ◌≡◌ {A = List Rec × (State × ℕ)} (r.0 ++ cond last (finish unicode x.profile r.1.1 r.1.0) [], cond last (idle, r.1.1 + taken r.1.0) r.1) (r.0 ++ cond last (finish unicode x.profile r.1.1 r.1.0) [], (cond last idle r.1.0, cond last (x.fed + length chunk) r.1.1)))
      by true e =
          let z : (fed_to x last chunk).1.1 + taken (fed_to x last chunk).1.0 ≡ x.fed + length chunk = omega (arith, all_fed x runs last chunk, k.whole e) in
          rw (e, z)
      by false e = rw e

  few : length (given x last chunk) ≤ length chunk + 5
  few = by last refl
    where
      chars_few : length (chars (whole b)) ≤ length (whole b)
      chars_few = few_chars (whole b)

      by : (l : Bool) → last ≡ l → length (given x last chunk) ≤ length chunk + 5
      by true e = rw e (omega (arith, few_last x chunk, chars_few, beside, runs_short runs))
      by false e = rw e (omega (arith, few_fed x chunk, chars_few, beside, runs_short runs))

  -- what a pass asks, where the records that are stored have room
  pub pass_ready : {u : Letters} {s : State} {write : Bool} {list : List ℕ} → u ≡ unicode → s ≡ x.state → (write ≡ true → length (given x last chunk) ≤ length list / record_words) → PassReady u x.profile x.begun s c.head part last write list
  pass_ready i e room =
      rw (i, e)
      (record {
        fit = to_fits x.state runs.fit;
        small = omega (arith, sum, beside, runs.all, k.short);
        room = λ w. omega (arith, ap (λ (z : List Rec × (State × ℕ)). length (words z.0)) pass_is, words_long (given x last chunk), room w);
      })

  pub gone_is : {u : Letters} {s : State} {write : Bool} {list list' : List ℕ} {w : Went} → u ≡ unicode → s ≡ x.state → Gone (passed u x.profile x.begun s fed last) write list 0 w list' → Gone (given x last chunk, (cond last idle (fed_to x last chunk).1.0, next_begun x last chunk)) write list 0 w list'
  gone_is i e g = rw (i, e, pass_is) at g

  -- ---- the room
  pub room_enough : {room : ℕ} → length chunk + 5 ≤ room → length (given x last chunk) ≤ room
  room_enough h = omega (arith, few)

  pub need_is : {write : Bool} {list list' : List ℕ} {w : Went} {s : State × ℕ} → Gone (given x last chunk, s) write list 0 w list' → w.words / record_words ≡ length (given x last chunk)
  need_is g = omega (arith, g.stored.next, words_long (given x last chunk))

-- behind the pass that stores
pub stores : (x : Lexer) (last : Bool) (chunk : List ℕ) {list list' : List ℕ} {w : Went} {s : State × ℕ} → length (given x last chunk) ≤ length list / record_words → Gone (given x last chunk, s) true list 0 w list' → list' ≡ over (words (given x last chunk)) list
stores x last chunk {list} room h =
    stored_front (words (given x last chunk)) list h.stored.same (omega (arith, words_long (given x last chunk), room))

pub accept_ready : {x : D.Lexer} {last : Bool} {chunk : List ℕ} {c : Scan} (k : CallReady (meaning x) last chunk c) {list list' : List ℕ} {w : Went} → length (given (meaning x) last chunk) ≤ length list / record_words → Gone (given (meaning x) last chunk, (cond last idle (fed_to (meaning x) last chunk).1.0, next_begun (meaning x) last chunk)) true list 0 w list' → AcceptReady x last chunk c.pend w list'
accept_ready {x} {last} {chunk} {c} k {list} room h =
    let y = meaning x in
    record {
      runs = k.runs;
      short = k.short;
      whole = k.whole;
      beyond_is = k.good.rest;
      state_is = ap (λ (z : State × ℕ). z.0) h.behind;
      begun_is = ap (λ (z : State × ℕ). z.1) h.behind;
      many = omega (arith, h.stored.next);
      rest = drop (length (words (given y last chunk))) list;
      front = stores y last chunk room h;
    }

-- ---- the carry and the next value
module _ (x : Lexer) (last : Bool) (chunk carry : List ℕ) where
  up_few : (is : List ℕ) → length (up_to x last chunk carry is) ≤ length is
  unfolding up_to
  up_few [] = omega arith
  up_few (i ∷ is) =
      by_test (there x last chunk carry i)
      (λ e. rw (up_more x last chunk carry i is e) (omega (arith, up_few is)))
      (λ e. rw (up_stop x last chunk carry i is e) (omega arith))

  kept_few : length (keeps x last chunk carry) ≤ early x last chunk - x.begun + (fed_all x last chunk - next_begun x last chunk)
  unfolding keeps sequence
  kept_few =
      let a = places x.begun (early x last chunk - x.begun) in
      let b = places (next_begun x last chunk) (fed_all x last chunk - next_begun x last chunk) in
      omega (arith, length-take (length carry) (up_to x last chunk carry (a ++ b)), up_few (a ++ b), length-append a b, places_long (early x last chunk - x.begun) x.begun, places_long (fed_all x last chunk - next_begun x last chunk) (next_begun x last chunk))

module _ {x : D.Lexer} {last : Bool} {chunk : List ℕ} {pend : Pend} {w : Went} {list : List ℕ} (k : AcceptReady x last chunk pend w list) where
  abbrev y : Lexer
  y = meaning x

  goes : Runs y
  goes = from_running y k.runs

  soon : Early x.fed x.begun (next_begun y last chunk) (early y last chunk)
  soon = given_early y goes last chunk k.whole

  pub many_is : w.words / record_words ≡ length (given y last chunk)
  many_is = omega (arith, k.many, words_long (given y last chunk))

  module _ {v : ℕ} (e : v ≡ end_in list x.fed x.begun 0 (w.words / record_words)) where
    pub early_is : v ≡ early y last chunk
    early_is = e ∙ rw (many_is, k.front) (end_in_front x.fed x.begun (given y last chunk) k.rest)

    pub early_after : x.begun ≤ v
    early_after = omega (arith, early_is, soon.after)

    pub early_small : v - x.begun ≤ longest
    early_small = omega (arith, early_is, soon.within, next_within y goes last chunk, k.short)

    pub front_within : {a : ℕ} → a ≡ v - x.fed → a ≤ length chunk
    front_within i = omega (arith, i, early_is, soon.within, next_within y goes last chunk)

    module _ {a b : ℕ} (i : a ≡ v - x.fed) (j : b ≡ w.point.begun - x.fed) {carry : List ℕ} {n : ℕ} {carry' : List ℕ} (q : Kept (kept_bytes carry chunk (x.fed - x.begun) x.last.packed x.last.kept a b) carry n carry') where
      same_bytes : kept_bytes carry chunk (x.fed - x.begun) x.last.packed x.last.kept a b ≡ keeps y last chunk carry
      same_bytes = rw (i, j, early_is, k.begun_is) (keeps_is y last chunk carry goes k.whole)

      kept_is : n ≡ length (keeps y last chunk carry)
      kept_is = q.many ∙ ap length same_bytes

      as_long : length carry' ≡ length carry
      as_long =
          let e : carry' ≡ over (keeps y last chunk carry) carry = rw same_bytes at q.same in
          ap length e ∙ omega (arith, length-append (keeps y last chunk carry) (drop (length (keeps y last chunk carry)) carry), length-drop (length (keeps y last chunk carry)) carry, kept_long y last chunk carry)

      pub kept_small : n ≤ longest
      kept_small = omega (arith, kept_is, kept_few y last chunk carry, soon.after, soon.within, next_within y goes last chunk, k.short)

      pub accepted_is : (r : Fed) → r.answer.number ≡ done → r.answer.also ≡ w.words / record_words → r.lexer ≡ behind_as x last (state_of w.point.state) w.point.begun pend (record { from = x.begun; until = w.point.begun; place = x.fed; chunk = length chunk; carry = length carry'; packed = v - x.begun; kept = n }) → Accepted y last chunk carry r carry'
      accepted_is r a b l =
          record {
            number_is = a;
            also_is = b ∙ many_is;
            lexer = l ∙ rw (as_long, k.state_is, k.begun_is, early_is, kept_is, k.beyond_is) (by last refl);
            kept = rw same_bytes at q.same;
          }
        where
          by : (b : Bool) → last ≡ b → behind_as x last (cond last idle (fed_to y last chunk).1.0) (next_begun y last chunk) (packed_pend (beyond (y.pend ++ chunk))) (record { from = x.begun; until = next_begun y last chunk; place = x.fed; chunk = length chunk; carry = length carry; packed = early y last chunk - x.begun; kept = length (keeps y last chunk carry) }) ≡ packed (accepted y last chunk carry)
          by true e = rw (none (beyond (y.pend ++ chunk)) (k.whole e), e)
            where
              none : (l : List ℕ) → length l ≡ 0 → l ≡ []
              none [] h = refl
              none (a ∷ l) h = absurd (omega (arith, h))
          by false e = rw e

  pub begun_within : x.begun ≤ x.fed
  begun_within = omega (arith, goes.all)

-- ---- what is handed back
module _ (x : D.Lexer) (last : Bool) (chunk carry list : List ℕ) where
  abbrev m : Lexer
  m = meaning x

  abbrev need : ℕ
  need = length (given m last chunk)

  pub attempt_refused : (r : FeedRefusal) → Checked m last chunk (Err r) → Attempted x last chunk carry list (Err r) carry list
  attempt_refused r k = (answer_then m last chunk (length list) ∙ rw k (by r), record { kept = refl; words_are = refl })
    where
      by : (r : FeedRefusal) → feed_refused r and_then check_room (length list / record_words) need ≡ feed_refused r
      by NotOpen = refl
      by (Text UnknownSelector) = refl
      by (Text TooLong) = refl
      by (Text (NotUtf8 n)) = refl
      by (Text (RoomTooSmall n)) = refl
      by (Text (DirectionMark n)) = refl

  module _ (c : Scan) (k : Checked m last chunk (Ok c)) where
    checked : answer m last chunk (length list) ≡ check_room (length list / record_words) need
    checked = answer_then m last chunk (length list) ∙ rw k.0

    pub attempt_short : (r : Refusal) (carry' list' : List ℕ) → Delivered x last chunk carry list (Err r) carry' list' → Attempted x last chunk carry list (Err (Text r)) carry' list'
    attempt_short r carry' list' d = (checked ∙ d.0, d.1)

    pub attempt_stored : (f : Fed) (carry' list' : List ℕ) → Delivered x last chunk carry list (Ok f) carry' list' → Attempted x last chunk carry list (Ok f) carry' list'
    attempt_stored f carry' list' d = (checked ∙ d.0, d.1)

  pub deliver_stored : need ≤ length list / record_words → (f : Fed) (carry' : List ℕ) {list' : List ℕ} {w : Went} {s : State × ℕ} → Gone (given m last chunk, s) true list 0 w list' → Accepted m last chunk carry f carry' → Delivered x last chunk carry list (Ok f) carry' list'
  deliver_stored h f carry' g a = (rw (le-ltb (length list / record_words) need h), record { accepts = a; words_are = stores m last chunk h g })

  pub call_stored : (f : Fed) (carry' list' : List ℕ) → Attempted x last chunk carry list (Ok f) carry' list' → Called x last chunk carry list f.answer.number f.answer.also f.lexer carry' list'
  unfolding next_of next_carry next_list
  call_stored f carry' list' a =
      let g = a.1.accepts in
      record {
        answered = rw a.0 (record { number_is = g.number_is; also_is = g.also_is });
        lexer = rw a.0 g.lexer;
        kept = rw a.0 g.kept;
        words = rw a.0 a.1.words_are;
      }

  some : (r : FeedRefusal) → eqb (feed_refused r).0 done ≡ false
  some NotOpen = refl
  some (Text UnknownSelector) = refl
  some (Text TooLong) = refl
  some (Text (NotUtf8 n)) = refl
  some (Text (RoomTooSmall n)) = refl
  some (Text (DirectionMark n)) = refl

  pub call_refused : (r : FeedRefusal) (f : Fed) (carry' list' : List ℕ) → Attempted x last chunk carry list (Err r) carry' list' → Refused x (feed_refused r).0 (feed_refused r).1 f → Called x last chunk carry list f.answer.number f.answer.also f.lexer carry' list'
  unfolding next_of next_carry next_list
  call_refused r f carry' list' a g =
      record {
        answered = rw a.0 (record { number_is = g.number_is; also_is = g.also_is });
        lexer = rw (a.0, some r) g.lexer;
        kept = rw (a.0, some r) a.1.kept;
        words = rw (a.0, some r) a.1.words_are;
      }
