-- A part of a text in code: the words of a record, the loop over the characters, the end of the text, and one behind the other.
-- Assumes nothing.
use Prim.Native.Nat.{ℕ, ◌+◌, ◌-◌, ◌*◌, ◌≤◌, ◌<◌}
use mathlib.Core.Path.{◌≡◌, refl, ap, sym, ◌∙◌}
use mathlib.Core.Bool.{Bool, true, false, cond}
use mathlib.Core.List.{List, [], ◌∷◌, ◌++◌, append-nil}
use native.Mathlib.Omega.{arith}
use native.Mathlib.Nat.{add-zero}
use lib.ListN.{length, length-append}
use lib.Seq.{sets, length-sets}
use borrow.Rule.Slice.PartMut.{put_mid}
use Rattle.std.specs.Prelude.{Option, None, Some}
use Rattle.lists.specs.Steps.{PutIf}
use Rattle.lists.proofs.Bools.{by_test}
use Rattle.lists.proofs.Store.{StoringFrom, storing_from, storing_on, storing_put}
use Rattle.characters.specs.Ranges.{in_table}
use Rattle.characters.specs.Utf8.{chars, width}
use Rattle.characters.specs.Text.{Decoded, left, byte_length}
use Rattle.characters.proofs.Text.{left_end, decoded_point, bytes_chars}
use Rattle.characters.proofs.Valid.{width_some}
use Rattle.ucd.specs.Properties.{ascii_start, tested_in}
use Rattle.text.specs.Answer.{longest}
use Rattle.cutters.specs.Records.{record_words}
use Rattle.lexer.specs.Cut.{Letters}
use Rattle.lexer.specs.Unicode.{lent}
use Rattle.locality.specs.Phases.{act}
use Rattle.locality.proofs.Machine.{by_act}
use Rattle.feeding.specs.Fed.{Rec, words, State, idle, busy, held, feed, feeds, finish}
use Rattle.feeding.specs.Lexer.{fits, taken}
use Rattle.feeding.proofs.History.{feeds_join}
use Rattle.feeding.proofs.Tiles.{feeds_tiles}
use Rattle.feeding.proofs.Running.{from_fits, to_fits, fit_step, fit_steps}
use Rattle.parts.specs.Coded.{state_of}
use Rattle.parts.specs.Steps.{rec_of, recs_of, turned, handed, released, lastly, Lastly, Free, most, first_of, passed, StepReady, HeadReady, WordsReady, EndReady, PassReady, Gone}
use Rattle.parts.proofs.Stores.{written}
use Rattle.parts.specs.declared.passes.Went.{Went}
use Rattle.parts.specs.declared.state.Point.{Point}
use Rattle.parts.specs.declared.state.Record.{Record}
use Rattle.parts.specs.declared.state.Turn.{Turn}

-- ---- the words of records
pub words_join : (a b : List Rec) → words (a ++ b) ≡ words a ++ words b
unfolding words
words_join [] b = refl
words_join (r ∷ a) b = rw (words_join a b)

pub words_long : (rs : List Rec) → length (words rs) ≡ record_words * length rs
unfolding words
words_long [] = refl
words_long (r ∷ rs) = omega (arith, words_long rs)

-- a record has all its words
recs_most : (at : ℕ) (o : Option Record) → length (words (recs_of at o)) ≤ record_words
unfolding words
recs_most at None = omega arith
recs_most at (Some r) = omega arith

pub few_chars : (s : List ℕ) → length (chars s) ≤ length s
unfolding byte_length
few_chars s = omega (arith, bytes_chars s, few_bytes (chars s))
  where
    few_bytes : (l : List ℕ) → length l ≤ byte_length l
    few_bytes [] = omega arith
    few_bytes (c ∷ l) = omega (arith, width_some c, few_bytes l)

-- ---- the words of one, or none
module _ (list : List ℕ) (write : Bool) (k at : ℕ) (o : Option Record) where
  pub put_none : o ≡ None → PutIf write list k (words (recs_of at o)) list k
  unfolding words
  put_none e = rw e (record { same = kept write; next = omega arith })
    where
      kept : (b : Bool) → list ≡ cond b list list
      kept true = refl
      kept false = refl

  module _ (r : Record) (e : o ≡ Some r) where
    pub put_room : (write ≡ true → k + length (words (recs_of at o)) ≤ length list) → write ≡ true → k + record_words ≤ length list
    unfolding words
    put_room h w = omega (arith, rw e at (h w))

    pub put_counted : write ≡ false → PutIf write list k (words (recs_of at o)) list (k + record_words)
    unfolding words
    put_counted w = rw (e, w) (record { same = refl; next = refl })

    pub put_stored : write ≡ true → k + record_words ≤ length list → {vs : List ℕ} → vs ≡ words (rec_of at r ∷ []) → PutIf write list k (words (recs_of at o)) (put_mid k (k + record_words - k) list vs) (k + record_words)
    unfolding words
    put_stored w h {vs} f =
        rw (e, w)
        (record { same = rw f (written k (k + record_words) list (words (rec_of at r ∷ [])) refl h); next = refl })

-- one character hands out one record at most
fed_most : (u : Letters) (p at : ℕ) (x : State) (c : ℕ) → length (words (feed u p at x c).0) ≤ record_words
unfolding feed words
fed_most u p at idle c = omega arith
fed_most u p at (busy q n m o) c = omega arith
fed_most u p at (held q n m o x) c =
    by_act (act u) (act u q (x ∷ c ∷ [])) (λ b r e. rw (e, feed) (omega arith)) (λ b k e. rw (e, feed) (omega arith))

-- ---- the loop began with w₀ at the part's start, and is now at `at` with w: to go on from here comes to the same
module _ (u : Letters) (p : ℕ) where
  abbrev pub goes_on : Went → List ℕ → List Rec × (State × ℕ)
  goes_on w l = feeds u p w.point.begun (state_of w.point.state) l

  pub record Feeding (s : List ℕ) (w₀ : Went) (write : Bool) (list₀ : List ℕ) (at : ℕ) (w : Went) (list : List ℕ) : Type 0 where
    pub within : at ≤ length s
    pub few : w.words + record_words * (length s - at) ≤ most
    pub sound : fits (state_of w.point.state) ≡ true
    pub small : w.point.begun + (taken (state_of w.point.state) + (length s - at)) ≤ longest
    pub room : (write ≡ true → w₀.words + length (words (goes_on w₀ (chars s)).0) ≤ length list₀)
    pub storing : StoringFrom w₀.words (words (goes_on w₀ (chars s)).0) write list₀ (words (goes_on w (left s at)).0) w.words list
    pub behind : (goes_on w (left s at)).1 ≡ (goes_on w₀ (chars s)).1

  pub feeding_none : (s : List ℕ) (w : Went) (write : Bool) (list : List ℕ) → WordsReady u p w s write list → Feeding s w write list 0 w list
  feeding_none s w write list r =
      record {
        within = omega arith;
        few = omega (arith, r.few);
        sound = r.fit;
        small = omega (arith, r.small);
        room = r.room;
        storing = storing_from w.words (words (goes_on w (chars s)).0) write list;
        behind = refl;
      }

  module _ {s : List ℕ} {w₀ : Went} {write : Bool} {list₀ : List ℕ} {at : ℕ} {w : Went} {list : List ℕ} (g : Feeding s w₀ write list₀ at w list) where
    module _ {code wide : ℕ} (d : Decoded s at code wide) (h : at < length s) where
      abbrev r : List Rec × (State × ℕ)
      r = feed u p w.point.begun (state_of w.point.state) code

      gives : goes_on w (left s at) ≡ (r.0 ++ (feeds u p r.1.1 r.1.0 (left s (at + wide))).0, (feeds u p r.1.1 r.1.0 (left s (at + wide))).1)
      unfolding feeds
      gives = ap (goes_on w) (decoded_point d h).view

      said : words (goes_on w (left s at)).0 ≡ words r.0 ++ words (feeds u p r.1.1 r.1.0 (left s (at + wide))).0
      said = ap (λ (z : List Rec × (State × ℕ)). words z.0) gives ∙ words_join r.0 (feeds u p r.1.1 r.1.0 (left s (at + wide))).0

      pub feeding_ready : StepReady u p w code write list
      feeding_ready =
          record {
            fit = g.sound;
            small = omega (arith, g.small);
            few = omega (arith, g.few);
            room = λ t. omega (arith, g.room t, g.storing.count, g.storing.long, ap length said, length-append (words r.0) (words (feeds u p r.1.1 r.1.0 (left s (at + wide))).0));
          }

      pub feeding_on : {w' : Went} {list' : List ℕ} → Gone r write list w.words w' list' → Feeding s w₀ write list₀ (at + wide) w' list'
      feeding_on {w'} k =
          let o = decoded_point d h in
          let f = fit_step u p w.point.begun (state_of w.point.state) code (from_fits (state_of w.point.state) g.sound) in
          let j : fits r.1.0 ≡ true = to_fits r.1.0 f.0 in
          let x : state_of w'.point.state ≡ r.1.0 = ap (λ (z : State × ℕ). z.0) k.behind in
          let b : w'.point.begun ≡ r.1.1 = ap (λ (z : State × ℕ). z.1) k.behind in
          record {
            within = o.within;
            few = omega (arith, g.few, k.stored.next, fed_most u p w.point.begun (state_of w.point.state) code, o.some, o.within);
            sound = rw x j;
            small = rw (x, b) (omega (arith, g.small, f.1, o.size, o.within));
            room = g.room;
            storing = rw (x, b) (storing_on (rw said at g.storing) k.stored);
            behind = rw (x, b) (sym (ap (λ (z : List Rec × (State × ℕ)). z.1) gives) ∙ g.behind);
          }

    pub feeding_end : length s ≤ at → Gone (goes_on w₀ (chars s)) write list₀ w₀.words w list
    unfolding feeds words
    feeding_end h =
        let e : left s at ≡ [] = left_end s at h in
        record { stored = storing_put (rw e at g.storing); behind = rw e at g.behind }

-- ---- one character, where there is one
module _ (u : Letters) (p : ℕ) (w : Went) (write : Bool) (list : List ℕ) where
  fed_one : (c : ℕ) → feeds u p w.point.begun (state_of w.point.state) (c ∷ []) ≡ feed u p w.point.begun (state_of w.point.state) c
  unfolding feeds
  fed_one c = rw append-nil

  pub head_ready : {head : Option ℕ} {c : ℕ} → head ≡ Some c → HeadReady u p w head write list → StepReady u p w c write list
  head_ready {head} {c} e r =
      record {
        fit = r.fit;
        small = r.small;
        few = r.few;
        room = λ t. rw (e, fed_one c) at (r.room t);
      }

  pub head_one : {head : Option ℕ} {c : ℕ} → head ≡ Some c → {w' : Went} {list' : List ℕ} → Gone (feed u p w.point.begun (state_of w.point.state) c) write list w.words w' list' → Gone (feeds u p w.point.begun (state_of w.point.state) (first_of head)) write list w.words w' list'
  head_one {head} {c} e g = rw (e, fed_one c) g

  pub head_none : {head : Option ℕ} → head ≡ None → Gone (feeds u p w.point.begun (state_of w.point.state) (first_of head)) write list w.words w list
  unfolding feeds words
  head_none e = rw e (record { stored = record { same = kept write; next = omega arith }; behind = refl })
    where
      kept : (b : Bool) → list ≡ cond b list list
      kept true = refl
      kept false = refl

-- ---- what is stored behind something stored
put_if_then : {write : Bool} {out out₁ out₂ a b : List ℕ} {k k₁ r : ℕ} → PutIf write out k a out₁ k₁ → PutIf write out₁ k₁ b out₂ r → PutIf write out k (a ++ b) out₂ r
put_if_then {write} {out} {out₁} {out₂} {a} {b} {k} {k₁} {r} p q =
    let all = a ++ (b ++ []) in
    let e : all ≡ a ++ b = ap (λ (l : List ℕ). a ++ l) (append-nil b) in
    rw e at (storing_put (storing_on (storing_on (storing_from k all write out) p) q))

pub gone_then : {x y : List Rec × (State × ℕ)} {write : Bool} {list list₁ list₂ : List ℕ} {k : ℕ} (w w' : Went) → Gone x write list k w list₁ → Gone y write list₁ w.words w' list₂ → Gone (x.0 ++ y.0, y.1) write list k w' list₂
gone_then {x} {y} w w' g h = record { stored = rw (words_join x.0 y.0) (put_if_then g.stored h.stored); behind = h.behind }

put_if_long : {write : Bool} {out out' vs : List ℕ} {k r : ℕ} → PutIf write out k vs out' r → length out' ≡ length out
put_if_long {write} {out} {out'} {vs} {k} p = by_test write (λ t. let e : out' ≡ sets out k vs = rw t at p.same in ap length e ∙ length-sets out k vs) (λ t. let e : out' ≡ out = rw t at p.same in ap length e)

-- NUL begins no identifier, whatever the tables hold
pub no_nul : (a b c : List ℕ) → (lent a b c).start 0 ≡ false
unfolding tested_in in_table ascii_start
no_nul a b c = refl

-- ---- the end of the text, in two records at most
pub record Ends (u : Letters) (p at : ℕ) (s : State) (r : List Rec × (State × ℕ)) : Type 0 where
  pub free : Free r.1.0
  pub sum : r.1.1 + taken r.1.0 ≡ at + taken s
  pub said : finish u p at s ≡ r.0 ++ (lastly u p r.1.1 r.1.0).0
  pub behind : (lastly u p r.1.1 r.1.0).1 ≡ (idle, at + taken s)

ends : (u : Letters) (p at : ℕ) (s : State) → Ends u p at s (released u p at s)
unfolding released lastly finish
ends u p at idle = record { free = tt; sum = omega arith; said = refl; behind = rw (add-zero at) }
ends u p at (busy q n m o) = record { free = tt; sum = refl; said = refl; behind = refl }
ends u p at (held q n m o x) =
    by_act (act u) (act u q (x ∷ []))
    (λ b r e. rw (e, released) (record { free = tt; sum = refl; said = rw (e, finish); behind = refl }))
    (λ b k e. let z : at + n + width x ≡ at + (n + width x) = omega arith in rw (e, released) (record { free = tt; sum = z; said = rw (e, finish); behind = rw z }))

module _ (u : Letters) (p : ℕ) (w : Went) (write : Bool) (list : List ℕ) (ready : EndReady u p w write list) (t : Turn) (e : turned t w.point.begun ≡ released u p w.point.begun (state_of w.point.state)) where
  abbrev at : ℕ
  at = w.point.begun

  abbrev s : State
  s = state_of w.point.state

  ending : Ends u p at s (turned t at)
  ending = rw e (ends u p at s)

  said_words : length (words (finish u p at s)) ≡ length (words (handed t at)) + length (words (lastly u p t.point.begun (state_of t.point.state)).0)
  said_words =
      let a = handed t at in
      let b = (lastly u p t.point.begun (state_of t.point.state)).0 in
      ap (λ (rs : List Rec). length (words rs)) ending.said ∙ ap length (words_join a b) ∙ length-append (words a) (words b)

  pub end_few : w.words ≤ most
  end_few = omega (arith, ready.few)

  pub end_room : write ≡ true → w.words + length (words (handed t at)) ≤ length list
  end_room z = omega (arith, ready.room z, said_words)

  pub end_free : Free (state_of t.point.state)
  end_free = ending.free

  pub end_small : t.point.begun + taken (state_of t.point.state) ≤ longest
  end_small = omega (arith, ready.small, ending.sum)

  module _ {list₁ : List ℕ} {k₁ : ℕ} (q : PutIf write list w.words (words (handed t at)) list₁ k₁) (v : Turn) (z : Lastly t.point.begun (state_of t.point.state) v) (nul : u.start 0 ≡ false) where
    told : turned v t.point.begun ≡ lastly u p t.point.begun (state_of t.point.state)
    told = z.all u p nul

    pub last_few : k₁ ≤ most
    last_few = omega (arith, ready.few, q.next, recs_most at t.given)

    pub last_room : write ≡ true → k₁ + length (words (handed v t.point.begun)) ≤ length list₁
    last_room y =
        let i : length (words (handed v t.point.begun)) ≡ length (words (lastly u p t.point.begun (state_of t.point.state)).0) = ap (λ (y : List Rec × (State × ℕ)). length (words y.0)) told in
        omega (arith, ready.room y, said_words, q.next, put_if_long q, i)

    pub end_gone : {list₂ : List ℕ} {n : ℕ} → PutIf write list₁ k₁ (words (handed v t.point.begun)) list₂ n → Gone (finish u p at s, (idle, at + taken s)) write list w.words (record { point = v.point; words = n }) list₂
    end_gone {list₂} {n} y =
        let i : words (finish u p at s) ≡ words (handed t at) ++ words (handed v t.point.begun) = ap words ending.said ∙ words_join (handed t at) (lastly u p t.point.begun (state_of t.point.state)).0 ∙ ap (λ (y : List Rec × (State × ℕ)). words (handed t at) ++ words y.0) (sym told) in
        record { stored = rw i (put_if_then q y); behind = ap (λ (y : List Rec × (State × ℕ)). y.1) told ∙ ending.behind }

-- ---- a character, some bytes, and the end of the text
module _ (u : Letters) (p : ℕ) (point : Point) (head : Option ℕ) (t : List ℕ) (ends : Bool) (write : Bool) (list : List ℕ) (ready : PassReady u p point.begun (state_of point.state) head t ends write list) where
  abbrev w₀ : Went
  w₀ = record { point = point; words = 0 }

  abbrev a : List ℕ
  a = first_of head

  abbrev one : List Rec × (State × ℕ)
  one = feeds u p point.begun (state_of point.state) a

  abbrev two : List Rec × (State × ℕ)
  two = feeds u p one.1.1 one.1.0 (chars t)

  abbrev three : List Rec
  three = cond ends (finish u p two.1.1 two.1.0) []

  all : passed u p point.begun (state_of point.state) (a ++ chars t) ends ≡ ((one.0 ++ two.0) ++ three, cond ends (idle, two.1.1 + taken two.1.0) two.1)
  unfolding passed
  all = rw (feeds_join u p a (chars t) point.begun (state_of point.state))

  one_fit : (fits one.1.0 ≡ true) × (one.1.1 + taken one.1.0 ≡ point.begun + taken (state_of point.state) + byte_length a)
  one_fit = let g = fit_steps u p a point.begun (state_of point.state) (from_fits (state_of point.state) ready.fit) in (to_fits one.1.0 g.0, g.1)

  two_fit : (fits two.1.0 ≡ true) × (two.1.1 + taken two.1.0 ≡ one.1.1 + taken one.1.0 + byte_length (chars t))
  two_fit = let g = fit_steps u p (chars t) one.1.1 one.1.0 (from_fits one.1.0 one_fit.0) in (to_fits two.1.0 g.0, g.1)

  one_few : length (words one.0) ≤ record_words
  one_few = omega (arith, words_long one.0, (feeds_tiles u p a point.begun (state_of point.state)).1, one_long head)
    where
      one_long : (o : Option ℕ) → length (first_of o) ≤ 1
      one_long None = omega arith
      one_long (Some c) = omega arith

  two_few : length (words two.0) ≤ record_words * length t
  two_few = omega (arith, words_long two.0, (feeds_tiles u p (chars t) one.1.1 one.1.0).1, few_chars t)

  long : length (words (passed u p point.begun (state_of point.state) (a ++ chars t) ends).0) ≡ length (words one.0) + length (words two.0) + length (words three)
  long =
      ap (λ (z : List Rec × (State × ℕ)). length (words z.0)) all
      ∙ ap length (words_join (one.0 ++ two.0) three)
      ∙ length-append (words (one.0 ++ two.0)) (words three)
      ∙ ap (λ (n : ℕ). n + length (words three)) (ap length (words_join one.0 two.0) ∙ length-append (words one.0) (words two.0))

  pub pass_head : HeadReady u p w₀ head write list
  pass_head = record { fit = ready.fit; small = omega (arith, ready.small); few = omega arith; room = λ w. omega (arith, ready.room w, long) }

  module _ (w : Went) {list₁ : List ℕ} (g : Gone one write list 0 w list₁) where
    state₁ : state_of w.point.state ≡ one.1.0
    state₁ = ap (λ (y : State × ℕ). y.0) g.behind

    begun₁ : w.point.begun ≡ one.1.1
    begun₁ = ap (λ (y : State × ℕ). y.1) g.behind

    pub pass_words : WordsReady u p w t write list₁
    pass_words =
        record {
          fit = rw state₁ one_fit.0;
          small = rw (state₁, begun₁) (omega (arith, ready.small, one_fit.1));
          few = omega (arith, ready.small, g.stored.next, one_few);
          room = λ z. rw (state₁, begun₁) (omega (arith, ready.room z, long, g.stored.next, put_if_long g.stored));
        }

    module _ (v : Went) {list₂ : List ℕ} (k : Gone (feeds u p w.point.begun (state_of w.point.state) (chars t)) write list₁ w.words v list₂) where
      same₂ : feeds u p w.point.begun (state_of w.point.state) (chars t) ≡ two
      same₂ = rw (state₁, begun₁)

      both : Gone (one.0 ++ two.0, two.1) write list 0 v list₂
      both = gone_then w v g (rw same₂ at k)

      state₂ : state_of v.point.state ≡ two.1.0
      state₂ = ap (λ (y : State × ℕ). y.0) both.behind

      begun₂ : v.point.begun ≡ two.1.1
      begun₂ = ap (λ (y : State × ℕ). y.1) both.behind

      pub pass_on : ends ≡ false → Gone (passed u p point.begun (state_of point.state) (a ++ chars t) ends) write list 0 v list₂
      pass_on n =
          let e : passed u p point.begun (state_of point.state) (a ++ chars t) ends ≡ (one.0 ++ two.0, two.1) = all ∙ rw (n, append-nil) in
          rw e both

      pub pass_last : ends ≡ true → EndReady u p v write list₂
      pass_last n =
          let i : three ≡ finish u p two.1.1 two.1.0 = rw n in
          let j : length (words (one.0 ++ two.0)) ≡ length (words one.0) + length (words two.0) = ap length (words_join one.0 two.0) ∙ length-append (words one.0) (words two.0) in
          record {
            fit = rw state₂ two_fit.0;
            small = rw (state₂, begun₂) (omega (arith, ready.small, one_fit.1, two_fit.1, bytes_chars t));
            few = omega (arith, ready.small, both.stored.next, j, one_few, two_few);
            room = λ z. rw (state₂, begun₂) (omega (arith, ready.room z, long, both.stored.next, put_if_long both.stored, j, ap (λ (rs : List Rec). length (words rs)) i));
          }

      pub pass_end : (y : Went) {list₃ : List ℕ} → ends ≡ true → Gone (finish u p v.point.begun (state_of v.point.state), (idle, v.point.begun + taken (state_of v.point.state))) write list₂ v.words y list₃ → Gone (passed u p point.begun (state_of point.state) (a ++ chars t) ends) write list 0 y list₃
      pass_end y n j =
          let e : passed u p point.begun (state_of point.state) (a ++ chars t) ends ≡ ((one.0 ++ two.0) ++ finish u p two.1.1 two.1.0, (idle, two.1.1 + taken two.1.0)) = all ∙ rw n in
          rw e (gone_then v y both (rw (state₂, begun₂) at j))
