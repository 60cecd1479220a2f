-- The tokens of a text: runs of them, how many there are, and the answer.
-- Assumes nothing.
use Prim.Native.Nat.{ℕ, suc, ◌+◌, ◌-◌, ◌*◌, ◌/◌, ◌≤◌, ◌<◌, max}
use native.Mathlib.Decide.{dec_lt}
use native.Mathlib.Omega.{arith}
use mathlib.Core.Path.{◌≡◌, refl, ap, sym, ◌∙◌, subst}
use mathlib.Core.Bool.{true, ◌||◌}
use mathlib.Core.Logic.{◌⊎◌, inl, inr}
use mathlib.Core.List.{List, [], ◌∷◌, ◌++◌}
use lib.ListN.{length, take, drop, get_or, length-take, length-drop, drop_of_length-le}
use lib.Seq.{sets, length-sets, take_all, take-nil}
use lib.Dec.{ltb}
use borrow.Author.Tests.{lt-ltb, le-ltb}
use Rattle.lists.specs.All.{Each}
use Rattle.lists.proofs.Bools.{by_test}
use Rattle.lists.proofs.Put.{sets_append}
use Rattle.lists.proofs.Store.{stored_front}
use Rattle.characters.proofs.Text.{point_at}
use Rattle.characters.specs.Utf8.{chars}
use Rattle.characters.specs.Direction.{unmarked_up_to}
use Rattle.text.specs.Answer.{done, direction_mark, longest, check_cut, CutMarked}
use Rattle.text.specs.Steps.{Entered}
use Rattle.text.proofs.Room as room
use Rattle.text.specs.declared.Refusal.{Refusal}
use Rattle.text.specs.Refusals.{refused}
use Rattle.text.proofs.Checks.{cut_accepted, never_done}
use Rattle.text.proofs.Marks.{marked_refused}
use Rattle.cutters.specs.Kinds.{eof, is_plain, is_literal}
use Rattle.cutters.specs.Numbers.{known_kind}
use Rattle.cutters.specs.Records.{Token, total, record_words, misplaced_at, words_of, flat_from}
use Rattle.cutters.specs.Underscores.{misplaced_in, misplaced_of}
use Rattle.cutters.proofs.Underscores.{word_most}
use Rattle.cutters.proofs.Records.{length_words, length_flat}
use Rattle.lexer.specs.Cut.{Letters}
use Rattle.lexer.specs.Unicode.{unicode}
use Rattle.listing.specs.Steps.{Filled, StoredTokens, run_from}
use Rattle.lexer.specs.Promises.{tokens3, tokens_of, front, tokens_by, Advanced}
use Rattle.listing.specs.Promises.{answer_of, listed, Listed, run, CutRun, token_at, TokenAt}
use Rattle.tokens.specs.Tiling.{Formed}
use Rattle.tokens.proofs.Tiling.{tiles_chars}
use Rattle.lexer.proofs.Places.{few_tokens, tokens_some, tokens_first, next_within, none_left, advanced_view, end_some, known3}

-- ---- a run of tokens: to go on from here comes to the same
pub record Filling (u : Letters) (profile : ℕ) (s : List ℕ) (from : ℕ) (list₀ : List ℕ) (full at k : ℕ) (list : List ℕ) : Type 0 where
  -- there is room for so many records, and so many are stored
  pub room : ℕ
  pub n : ℕ
  pub room_is : room ≡ length list₀ / record_words
  pub full_is : full ≡ record_words * room
  pub stored : k ≡ record_words * n
  pub low : n ≤ room
  pub long : length list ≡ length list₀
  pub count : n + length (run_from u profile s at (room - n)) ≡ length (run_from u profile s from room)
  pub place : at + total (run_from u profile s at (room - n)) ≡ from + total (run_from u profile s from room)
  pub rest : drop (room - n) (tokens_by u profile (drop at s)) ≡ drop room (tokens_by u profile (drop from s))
  pub same : sets list k (flat_from s at (run_from u profile s at (room - n))) ≡ sets list₀ 0 (flat_from s from (run_from u profile s from room))

pub filling_none : (u : Letters) (profile : ℕ) (s : List ℕ) (from : ℕ) (list : List ℕ) {full : ℕ} → full ≡ length list / record_words * record_words → Filling u profile s from list full from 0 list
filling_none u profile s from list {full} r =
    let room = length list / record_words in
    let z : room - 0 ≡ room = omega arith in
    record {
      room = room;
      n = 0;
      room_is = refl;
      full_is = omega arith;
      stored = omega arith;
      low = omega arith;
      long = refl;
      count = rw z (omega arith);
      place = rw z;
      rest = rw z;
      same = rw z;
    }

module _ {u : Letters} {profile : ℕ} {s list₀ list : List ℕ} {from full at k : ℕ} (w : Filling u profile s from list₀ full at k list) where
  pub fill_room : k < full → k + record_words ≤ length list
  fill_room h = omega (arith, w.full_is, w.stored, w.room_is, w.long)

  module _ {kind suffixAt found end k' : ℕ} {list' : List ℕ} (l : k < full) (h : at < length s) (a : Advanced u profile s at kind suffixAt found end) where
    pub fill_on : list' ≡ sets list k (kind ∷ (end - at) ∷ (suffixAt - at) ∷ at ∷ found ∷ []) → k' ≡ k + record_words → Filling u profile s from list₀ full end k' list'
    unfolding flat_from front
    fill_on d f =
        let room = w.room in
        let n = w.n in
        let ts = tokens_by u profile (drop end s) in
        let t : Token = record { kind = kind; len = end - at; suffix = suffixAt - at } in
        let view : tokens_by u profile (drop at s) ≡ t ∷ ts = advanced_view u profile s at kind suffixAt found end a h in
        let some : at < end = omega (arith, end_some u profile s at kind suffixAt found end a) in
        let less : room - n ≡ suc (room - suc n) = omega (arith, l, w.full_is, w.stored) in
        let ahead : run_from u profile s at (room - n) ≡ t ∷ run_from u profile s end (room - suc n) = rw (less, view) in
        let W = words_of s at t in
        let own : found ≡ misplaced_at s at t = a.found_is ∙ ap (λ (l : List Token). misplaced_at s at (front l)) view in
        let e : list' ≡ sets list k W = d ∙ ap (λ (x : ℕ). sets list k (kind ∷ (end - at) ∷ (suffixAt - at) ∷ at ∷ x ∷ [])) own in
        let m : k' ≡ k + length W = omega (arith, f, length_words s at t) in
        let there : at + t.len ≡ end = omega (arith, some) in
        let rest = run_from u profile s end (room - suc n) in
        let far : drop (room - n) (tokens_by u profile (drop at s)) ≡ drop (room - suc n) ts = rw (less, view) in
        let l : length list' ≡ length list = ap length e ∙ length-sets list k W in
        let f' : flat_from s at (run_from u profile s at (room - n)) ≡ W ++ flat_from s end rest = ap (flat_from s at) ahead ∙ ap (λ (i : ℕ). W ++ flat_from s i rest) there in
        record {
          room = room;
          n = suc n;
          room_is = w.room_is;
          full_is = w.full_is;
          stored = omega (arith, f, w.stored);
          low = omega (arith, less);
          long = l ∙ w.long;
          count = omega (arith, w.count, ap length ahead);
          place = omega (arith, w.place, ap total ahead, some);
          rest = sym far ∙ w.rest;
          same = rw (m, e) (sets_append W (flat_from s end rest) list k ∙ ap (sets list k) (sym f') ∙ w.same);
        }

  -- where nothing is left to cut, all is done
  fill_done : {count : ℕ} → run_from u profile s at (w.room - w.n) ≡ [] → drop (w.room - w.n) (tokens_by u profile (drop at s)) ≡ tokens_by u profile (drop at s) → count ≡ k / record_words → Filled u profile s from list₀ at count list
  unfolding flat_from
  fill_done {count} z v e =
      let r = w.room_is in
      record {
        many = rw (← r) (omega (arith, w.stored, w.count, ap length z));
        reached = rw (← r) (omega (arith, w.place, ap total z));
        rest = rw (← r) (sym v ∙ w.rest);
        words = rw (← r) (ap (λ (l : List Token). sets list k (flat_from s at l)) (sym z) ∙ w.same);
      }

  fill_full : {count : ℕ} → full ≤ k → count ≡ k / record_words → Filled u profile s from list₀ at count list
  fill_full h e = let z : w.room - w.n ≡ 0 = omega (arith, h, w.full_is, w.stored) in fill_done (rw z) (rw z) e

  fill_end : {count : ℕ} → length s ≤ at → count ≡ k / record_words → Filled u profile s from list₀ at count list
  fill_end h e =
      let z = none_left u profile s at h in
      fill_done (rw z (take-nil (w.room - w.n))) (rw z (drop_of_length-le [] {i = w.room - w.n} (omega arith))) e

  -- the loop is left where the list is full or the text ends
  pub fill_left : {count : ℕ} → (full ≤ k) ⊎ (length s ≤ at) → count ≡ k / record_words → Filled u profile s from list₀ at count list
  fill_left (inl h) e = fill_full h e
  fill_left (inr h) e = fill_end h e

-- ---- the same for every length of text
module _ {u : Letters} {profile : ℕ} {s list list' : List ℕ} {from at count : ℕ} where
  pub run_none : longest < length s → at ≡ from → count ≡ 0 → list' ≡ list → CutRun u profile s from list at count list'
  unfolding run flat_from
  run_none h a c e =
      let t = lt-ltb longest (length s) h in
      record { reached = rw t (omega arith); many = rw t c; words = rw t e }

  pub run_some : {at₀ count₀ : ℕ} → length s ≤ longest → Filled u profile s from list at₀ count₀ list' → at ≡ at₀ → count ≡ count₀ → CutRun u profile s from list at count list'
  unfolding run
  run_some h f a c =
      let t = le-ltb longest (length s) h in
      let room = length list / record_words in
      let n = length_flat s from (run_from u profile s from room) in
      let few = length-take room (tokens_by u profile (drop from s)) in
      record {
        reached = rw t (a ∙ f.reached);
        many = rw t (c ∙ f.many);
        words = rw t (stored_front (flat_from s from (run_from u profile s from room)) list f.words (omega (arith, n, few)));
      }

-- ---- the count, by runs
pub record Counting (u : Letters) (profile : ℕ) (s : List ℕ) (at n : ℕ) : Type 0 where
  pub sum : n + length (tokens_by u profile (drop at s)) ≡ length (tokens_by u profile s)

pub counting_none : (u : Letters) (profile : ℕ) (s : List ℕ) → Counting u profile s 0 0
counting_none u profile s = record { sum = omega arith }

module _ {u : Letters} {profile : ℕ} {s : List ℕ} {at n : ℕ} (w : Counting u profile s at n) where
  pub count_end : length s ≤ at → n ≡ length (tokens_by u profile s)
  count_end h =
      let z = none_left u profile s at h in
      omega (arith, w.sum, ap length z)

  module _ {list list' : List ℕ} {at' k : ℕ} (f : Filled u profile s at list at' k list') where
    pub count_add : n + k ≤ length s
    count_add = omega (arith, w.sum, f.many, length-take (length list / record_words) (tokens_by u profile (drop at s)), few_tokens u profile s)

    pub count_on : {n' : ℕ} → n' ≡ n + k → Counting u profile s at' n'
    count_on e =
        let T = tokens_by u profile (drop at s) in
        record { sum = omega (arith, w.sum, f.many, ap length f.rest, length-take (length list / record_words) T, length-drop (length list / record_words) T) }

    pub count_less : length list ≡ 64 * record_words → at < length s → length (tokens_by u profile (drop at' s)) < length (tokens_by u profile (drop at s))
    count_less r h =
        let T = tokens_by u profile (drop at s) in
        omega (arith, ap length f.rest, length-drop (length list / record_words) T, tokens_some u profile s at h)

-- ---- the answer of a text that passed the checks
module _ {u : Letters} {profile : ℕ} {s list list' : List ℕ} {number also : ℕ} where
  stored : {at n : ℕ} → Filled u profile s 0 list at n list' → length (tokens_by u profile s) ≤ length list / record_words → number ≡ done → also ≡ n → StoredTokens u profile s list number also list'
  stored w l k a =
      let T = tokens_by u profile s in
      let e : run_from u profile s 0 (length list / record_words) ≡ T = take_all (length list / record_words) T l in
      room.stored_all (w.many ∙ ap length e) (omega (arith, w.many, ap length e)) (omega (arith, length_flat s 0 T)) (w.words ∙ ap (λ (l : List Token). sets list 0 (flat_from s 0 l)) e) k a

  pub stored_all : {at n : ℕ} → Filled u profile s 0 list at n list' → length s ≤ length list / record_words → number ≡ done → also ≡ n → StoredTokens u profile s list number also list'
  stored_all w l = stored w (omega (arith, few_tokens u profile s))

  pub stored_counted : {at n m : ℕ} → Filled u profile s 0 list at n list' → m ≡ length (tokens_by u profile s) → m ≤ length list / record_words → number ≡ done → also ≡ n → StoredTokens u profile s list number also list'
  stored_counted w c l = stored w (omega arith)

-- ---- the whole
listed_by : {s list list' : List ℕ} {profile number also : ℕ} → Entered (check_cut s profile) (length list / record_words) (length (tokens_of profile s)) (flat_from s 0 (tokens_of profile s)) list number also list' → Listed s profile list number also list'
unfolding answer_of listed
listed_by e = record { answer = e.answer; words = e.memory }

pub listed_refused : (s list : List ℕ) (profile : ℕ) (r : Refusal) → refused r ≡ check_cut s profile → Listed s profile list (refused r).0 (refused r).1 list
listed_refused s list profile r e =
    listed_by (room.refused (record { number_is = ap (λ (x : ℕ × ℕ). x.0) e; also_is = ap (λ (x : ℕ × ℕ). x.1) e }) (never_done r) refl)

-- what passes the checks is not too long
pub cut_short : (s : List ℕ) (profile : ℕ) → (done, 0) ≡ check_cut s profile → length s ≤ longest
cut_short s profile c = (cut_accepted s profile (ap (λ (x : ℕ × ℕ). x.0) (sym c))).text.short

pub listed_done : {u : Letters} (s : List ℕ) (profile : ℕ) {list list' : List ℕ} {number also : ℕ} → (done, 0) ≡ check_cut s profile → u ≡ unicode → StoredTokens u profile s list number also list' → Listed s profile list number also list'
unfolding tokens3
listed_done s profile {list} {list'} {number} {also} c l r =
    let z : (check_cut s profile).0 ≡ done = ap (λ (x : ℕ × ℕ). x.0) (sym c) in
    let k = known3 profile s (cut_accepted s profile z).known in
    listed_by (room.passed (record { number_is = refl; also_is = refl }) z (rw k (subst (λ (u : Letters). StoredTokens u profile s list number also list') l r)))

-- ---- a run of one token
pub front_one : (l : List Token) → front (take 1 l) ≡ front l
unfolding front
front_one [] = refl
front_one (t ∷ ts) = refl

module _ (u : Letters) (profile : ℕ) (s : List ℕ) (at : ℕ) where
  -- of a text that is not too long it is the first of the tokens from the place on
  pub first_of : length s ≤ longest → token_at u profile s at ≡ front (tokens_by u profile (drop at s))
  unfolding run
  first_of h = rw (le-ltb longest (length s) h, front_one (tokens_by u profile (drop at s)))

  -- and of one that is, none
  none_of : longest < length s → token_at u profile s at ≡ front []
  unfolding run
  none_of h = rw (lt-ltb longest (length s) h)

  -- a token stands within its text
  pub one_within : (at + (token_at u profile s at).suffix ≤ max at (length s)) × (at + (token_at u profile s at).len ≤ max at (length s))
  unfolding run front
  one_within =
      by_test (ltb longest (length s))
      (λ t. rw t (omega arith, omega arith))
      (λ t.
      elim (dec_lt at (length s)) [
        | yes h ↦
            let e = (point_at s at h).view in
            let b = next_within u profile _ _ (drop at s) e in
            rw (t, tokens_first u profile _ _ (drop at s) e) (omega (arith, b.1, length-drop at s), omega (arith, b.0, length-drop at s))
        | no n ↦ rw (t, none_left u profile s at (omega arith)) (omega arith, omega arith)
      ])

  pub one_none : longest < length s → TokenAt u profile s at eof at 0 at
  unfolding front misplaced_of misplaced_in
  one_none h =
      let e = none_of h in
      record {
        kind_is = sym (ap (λ (t : Token). t.kind) e);
        suffix_is = omega (arith, ap (λ (t : Token). t.suffix) e);
        found_is = rw e refl;
        end_is = omega (arith, ap (λ (t : Token). t.len) e);
      }

  -- and of any other, what the cutter tells there
  pub advanced_token : {kind suffixAt found end : ℕ} → length s ≤ longest → Advanced u profile s at kind suffixAt found end → TokenAt u profile s at kind suffixAt found end
  advanced_token h a =
      let e = sym (first_of h) in
      record {
        kind_is = a.kind_is ∙ ap (λ (t : Token). t.kind) e;
        suffix_is = a.suffix_is ∙ ap (λ (t : Token). at + t.suffix) e;
        found_is = a.found_is ∙ ap (misplaced_at s at) e;
        end_is = a.end_is ∙ ap (λ (t : Token). at + t.len) e;
      }

-- ---- the kind of a token at a place is known
listed_known : (k : ℕ) → (is_plain k || is_literal k) ≡ true → known_kind k ≡ true
listed_known k h = grind arith

front_known : (ts : List Token) → Each Formed ts → known_kind (front ts).kind ≡ true
unfolding front
front_known [] e = refl
front_known (t ∷ ts) e = listed_known t.kind (e.0).listed

token_known : (u : Letters) (profile : ℕ) (s : List ℕ) (at : ℕ) → known_kind (token_at u profile s at).kind ≡ true
unfolding run
token_known u profile s at =
    by_test (ltb longest (length s)) (λ t. rw t (front_known [] tt))
    (λ t. rw (t, front_one (tokens_by u profile (drop at s))) (front_known (tokens_by u profile (drop at s)) (tiles_chars u profile (chars (drop at s))).each))

-- ---- as the words of a run tell it
-- a record of noughts, and the words of at most one token before it
abbrev none : List ℕ
none = 0 ∷ 0 ∷ 0 ∷ 0 ∷ 0 ∷ []

one_words : (s : List ℕ) (at : ℕ) (l : List Token) → length l ≤ 1 → {list : List ℕ} → list ≡ flat_from s at l ++ drop (length (flat_from s at l)) none → (get_or list 0 0 ≡ (front l).kind) × (get_or list 2 0 ≡ (front l).suffix) × (get_or list 4 0 ≡ misplaced_at s at (front l)) × (total l ≡ (front l).len)
unfolding flat_from front misplaced_of misplaced_in
one_words s at [] h e = (ap (λ (l : List ℕ). get_or l 0 0) e, ap (λ (l : List ℕ). get_or l 2 0) e, ap (λ (l : List ℕ). get_or l 4 0) e, refl)
one_words s at (t ∷ []) h e = (ap (λ (l : List ℕ). get_or l 0 0) e, ap (λ (l : List ℕ). get_or l 2 0) e, ap (λ (l : List ℕ). get_or l 4 0) e, omega arith)
one_words s at (t ∷ t' ∷ ts) h e = absurd (omega arith)

one_few : (u : Letters) (profile : ℕ) (s : List ℕ) (at : ℕ) → length (run u profile s at 1) ≤ 1
unfolding run
one_few u profile s at =
    by_test (ltb longest (length s)) (λ t. rw t (omega arith)) (λ t. rw t (omega (arith, length-take 1 (tokens_by u profile (drop at s)))))

module _ {u : Letters} {profile : ℕ} {s list' : List ℕ} {at end count : ℕ} (r : CutRun u profile s at none end count list') where
  pub run_token : TokenAt u profile s at (get_or list' 0 0) (at + get_or list' 2 0) (get_or list' 4 0) end
  run_token =
      let w = one_words s at (run u profile s at 1) (one_few u profile s at) r.words in
      record { kind_is = w.0; suffix_is = ap (λ (n : ℕ). at + n) w.1; found_is = w.2; end_is = r.reached ∙ ap (λ (n : ℕ). at + n) w.3 }

  -- and its kind is one
  pub run_kind : known_kind (get_or list' 0 0) ≡ true
  run_kind = ap known_kind run_token.kind_is ∙ token_known u profile s at

  -- `one_token` of the words: what is answered where they are told
  pub one_token : {kind suffixAt found end' : ℕ} → kind ≡ get_or list' 0 0 → suffixAt ≡ at + get_or list' 2 0 → found ≡ get_or list' 4 0 → end' ≡ end → TokenAt u profile s at kind suffixAt found end'
  one_token k m f e =
      record { kind_is = k ∙ run_token.kind_is; suffix_is = m ∙ run_token.suffix_is; found_is = f ∙ run_token.found_is; end_is = e ∙ run_token.end_is }

-- a place of the token is at or behind its start, and within the text
module _ {u : Letters} {profile : ℕ} {s : List ℕ} {at kind suffixAt found end : ℕ} (a : TokenAt u profile s at kind suffixAt found end) where
  pub one_start : (at ≤ suffixAt) × (suffixAt ≤ max at (length s))
  one_start = (omega (arith, a.suffix_is), omega (arith, a.suffix_is, (one_within u profile s at).0))

  pub one_end : (at ≤ end) × (end ≤ max at (length s))
  one_end = (omega (arith, a.end_is), omega (arith, a.end_is, (one_within u profile s at).1))

  pub one_found : found ≤ length s
  one_found = omega (arith, a.found_is, word_most s at (token_at u profile s at))

-- ---- A TEXT WITH A DIRECTION MARK is refused with 7, in whatever room, and the list is left as it was
pub listed_marked : {s list list' : List ℕ} {profile number also : ℕ} → CutMarked s profile → Listed s profile list number also list' → (number ≡ direction_mark) × (also ≡ unmarked_up_to s) × (list' ≡ list)
unfolding answer_of listed
listed_marked m l =
    let e = marked_refused m in
    (rw e at l.answer.number_is, rw e at l.answer.also_is, rw e at l.words)
