-- The items of a whole body: the walk that counts or stores them, and the answer.
-- Assumes nothing.
use Prim.Native.Nat.{ℕ, ◌+◌, ◌-◌, ◌*◌, ◌/◌, ◌≤◌, ◌<◌, min, max}
use native.Mathlib.Omega.{arith}
use mathlib.Core.Path.{◌≡◌, refl, ap, sym, ◌∙◌}
use mathlib.Core.Bool.{Bool, true, false, false≢true}
use mathlib.Core.List.{List, [], ◌∷◌, ◌++◌, append_assoc, flatten}
use lib.Seq.{sets}
use lib.ListN.{length, take, drop, length-append}
use lib.Dec.{eqb}
use borrow.Author.Tests.{ltb-false, eq-eqb, ne_eqb}
use Rattle.lists.specs.Eat.{eat}
use Rattle.lists.specs.Steps.{PutIf, Ends}
use Rattle.lists.proofs.Bools.{by_test, on_cond}
use Rattle.lists.proofs.Cut.{cut_nil, cut_cons, by_length}
use Rattle.lists.proofs.Store.{Storing, storing_none, storing_on, storing_end}
use Rattle.lists.proofs.Ends.{ends_all, ends_cons, ends_length, ends_eat}
use Rattle.characters.proofs.Text.{ends_bytes}
use Rattle.characters.specs.Utf8.{chars}
use Rattle.ucd.specs.Properties.{is_white_space}
use Rattle.characters.specs.Text.{byte_length, left}
use Rattle.characters.proofs.Text.{bytes_chars}
use Rattle.characters.proofs.Valid.{width_some}
use Rattle.text.specs.Answer.{done, room_too_small, longest, check_text}
use Rattle.text.specs.Steps.{Entered}
use Rattle.text.proofs.Checks.{accepted}
use Rattle.text.proofs.Room as room
use Rattle.std.specs.Prelude.{Some, None, Result, Ok, Err}
use Rattle.text.specs.declared.Refusal.{Refusal}
use Rattle.text.specs.declared.Refusal.TheVariants.{UnknownSelector}
use Rattle.text.specs.Refusals.{given as told, refused}
use Rattle.text.proofs.Checks.{never_done}
use Rattle.modes.specs.declared.Mode.{Mode}
use Rattle.modes.specs.declared.Mode.TheVariants as kind
use Rattle.modes.specs.declared.errors.EscapeError.{EscapeError}
use Rattle.modes.specs.declared.errors.EscapeError.TheVariants as bad
use Rattle.modes.specs.Numbers.{mode_number}
use Rattle.unescape.specs.declared.bodies.Step.{Step}
use Rattle.modes.specs.Modes.{is_raw, is_single, characters_should_be_ascii, byte_mode, known_mode}
use Rattle.modes.specs.Errors.{Outcome, error}
use Rattle.unescape.specs.Escapes.{escape}
use Rattle.unescape.specs.Bodies.{Item, given, char_or_byte, str_char, raw_char, is_skipped, saw_lf, item, one, unskipped, skipped, slashed, str_common, raw_str, turn, turns, items, items_of, flat}
use Rattle.unescape.specs.Steps.{ascii_only, Scanned, Stepped, item_from, space_from, item_words, writes, Walked, StoredItems}
use Rattle.unescape.specs.Promises.{answer_of, listed, Unescaped, part, single, read_one}
use Rattle.unescape.proofs.Fair.{allows_any, escape_fair}
use Rattle.unescape.proofs.Turns.{place_of}

-- ---- words
-- three words for each item
pub length_flat : (l : List Item) → length (flat l) ≡ 3 * length l
unfolding flat
length_flat [] = refl
length_flat (i ∷ is) = omega (arith, length_flat is)

nothing : (l : List ℕ) → length l ≡ 0 → l ≡ []
nothing [] e = refl
nothing (x ∷ l) e = absurd (omega (arith, e))

flat_append : (a b : List Item) → flat (a ++ b) ≡ flat a ++ flat b
unfolding flat
flat_append [] b = refl
flat_append (i ∷ a) b = rw (flat_append a b)

flat_item : (start end : ℕ) (read : Result ℕ EscapeError) → flat (item_from start (Some read) end) ≡ item_words start end read
unfolding flat
flat_item start end read = refl

flat_space : (start past : ℕ) → flat (space_from start (Some past)) ≡ item_words start past (Err bad.UnskippedWhitespaceWarning)
unfolding flat
flat_space start past = refl

-- ---- one turn takes at least its first character, and gives no more items than it takes bytes
pub record Turned (c : ℕ) (t : List ℕ) (x : List Item × List ℕ) : Type 0 where
  pub ends : Ends x.1 t
  pub few : length x.0 + byte_length x.1 ≤ byte_length (c ∷ t)

one_turned : (size c : ℕ) (from t : List ℕ) (x : Outcome × List ℕ) → Ends x.1 t → Turned c t (one size from x)
unfolding byte_length
one_turned size c from t x e = record { ends = e; few = omega (arith, ends_bytes e, width_some c) }

given_few : (b : Bool) (i : Item) → length (given b i) ≤ 1
given_few true i = omega arith
given_few false i = omega arith

unskipped_few : (size : ℕ) (from l : List ℕ) → length (unskipped size from l) ≤ 1
unfolding unskipped
unskipped_few size from [] = omega arith
unskipped_few size from (c ∷ t) = given_few (is_white_space c) (item size from t (error 21))

skipped_turned : (size c x : ℕ) (from t : List ℕ) (r : Bool × List ℕ) → Ends r.1 t → Turned c (x ∷ t) (skipped size from r)
unfolding byte_length skipped
skipped_turned size c x from t (b, l) e =
    record {
      ends = ends_cons _ e;
      few = rw length-append (omega (arith, ends_bytes e, width_some c, width_some x, unskipped_few size from l, given_few b (item size from l (error 22))));
    }

slashed_turned : (size c : ℕ) (ascii_only : Bool) (from t : List ℕ) → Turned c t (slashed size ascii_only from t)
unfolding slashed
slashed_turned size c ascii_only from [] = one_turned size c from [] (escape ascii_only []) (escape_fair (allows_any ascii_only) []).ends
slashed_turned size c ascii_only from (x ∷ t) =
    on_cond (Turned c (x ∷ t)) (eqb x 0x0A)
    (skipped_turned size c x from t (eat is_skipped saw_lf false t) (ends_eat is_skipped saw_lf false t))
    (one_turned size c from (x ∷ t) (escape ascii_only (x ∷ t)) (escape_fair (allows_any ascii_only) (x ∷ t)).ends)

pub turned : (size mode c : ℕ) (t : List ℕ) → Turned c t (turn mode size c t)
unfolding turn raw_str str_common
turned size mode c t =
    let ascii_only = characters_should_be_ascii mode in
    on_cond (Turned c t) (is_raw mode) (one_turned size c (c ∷ t) t (raw_char ascii_only c, t) (ends_all _))
    (on_cond (Turned c t) (eqb c 0x5C) (slashed_turned size c ascii_only (c ∷ t) t) (one_turned size c (c ∷ t) t (str_char ascii_only c, t) (ends_all _)))

module _ (mode size : ℕ) where
  pub turns_nil : turns mode size [] ≡ []
  unfolding turns flatten
  turns_nil = rw (cut_nil (turn mode size))

  pub turns_cons : (c : ℕ) (t : List ℕ) → turns mode size (c ∷ t) ≡ (turn mode size c t).0 ++ turns mode size (turn mode size c t).1
  unfolding turns flatten
  turns_cons c t = rw (cut_cons (turn mode size) (λ c t. ends_length (turned size mode c t).ends) c t)

  -- no more items than bytes
  few_turns : (l : List ℕ) → length (turns mode size l) ≤ byte_length l
  few_turns =
      by_length (λ (l : List ℕ). length (turns mode size l) ≤ byte_length l) (rw turns_nil (omega arith))
      (λ c t ih.
      let x = turned size mode c t in
      rw (turns_cons c t, length-append) (omega (arith, x.few, ih (turn mode size c t).1 (ends_length x.ends))))

-- but for the one of an empty body of Char or Byte
pub few_items : (mode : ℕ) (s : List ℕ) → length (items_of mode s) ≤ max 1 (length s)
unfolding items_of items
few_items mode s =
    on_cond (λ (l : List Item). length l ≤ max 1 (length s)) (is_single mode) (omega arith)
    (omega (arith, few_turns mode (length s) (chars s), bytes_chars s))

pub few_bytes : (mode : ℕ) (s : List ℕ) → is_single mode ≡ false → length (items_of mode s) ≤ length s
unfolding items_of items
few_bytes mode s h = rw h (omega (arith, few_turns mode (length s) (chars s), bytes_chars s))

-- ---- the walk
pub record Walking (mode : ℕ) (s list₀ : List ℕ) (at n : ℕ) (list : List ℕ) : Type 0 where
  pub within : at ≤ length s
  pub storing : Storing (flat (turns mode (length s) (chars s))) (writes list₀) list₀ (flat (turns mode (length s) (left s at))) (3 * n) list

-- in the middle of a turn: its second item is to come
pub record Half (mode : ℕ) (s list₀ : List ℕ) (at : ℕ) (r : Step) (end n : ℕ) (list : List ℕ) : Type 0 where
  pub storing : Storing (flat (turns mode (length s) (chars s))) (writes list₀) list₀ (flat (space_from at r.space) ++ flat (turns mode (length s) (left s end))) (3 * n) list

pub walking_none : (mode : ℕ) (s list : List ℕ) → Walking mode s list 0 0 list
walking_none mode s list = record { within = omega arith; storing = storing_none (flat (turns mode (length s) (chars s))) (writes list) list }

-- a list stays as long as it was
put_as : (list₀ : List ℕ) {list list' vs : List ℕ} {k k' : ℕ} → length list ≡ length list₀ → PutIf (writes list) list k vs list' k' → PutIf (writes list₀) list k vs list' k'
put_as list₀ e p = rw e at p

module _ (mode : ℕ) {s s' : List ℕ} {at c end : ℕ} (at' : ℕ) {r : Step} (v : left s at ≡ c ∷ left s at') (q : Stepped (turn mode (length s) c (left s at')) s at r s' end) where
  -- the words of the turn at the front
  front : flat (turns mode (length s) (left s at)) ≡ flat (item_from at r.item end) ++ (flat (space_from at r.space) ++ flat (turns mode (length s) (left s end)))
  front =
      let x = turn mode (length s) c (left s at') in
      let e : turns mode (length s) (left s at) ≡ x.0 ++ turns mode (length s) x.1 = rw v (turns_cons mode (length s) c (left s at')) in
      ap flat e ∙ flat_append x.0 (turns mode (length s) x.1)
      ∙ rw (q.gives, ← q.place.there, flat_append (item_from at r.item end) (space_from at r.space)) (append_assoc (flat (item_from at r.item end)) (flat (space_from at r.space)) (flat (turns mode (length s) (left s end))))

  module _ {list₀ : List ℕ} {list : List ℕ} {n : ℕ} (w : Walking mode s list₀ at n list) where
    -- the first item, or none
    pub walk_item : {read : Result ℕ EscapeError} {n' : ℕ} {list' : List ℕ} → r.item ≡ Some read → PutIf (writes list) list (3 * n) (item_words at end read) list' (3 * n') → Half mode s list₀ at r end n' list'
    walk_item {read} k p =
        record { storing = storing_on (rw (front, k, flat_item at end read) at w.storing) (put_as list₀ w.storing.long p) }

    pub walk_no_item : r.item ≡ None → Half mode s list₀ at r end n list
    unfolding flat
    walk_no_item k = record { storing = rw (front, k) at w.storing }

    pub walk_room : {read : Result ℕ EscapeError} → (0 < length list₀ → length (flat (turns mode (length s) (chars s))) ≤ length list₀) → r.item ≡ Some read → 0 < length list → 3 * n + 3 ≤ length list
    walk_room {read} k e t =
        let rest = flat (space_from at r.space) ++ flat (turns mode (length s) (left s end)) in
        let f : length (flat (turns mode (length s) (left s at))) ≡ 3 + length rest = ap length front ∙ rw (e, flat_item at end read) (omega arith) in
        omega (arith, k (omega (arith, w.storing.long)), w.storing.count, w.storing.long, f)

  module _ {list₀ list : List ℕ} {n : ℕ} (w : Half mode s list₀ at r end n list) where
    -- the second, or none
    pub walk_space : {past n' : ℕ} {list' : List ℕ} → r.space ≡ Some past → PutIf (writes list) list (3 * n) (item_words at past (Err bad.UnskippedWhitespaceWarning)) list' (3 * n') → Walking mode s list₀ end n' list'
    walk_space {past} k p =
        record { within = q.place.within; storing = storing_on (rw (k, flat_space at past) at w.storing) (put_as list₀ w.storing.long p) }

    pub walk_no_space : r.space ≡ None → Walking mode s list₀ end n list
    unfolding flat
    walk_no_space k = record { within = q.place.within; storing = rw k at w.storing }

    pub half_room : {past : ℕ} → (0 < length list₀ → length (flat (turns mode (length s) (chars s))) ≤ length list₀) → r.space ≡ Some past → 0 < length list → 3 * n + 3 ≤ length list
    half_room {past} k e t =
        let rest = flat (turns mode (length s) (left s end)) in
        let f : length (flat (space_from at r.space) ++ rest) ≡ 3 + length rest = rw (e, flat_space at past) (omega arith) in
        omega (arith, k (omega (arith, w.storing.long)), w.storing.count, w.storing.long, f)

module _ {mode : ℕ} {s list₀ list : List ℕ} {at n : ℕ} where
  pub walk_few : Walking mode s list₀ at n list → n ≤ length s
  walk_few w =
      omega (arith, w.storing.count, length_flat (turns mode (length s) (chars s)), few_turns mode (length s) (chars s), bytes_chars s)

  pub half_few : {r : Step} {end : ℕ} → Half mode s list₀ at r end n list → n ≤ length s
  half_few w =
      omega (arith, w.storing.count, length_flat (turns mode (length s) (chars s)), few_turns mode (length s) (chars s), bytes_chars s)

  pub walk_end : Walking mode s list₀ at n list → left s at ≡ [] → Walked (turns mode (length s) (chars s)) list₀ n list
  unfolding flat
  walk_end w h =
      let z : flat (turns mode (length s) (left s at)) ≡ [] = ap (λ (l : List ℕ). flat (turns mode (length s) l)) h ∙ (rw (turns_nil mode (length s))) in
      let e = storing_end (rw z at w.storing) in
      record { count = omega (arith, e.0, length_flat (turns mode (length s) (chars s))); words = e.1 }

-- ---- Char and Byte
pub single_walked : (ascii_only : Bool) {s s' list list' : List ℕ} {read : Result ℕ EscapeError} {end n : ℕ} → Scanned (char_or_byte ascii_only) s 0 read s' end →
    PutIf (writes list) list (3 * 0) (item_words 0 end read) list' (3 * n) → Walked (one (length s) (chars s) (char_or_byte ascii_only (chars s))).0 list n list'
unfolding flat
single_walked ascii_only {s} {end = end} q p =
    record {
      count = omega (arith, p.next);
      words = p.same ∙ rw (← q.what, ← q.place.there, place_of s end q.place.within, place_of s 0 (omega arith));
    }

-- of the two, Byte has characters that should be ASCII
single_ascii : (m : Mode) → is_single (mode_number m) ≡ true → eqb (mode_number m) byte_mode ≡ ascii_only m
unfolding is_single characters_should_be_ascii
single_ascii kind.Char h = refl
single_ascii kind.Str h = absurd (false≢true h)
single_ascii kind.Byte h = refl
single_ascii kind.BitStr h = absurd (false≢true h)
single_ascii kind.ByteStr h = absurd (false≢true h)
single_ascii kind.RawStr h = absurd (false≢true h)
single_ascii kind.RawByteStr h = absurd (false≢true h)

module _ (m : Mode) (s list : List ℕ) {b : Bool} (o : b ≡ is_single (mode_number m)) where
  pub single_room : b ≡ true → (0 < length list → length (flat (items_of (mode_number m) s)) ≤ length list) → 0 < length list → 3 ≤ length list
  unfolding items_of items flat
  single_room t h l = let k : is_single (mode_number m) ≡ true = sym o ∙ t in let g = h l in rw k at g

  pub turns_room : b ≡ false → (0 < length list → length (flat (items_of (mode_number m) s)) ≤ length list) → 0 < length list → length (flat (turns (mode_number m) (length s) (chars s))) ≤ length list
  unfolding items_of items
  turns_room t h l = let k : is_single (mode_number m) ≡ false = sym o ∙ t in let g = h l in rw k at g

  module _ {list' : List ℕ} {n : ℕ} where
    pub walked_single : b ≡ true → Walked (one (length s) (chars s) (char_or_byte (ascii_only m) (chars s))).0 list n list' → Walked (items_of (mode_number m) s) list n list'
    unfolding items_of items
    walked_single t w = let k : is_single (mode_number m) ≡ true = sym o ∙ t in rw (k, single_ascii m k) w

    pub walked_turns : b ≡ false → Walked (turns (mode_number m) (length s) (chars s)) list n list' → Walked (items_of (mode_number m) s) list n list'
    unfolding items_of items
    walked_turns t w = rw (sym o ∙ t) w

-- ---- the answer of a body that passed the checks
module _ {all : List Item} {list list' : List ℕ} {n : ℕ} (w : Walked all list n list') where
  -- in an empty list that is enough, nothing is to be stored
  written : n ≤ length list / 3 → list' ≡ sets list 0 (flat all)
  written l =
      w.words ∙ by_test (writes list) (λ t. rw t refl)
      (λ f.
      let z : length list ≡ 0 = omega (arith, ltb-false 0 (length list) f) in
      let e : flat all ≡ [] = nothing (flat all) (omega (arith, length_flat all, w.count)) in
      rw (f, e) refl)

  stored : n ≤ length list / 3 → StoredItems all list done n list'
  stored l = room.stored_all w.count l (omega (arith, length_flat all, w.count)) (written l) refl refl

-- by what was counted
module _ {all : List Item} {none none' : List ℕ} {n : ℕ} (v : Walked all none n none') (list : List ℕ) where
  pub stored_short : length list / 3 < n → StoredItems all list room_too_small n list
  stored_short l = room.stored_none v.count l refl refl refl

  pub room_counted : n ≤ length list / 3 → length (flat all) ≤ length list
  room_counted l = omega (arith, length_flat all, v.count, l)

  pub stored_twice : n ≤ length list / 3 → {m : ℕ} {list' : List ℕ} → Walked all list m list' → StoredItems all list done m list'
  stored_twice l w = stored w (omega (arith, v.count, w.count))

pub stored_all : (mode : ℕ) (s : List ℕ) {list list' : List ℕ} {n : ℕ} → Walked (items_of mode s) list n list' → length s < length list / 3 → StoredItems (items_of mode s) list done n list'
stored_all mode s w l = stored w (omega (arith, w.count, few_items mode s))

pub room_enough : (mode : ℕ) (s list : List ℕ) → length s < length list / 3 → length (flat (items_of mode s)) ≤ length list
room_enough mode s list l = omega (arith, length_flat (items_of mode s), few_items mode s)

-- ---- the whole
mode_known : (m : Mode) → known_mode (mode_number m) ≡ true
mode_known kind.Char = refl
mode_known kind.Str = refl
mode_known kind.Byte = refl
mode_known kind.BitStr = refl
mode_known kind.ByteStr = refl
mode_known kind.RawStr = refl
mode_known kind.RawByteStr = refl

module _ {s list : List ℕ} {mode : ℕ} where
  pub unescaped_unknown : {r : Refusal} {x : Result ℕ Refusal} → x ≡ Err r → (r ≡ UnknownSelector) × (known_mode mode ≡ false) → Unescaped s mode list (told x).0 (told x).1 list
  unfolding answer_of listed
  unescaped_unknown e k =
      rw (e, k.0) (record { answer = rw k.1 (record { number_is = refl; also_is = refl }); words = rw k.1 refl })

  module _ (m : Mode) (h : mode_number m ≡ mode) {list' : List ℕ} where
    behind : {number also : ℕ} → Entered (check_text s) (length list / 3) (length (items_of mode s)) (flat (items_of mode s)) list number also list' → Unescaped s mode list number also list'
    unfolding answer_of listed
    behind e = let k : known_mode mode ≡ true = rw (← h) (mode_known m) in record { answer = rw k e.answer; words = rw k e.memory }

    pub unescaped_refused : {r : Refusal} {x : Result ℕ Refusal} → x ≡ Err r → refused r ≡ check_text s → list' ≡ list → Unescaped s mode list (told x).0 (told x).1 list'
    unescaped_refused {r} e c k =
        rw e (behind (room.refused (record { number_is = ap (λ (x : ℕ × ℕ). x.0) c; also_is = ap (λ (x : ℕ × ℕ). x.1) c }) (never_done r) k))

    pub unescaped_done : {number also : ℕ} → (done, 0) ≡ check_text s → StoredItems (items_of (mode_number m) s) list number also list' → Unescaped s mode list number also list'
    unescaped_done c q =
        behind (room.passed (record { number_is = ap (λ (x : ℕ × ℕ). x.0) c; also_is = ap (λ (x : ℕ × ℕ). x.1) c }) refl (rw h at q))

pub text_short : (s : List ℕ) → (done, 0) ≡ check_text s → length s ≤ longest
text_short s c = (accepted s (ap (λ (x : ℕ × ℕ). x.0) (sym c))).short

-- ---- the single answers
module _ (ascii_only : Bool) (s : List ℕ) where
  pub single_refused : {r : Refusal} {x : Result (Result ℕ EscapeError) Refusal} → x ≡ Err r → refused r ≡ check_text s → read_one x ≡ single ascii_only s
  unfolding single
  single_refused {r} e c =
      let z : eqb (check_text s).0 done ≡ false = ne_eqb _ _ (λ y. never_done r (ap (λ (x : ℕ × ℕ). x.0) c ∙ y)) in
      rw (e, z) c

  pub single_done : {read : Result ℕ EscapeError} {s' : List ℕ} {end : ℕ} → (done, 0) ≡ check_text s → Scanned (char_or_byte ascii_only) s 0 read s' end → read_one (Ok read) ≡ single ascii_only s
  unfolding single
  single_done c q =
      let z : eqb (check_text s).0 done ≡ true = eq-eqb _ _ (ap (λ (x : ℕ × ℕ). x.0) (sym c)) in
      rw (z, q.what) refl

pub part_is : (s : List ℕ) (from to : ℕ) {mode number also : ℕ} {list list' : List ℕ} → Unescaped (take (min to (length s) - min from (min to (length s))) (drop (min from (min to (length s))) s)) mode list number also list' →
    Unescaped (part s from to) mode list number also list'
part_is s from to q = q
