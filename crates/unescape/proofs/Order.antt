-- The items of a body are in order, none is empty, and each outcome is one that is given.
-- Assumes nothing.
use Prim.Native.Nat.{ℕ, ◌+◌, ◌-◌, ◌≤◌, ◌<◌}
use native.Mathlib.Omega.{arith}
use mathlib.Core.Path.{◌≡◌, refl, ap, sym, ◌∙◌}
use mathlib.Core.Bool.{Bool, true, false, false≢true}
use mathlib.Core.List.{List, [], ◌∷◌, ◌++◌, append-nil}
use lib.ListN.{length}
use lib.Dec.{eqb}
use borrow.Author.Tests.{le-leb, eqb-true, eq-eqb}
use Rattle.lists.specs.All.{all}
use Rattle.lists.specs.Eat.{eat}
use Rattle.lists.specs.Steps.{Ends}
use Rattle.lists.proofs.Bools.{by_test, on_cond, both, or_true}
use Rattle.lists.proofs.Cut.{by_length}
use Rattle.lists.proofs.Eat.{eat_more, eat_stop}
use Rattle.lists.proofs.Ends.{ends_all, ends_length, ends_eat}
use Rattle.characters.specs.Ranges.{in_table}
use Rattle.ucd.specs.Ucd.{white_space}
use Rattle.characters.specs.Utf8.{chars, is_scalar, WellFormed}
use Rattle.characters.specs.Text.{byte_length}
use Rattle.ucd.specs.Properties.{is_white_space}
use Rattle.characters.proofs.Encode.{scalar}
use Rattle.characters.proofs.Text.{ends_bytes, chars_nil, chars_first, bytes_chars}
use Rattle.characters.proofs.Valid.{width_some, well_formed_encoded, read_back}
use Rattle.text.specs.Answer.{Answered, done, check_text}
use Rattle.text.proofs.Checks.{accepted}
use Rattle.modes.specs.Modes.{char_mode, byte_mode, is_raw, is_single, characters_should_be_ascii}
use Rattle.modes.specs.Errors.{Outcome, char, error, number, out_of_range_hex_escape}
use Rattle.unescape.specs.Escapes.{escape, ascii_check}
use Rattle.unescape.specs.Bodies.{Item, char_or_byte, str_char, raw_char, is_skipped, saw_lf, item, one, unskipped, skipped, slashed, str_common, raw_str, turn, turns, items, items_of}
use Rattle.unescape.specs.Promises.{single}
use Rattle.unescape.specs.Order.{is_outcome, warning21, Lies, Follows, apart, shared, about, InOrder, none, last, next}
use Rattle.unescape.proofs.Fair.{fault, Told, Fair, IsScalar, allows_scalars, escape_fair, char_read, raw_told, str_told}
use Rattle.unescape.proofs.Whole.{turned, turns_nil, turns_cons}

-- ---- the characters of a well-formed body are scalar values, and so are those of each of its ends
module _ {A : Type 0} (p : A → Bool) where
  all_behind : (front l : List A) → all p (front ++ l) ≡ true → all p l ≡ true
  unfolding all
  all_behind [] l h = h
  all_behind (c ∷ front) l h = all_behind front l (both (p c) (all p (front ++ l)) h).1

  all_ends : {x t : List A} → Ends x t → all p t ≡ true → all p x ≡ true
  all_ends {x} e h = all_behind e.front x (rw e.is at h)

  first_of : (c : A) (t : List A) → all p (c ∷ t) ≡ true → (p c ≡ true) × (all p t ≡ true)
  unfolding all
  first_of c t h = both (p c) (all p t) h

chars_scalar : (s : List ℕ) → WellFormed s → all is_scalar (chars s) ≡ true
chars_scalar s h =
    let e = well_formed_encoded s h in
    let q : chars s ≡ e.of = ap chars (e.same ∙ sym (append-nil _)) ∙ read_back e.of [] e.scalars ∙ rw chars_nil (append-nil e.of) in
    rw q e.scalars

-- ---- outcomes
told_outcome : (o : Outcome) → Told IsScalar o → is_outcome (number o) ≡ true
told_outcome (char c) h = rw h
told_outcome (error e) h =
    let f = fault e h in
    let z : 1114112 + e - 1114112 ≡ e = omega arith in
    rw (z, f.some, le-leb e 22 (omega (arith, f.few)), f.not_ten) (or_true (is_scalar (1114112 + e)))

-- a scan gives no warning
told_below : (o : Outcome) → Told IsScalar o → number o < warning21
told_below (char c) h = omega (arith, (scalar c h).top)
told_below (error e) h = omega (arith, (fault e h).few)

-- ---- what is skipped ends before a character that is not skipped
abbrev Halts : List ℕ → Type 0
Halts [] = Unit {0}
Halts (c ∷ t) = is_skipped c ≡ false

eat_halts : (b : Bool) (l : List ℕ) → Halts (eat is_skipped saw_lf b l).1
unfolding eat
eat_halts b [] = tt
eat_halts b (c ∷ t) =
    by_test (is_skipped c) (λ h. rw (eat_more is_skipped saw_lf b c t h) (eat_halts (saw_lf b c) t)) (λ h. rw (eat_stop is_skipped saw_lf b c t h) h)

not_cr : (c : ℕ) → is_skipped c ≡ false → eqb c 0x0D ≡ false
not_cr c n = by_test (eqb c 0x0D) (λ e. absurd (false≢true (sym n ∙ rw (eqb-true c 0x0D e)))) (λ e. e)

not_quote : (c : ℕ) → is_white_space c ≡ true → eqb c 0x22 ≡ false
unfolding in_table white_space
not_quote c s = by_test (eqb c 0x22) (λ e. absurd (false≢true (rw (eqb-true c 0x22 e) at s))) (λ e. e)

-- ---- lists of items
-- where the first starts; where there is none, where the body ends
abbrev start_of : ℕ → List Item → ℕ
start_of size [] = size
start_of size (i ∷ l) = i.start

record First (i : Item) (l : List Item) : Type 0 where
  rest : List Item
  same : l ≡ i ∷ rest

module _ (mode size : ℕ) where
  abbrev ascii_only : Bool
  ascii_only = characters_should_be_ascii mode

  -- white space that is not skipped is an item of its own
  abbrev Own : List ℕ → List Item → Type 0
  Own [] l = Unit {0}
  Own (c ∷ t) l = is_white_space c ≡ true → is_skipped c ≡ false → First (item size (c ∷ t) t (ascii_check ascii_only c)) l

  -- the items of what is left
  record Listed (t : List ℕ) (l : List Item) : Type 0 where
    order : InOrder mode size l
    low : size - byte_length t ≤ start_of size l
    own : Own t l

  -- an item that is not warning 21, before those that start behind it
  before : (i : Item) (l : List Item) → Lies size i → (i.outcome ≡ warning21 → ⊥) → i.end ≤ start_of size l → InOrder mode size l → InOrder mode size (i ∷ l)
  before i [] a n h o = last i a n
  before i (j ∷ l) a n h o = next i j l a (apart n h) o

  -- the item of one scan, from a character on
  scanned : (c : ℕ) (t : List ℕ) (x : Outcome × List ℕ) (l : List Item) → Fair IsScalar t x → byte_length (c ∷ t) ≤ size → size - byte_length x.1 ≤ start_of size l → InOrder mode size l →
      InOrder mode size (item size (c ∷ t) x.1 x.0 ∷ l)
  unfolding byte_length
  scanned c t x l f h k o =
      let b = ends_bytes f.ends in
      let w = width_some c in
      before (item size (c ∷ t) x.1 x.0) l (record { some = omega arith; within = omega arith; given = told_outcome x.0 f.told })
      (λ z. omega (arith, told_below x.0 f.told)) k o

  -- what a turn gives is in order before whatever is in order behind it
  Orders : ℕ → List ℕ → List Item × List ℕ → Type 0
  Orders c t x = byte_length (c ∷ t) ≤ size → (l : List Item) → Listed x.1 l → Listed (c ∷ t) (x.0 ++ l)

  one_orders : (c : ℕ) (t : List ℕ) (x : Outcome × List ℕ) → Fair IsScalar t x → (is_white_space c ≡ true → is_skipped c ≡ false → x ≡ (ascii_check ascii_only c, t)) → Orders c t (one size (c ∷ t) x)
  unfolding Orders
  one_orders c t x f e h l k =
      record {
        order = scanned c t x l f h k.low k.order;
        low = omega arith;
        own = λ s n. record { rest = l; same = ap (λ (x : Outcome × List ℕ). item size (c ∷ t) x.1 x.0 ∷ l) (e s n) };
      }

  -- warning 21, before the item of the character with which it ends
  space : (from : List ℕ) (c : ℕ) (t : List ℕ) → is_white_space c ≡ true → is_skipped c ≡ false → byte_length (c ∷ t) < byte_length from → byte_length from ≤ size → (l : List Item) → Listed (c ∷ t) l →
      InOrder mode size (item size from t (error 21) ∷ l)
  unfolding byte_length is_scalar
  space from c t s n b h l k =
      let w = width_some c in
      let o = k.own s n in
      rw o.same
      (next (item size from t (error 21)) (item size (c ∷ t) t (ascii_check ascii_only c)) o.rest
      (record { some = omega arith; within = omega arith; given = refl })
      (about c refl s (omega arith) (omega arith) refl refl)
      (rw o.same at k.order))

  -- the items of a backslash at `from` and what is skipped behind it: warning 22, warning 21, or none
  skipped_order : (from : List ℕ) (x : Bool × List ℕ) → Halts x.1 → byte_length x.1 < byte_length from → byte_length from ≤ size → (l : List Item) → Listed x.1 l →
      (InOrder mode size ((skipped size from x).0 ++ l)) × (size - byte_length from ≤ start_of size ((skipped size from x).0 ++ l))
  unfolding byte_length is_scalar skipped unskipped
  skipped_order from (true, []) s b h l k =
      (before (item size from [] (error 22)) l (record { some = omega arith; within = omega arith; given = refl }) (λ z. omega arith) k.low k.order, omega arith)
  skipped_order from (true, c ∷ t) s b h l k =
      let w = width_some c in
      let i = item size from (c ∷ t) (error 22) in
      let a : Lies size i = record { some = omega arith; within = omega arith; given = refl } in (
        by_test (is_white_space c)
            (λ e. rw e (next i (item size from t (error 21)) l a (shared refl refl refl (omega arith)) (space from c t e s b h l k)))
            (λ e. rw e (before i l a (λ z. omega arith) k.low k.order)),
        omega arith,
      )
  skipped_order from (false, []) s b h l k = (k.order, omega (arith, k.low))
  skipped_order from (false, c ∷ t) s b h l k =
      by_test (is_white_space c) (λ e. rw e (space from c t e s b h l k, omega arith)) (λ e. rw e (k.order, omega (arith, k.low)))

  -- behind a backslash, which is no white space
  module _ (c : ℕ) (e : eqb c 0x5C ≡ true) where
    no_space : {P : Type 0} → is_white_space c ≡ true → P
    unfolding in_table white_space
    no_space h = absurd (false≢true (rw (eqb-true c 0x5C e) at h))

    skipped_orders : (x : ℕ) (t : List ℕ) → Orders c (x ∷ t) (skipped size (c ∷ x ∷ t) (eat is_skipped saw_lf false t))
    unfolding Orders skipped byte_length
    skipped_orders x t h l k =
        let b = ends_bytes (ends_eat is_skipped saw_lf false t) in
        let o = skipped_order (c ∷ x ∷ t) (eat is_skipped saw_lf false t) (eat_halts false t) (omega (arith, b, width_some c)) h l k in
        record { order = o.0; low = o.1; own = λ s. no_space s }

    slashed_orders : (t : List ℕ) → Orders c t (slashed size ascii_only (c ∷ t) t)
    unfolding slashed
    slashed_orders [] = one_orders c [] (escape ascii_only []) (escape_fair (allows_scalars ascii_only) []) (λ s. no_space s)
    slashed_orders (x ∷ t) =
        on_cond (Orders c (x ∷ t)) (eqb x 0x0A) (skipped_orders x t)
        (one_orders c (x ∷ t) (escape ascii_only (x ∷ t)) (escape_fair (allows_scalars ascii_only) (x ∷ t)) (λ s. no_space s))

  -- a character that stands for itself; white space that is not skipped is neither a quote nor a CR
  module _ (c : ℕ) (t : List ℕ) (v : is_scalar c ≡ true) where
    raw_orders : Orders c t (one size (c ∷ t) (raw_char ascii_only c, t))
    unfolding raw_char
    raw_orders =
        one_orders c t (raw_char ascii_only c, t) (record { told = raw_told (allows_scalars ascii_only) c (λ z. v); ends = ends_all _ })
        (λ s n. rw (not_cr c n))

    str_orders : Orders c t (one size (c ∷ t) (str_char ascii_only c, t))
    unfolding str_char
    str_orders =
        one_orders c t (str_char ascii_only c, t) (record { told = str_told (allows_scalars ascii_only) c (λ z. v); ends = ends_all _ })
        (λ s n. rw (not_quote c s, not_cr c n))

  turn_orders : (c : ℕ) (t : List ℕ) → is_scalar c ≡ true → Orders c t (turn mode size c t)
  unfolding turn raw_str str_common
  turn_orders c t v =
      on_cond (Orders c t) (is_raw mode) (raw_orders c t v)
      (by_test (eqb c 0x5C) (λ e. rw e (slashed_orders c e t)) (λ e. rw e (str_orders c t v)))

  turns_listed : (t : List ℕ) → all is_scalar t ≡ true → byte_length t ≤ size → Listed t (turns mode size t)
  unfolding Orders
  turns_listed =
      by_length (λ (t : List ℕ). all is_scalar t ≡ true → byte_length t ≤ size → Listed t (turns mode size t))
      (λ v h. rw (turns_nil mode size) (record { order = none; low = omega arith; own = tt }))
      (λ c t ih v h.
      let x = turn mode size c t in
      let u = turned size mode c t in
      let p = first_of is_scalar c t v in
      rw (turns_cons mode size c t)
      (turn_orders c t p.0 h (turns mode size x.1)
      (ih x.1 (ends_length u.ends) (all_ends is_scalar u.ends p.1) (omega (arith, u.few)))))

  -- Char and Byte: their one item starts the body
  single_order : (b : Bool) (t : List ℕ) → all is_scalar t ≡ true → byte_length t ≤ size → 0 < length t → InOrder mode size (one size t (char_or_byte b t)).0
  single_order b [] v h k = absurd (omega arith)
  single_order b (c ∷ t) v h k =
      scanned c t (char_or_byte b (c ∷ t)) [] (char_read (allows_scalars b) c t (λ z. (first_of is_scalar c t v).0)) h (omega arith) none

chars_some : (s : List ℕ) → 0 < length s → 0 < length (chars s)
chars_some s h = rw (chars_first s h) (omega arith)

-- IN ORDER: the items of every well-formed body, but an empty one of Char or Byte. Each lies within the body and is not empty, and its
-- outcome is a scalar value or an error that is given. Of two neighbours the second starts at or behind the end of the first, unless
-- the first is a warning: 22 shares its start with the 21 of the same skip, and the span of 21 ends with the character of White_Space
-- that the next item is about. There always is a next one, which has this character's bytes and no others.
pub in_order : (mode : ℕ) (s : List ℕ) → WellFormed s → (is_single mode ≡ true → 0 < length s) → InOrder mode (length s) (items_of mode s)
unfolding items_of items
in_order mode s w k =
    let b : byte_length (chars s) ≤ length s = omega (arith, bytes_chars s) in
    let v = chars_scalar s w in
    by_test (is_single mode) (λ h. rw h (single_order mode (length s) (eqb mode byte_mode) (chars s) v b (chars_some s (k h))))
    (λ h. rw h (turns_listed mode (length s) (chars s) v b).order)

-- the empty one has one item, an empty one: there was no character
pub one_empty : (mode : ℕ) → is_single mode ≡ true → items_of mode [] ≡ record { start = 0; end = 0; outcome = 1114113 } ∷ []
unfolding items_of items char_or_byte byte_length
one_empty mode h = rw (h, chars_nil)

-- so neither starts nor ends ever fall
pub rising : {mode size : ℕ} {i j : Item} → Lies size i → Lies size j → Follows mode i j → (i.start ≤ j.start) × (i.end ≤ j.end)
rising a b (apart n h) = (omega (arith, a.some), omega (arith, b.some))
rising a b (shared x y e h) = (omega (arith, e), omega arith)
rising a b (about c x w h k e y) = (omega arith, omega (arith, e))

-- ---- each outcome by itself
all_given : {mode size : ℕ} {l : List Item} → InOrder mode size l → all (λ (i : Item). is_outcome i.outcome) l ≡ true
unfolding all
all_given none = refl
all_given (last i a n) = rw a.given
all_given (next i j l a f o) = rw a.given (all_given o)

-- every outcome of a well-formed body is a scalar value, or 1,114,112 plus the place of an error that is given
pub only_given : (mode : ℕ) (s : List ℕ) → WellFormed s → all (λ (i : Item). is_outcome i.outcome) (items_of mode s) ≡ true
unfolding all is_scalar
only_given mode [] w =
    by_test (is_single mode) (λ h. rw (one_empty mode h)) (λ h. all_given (in_order mode [] w (λ k. absurd (false≢true (sym h ∙ k)))))
only_given mode (a ∷ s) w = all_given (in_order mode (a ∷ s) w (λ h. omega arith))

-- so none is 1,114,122: OutOfRangeHexEscape is never given
ten_not_given : {n : ℕ} → is_outcome n ≡ true → n ≡ number (error out_of_range_hex_escape) → ⊥
unfolding is_scalar
ten_not_given g h = false≢true (rw h at g)

pub never_ten : (mode : ℕ) (s : List ℕ) → WellFormed s → (front : List Item) (i : Item) (rest : List Item) → items_of mode s ≡ front ++ (i ∷ rest) → i.outcome ≡ number (error out_of_range_hex_escape) → ⊥
never_ten mode s w front i rest e =
    let p : Item → Bool = λ i. is_outcome i.outcome in
    ten_not_given (first_of p i rest (all_behind p front (i ∷ rest) (rw e at (only_given mode s w)))).0

-- ---- the same of the single answers: where the number is 0, what is also returned is such an outcome
single_outcome : (ascii_only : Bool) (s : List ℕ) → WellFormed s → is_outcome (number (char_or_byte ascii_only (chars s)).0) ≡ true
unfolding all items_of items is_single
single_outcome true s w = (both _ true (only_given byte_mode s w)).0
single_outcome false s w = (both _ true (only_given char_mode s w)).0

pub single_given : (ascii_only : Bool) (s : List ℕ) {also : ℕ} → Answered (single ascii_only s) done also → is_outcome also ≡ true
unfolding single
single_given ascii_only s a =
    by_test (eqb (check_text s).0 done)
    (λ h. rw (a.also_is, h) (single_outcome ascii_only s (accepted s (eqb-true (check_text s).0 done h)).good))
    (λ h.
    let n : done ≡ (check_text s).0 = rw h at a.number_is in
    absurd (false≢true (sym h ∙ eq-eqb (check_text s).0 done (sym n))))
