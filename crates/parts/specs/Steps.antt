-- What the functions behind the calls answer.
-- Assumes nothing.
use Rattle.std.specs.Prelude.{ℕ, zero, suc, ◌+◌, ◌-◌, ◌*◌, ◌/◌, ◌≤◌, ◌<◌, min, ◌≡◌, Bool, true, false, not, cond, ◌||◌, Option, None, Some, Result, Ok, Err, List, [], ◌∷◌, ◌++◌, eqb, ltb, length, take, drop, get_or}
use Rattle.std.proofs.lemmas.List.Edits.{sets}
use Rattle.lists.specs.Over.{over}
use Rattle.lists.specs.Steps.{PutIf}
use Rattle.characters.specs.Utf8.{chars, width, valid_up_to}
use Rattle.characters.specs.Unfinished.{unfinished}
use Rattle.characters.specs.Text.{byte_length}
use Rattle.text.specs.Answer.{done, unknown_selector, too_long, not_utf8, direction_mark, longest, check_room, ◌and_then◌}
use Rattle.cutters.specs.Records.{record_words}
use Rattle.lexer.specs.Cut.{Letters}
use Rattle.locality.specs.Machine.{eats, halts}
use Rattle.locality.specs.Phases.{act, first}
use Rattle.feeding.specs.Tracker.{fresh, seen}
use Rattle.feeding.specs.Fed.{Rec, words, State, idle, busy, held, ended, feed, feeds, last_of, finish}
use Rattle.feeding.specs.Begun.{whole, beyond, fault_of}
use Rattle.feeding.specs.Lexer.{Lexer, fits, taken, running}
use Rattle.feeding.specs.Call.{not_open, known_in_parts, fed_to, given, fed_all, next_begun, answer, keeps, accepted}
use Rattle.phases.specs.Codec.{flag_number}
use Rattle.parts.specs.Coded.{busy_of, held_of, state_of, packed_machine, packed_pend, meaning, packed, ended_lexer}
use Rattle.parts.specs.Refusals.{feed_refused}
use Rattle.parts.specs.declared.Lexer as D
use Rattle.parts.specs.declared.Last.{Last}
use Rattle.parts.specs.declared.Fed.{Fed}
use Rattle.text.specs.Refusals.{refused}
use Rattle.text.specs.declared.Refusal.{Refusal}
use Rattle.text.specs.declared.Refusal.TheVariants.{RoomTooSmall}
use Rattle.parts.specs.declared.refusals.FeedRefusal.{FeedRefusal}
use Rattle.parts.specs.declared.state.Token.{Token}
use Rattle.parts.specs.declared.state.Record.{Record}
use Rattle.parts.specs.declared.state.Turn.{Turn}
use Rattle.parts.specs.declared.passes.Went.{Went}
use Rattle.parts.specs.declared.check.Scan.{Scan}
use Rattle.parts.specs.declared.pend.Pend.{Pend}
use Rattle.parts.specs.declared.pend.Head as H
use Rattle.parts.specs.declared.pend.Head.TheVariants as Y

-- ---- a character more
-- the record of a token that starts at `at`, if there is one, and how many bytes it has
abbrev pub rec_of : ℕ → Record → Rec
rec_of at r = record { token = record { kind = r.kind; len = r.len; suffix = r.suffix }; start = at; misplaced = r.misplaced }

abbrev pub recs_of : ℕ → Option Record → List Rec
recs_of at None = []
recs_of at (Some r) = rec_of at r ∷ []

abbrev pub len_of : Option Record → ℕ
len_of None = 0
len_of (Some r) = r.len

-- the record of a turn, if it hands one out, of a token that starts at `at`
abbrev pub handed : Turn → ℕ → List Rec
handed t at = recs_of at t.given

-- what a turn says, of a token that starts at `at`
abbrev pub turned : Turn → ℕ → List Rec × (State × ℕ)
turned t at = (handed t at, (state_of t.point.state, t.point.begun))

module _ (u : Letters) (profile : ℕ) where
  -- at the end of the text the character that is held is decided: what is handed out before the last token
  unfoldable pub released : ℕ → State → List Rec × (State × ℕ)
  released at idle = ([], (idle, at))
  released at (busy q n m o) = ([], (busy q n m o, at))
  released at (held q n m o x) =
      elim (act u q (x ∷ [])) [
        | eats b p ↦ ([], (busy p (n + width x) (cond b n m) (seen o b n x), at))
        | halts b k ↦ (ended at n m o b k ∷ [], (busy (first u profile x) (width x) 0 (fresh x), at + n))
      ]

  -- and then the last token, where nothing is held
  unfoldable pub lastly : ℕ → State → List Rec × (State × ℕ)
  lastly at idle = ([], (idle, at))
  lastly at (busy q n m o) = (last_of u profile at n m o (act u q []), (idle, at + n))
  lastly at (held q n m o x) = ([], (idle, at))

  -- ---- some characters, and then the end of the text where `ends` says so
  unfoldable pub passed : ℕ → State → List ℕ → Bool → List Rec × (State × ℕ)
  passed at s l ends =
      let r = feeds u profile at s l in
      (r.0 ++ cond ends (finish u profile r.1.1 r.1.0) [], cond ends (idle, r.1.1 + taken r.1.0) r.1)

-- a character that a token has come to, and what stands behind it: the token behind it, and the record of the one that ended before it, if any
pub record Stepped (u : Letters) (profile : ℕ) (t : Token) (x y : ℕ) (t' : Token) (given : Option Record) : Type 0 where
  pub small : len_of given ≤ t.eaten
  pub held_is : (at : ℕ) → (recs_of at given, (held_of t' y, at + len_of given)) ≡ feed u profile at (held_of t x) y
  pub freed_is : y ≡ 0 → (at : ℕ) → (recs_of at given, (busy_of t', at + len_of given)) ≡ released u profile at (held_of t x)

-- what holds of the last token, whatever the letters are, of which NUL begins no identifier
pub record Lastly (at : ℕ) (s : State) (t : Turn) : Type 0 where
  pub all : (u : Letters) (profile : ℕ) → u.start 0 ≡ false → turned t at ≡ lastly u profile at s

-- nothing is held
abbrev pub Free : State → Type 0
Free idle = Unit {0}
Free (busy q n m o) = Unit {0}
Free (held q n m o x) = ⊥

-- more words than the records of a text and of its end can take
abbrev pub most : ℕ
most = 21474836520

-- a character, where there is one
abbrev pub one_of : Bool → ℕ → List ℕ
one_of head code = cond head (code ∷ []) []

abbrev pub first_of : Option ℕ → List ℕ
first_of None = one_of false 0
first_of (Some code) = one_of true code

-- ---- what is asked before a part of the way: a state that fits, a text that is not too long, places that can be told, and room for what is stored
module _ (u : Letters) (profile : ℕ) where
  module _ (w : Went) where
    abbrev at : ℕ
    at = w.point.begun

    abbrev s : State
    s = state_of w.point.state

    pub record StepReady (c : ℕ) (write : Bool) (list : List ℕ) : Type 0 where
      pub fit : fits s ≡ true
      pub small : at + taken s ≤ longest
      pub few : w.words ≤ most
      pub room : (write ≡ true → w.words + length (words (feed u profile at s c).0) ≤ length list)

    pub record HeadReady (head : Option ℕ) (write : Bool) (list : List ℕ) : Type 0 where
      pub fit : fits s ≡ true
      pub small : at + taken s ≤ longest
      pub few : w.words ≤ most
      pub room : (write ≡ true → w.words + length (words (feeds u profile at s (first_of head)).0) ≤ length list)

    pub record WordsReady (t : List ℕ) (write : Bool) (list : List ℕ) : Type 0 where
      pub fit : fits s ≡ true
      pub small : at + (taken s + length t) ≤ longest
      pub few : w.words + record_words * length t ≤ most
      pub room : (write ≡ true → w.words + length (words (feeds u profile at s (chars t)).0) ≤ length list)

    pub record EndReady (write : Bool) (list : List ℕ) : Type 0 where
      pub fit : fits s ≡ true
      pub small : at + taken s ≤ longest
      pub few : w.words + 2 * record_words ≤ most
      pub room : (write ≡ true → w.words + length (words (finish u profile at s)) ≤ length list)

  pub record PassReady (at : ℕ) (s : State) (head : Option ℕ) (t : List ℕ) (ends write : Bool) (list : List ℕ) : Type 0 where
    pub fit : fits s ≡ true
    pub small : at + (taken s + (byte_length (first_of head) + length t)) ≤ longest
    pub room : (write ≡ true → length (words (passed u profile at s (first_of head ++ chars t) ends).0) ≤ length list)

-- what a part of the way has come to: the words of its records, stored where `write` says so from place k on, and what is behind it
pub record Gone (is : List Rec × (State × ℕ)) (write : Bool) (list : List ℕ) (k : ℕ) (w : Went) (list' : List ℕ) : Type 0 where
  pub stored : PutIf write list k (words is.0) list' w.words
  pub behind : (state_of w.point.state, w.point.begun) ≡ is.1

-- ---- faults
-- the first character of the bytes of an unfinished one and a chunk behind them: it is whole, and takes so many bytes of the chunk; it is still unfinished; or
-- nothing can finish it
pub record WholeHead (pend chunk : List ℕ) (code from : ℕ) : Type 0 where
  pub are : chars (pend ++ chunk) ≡ code ∷ chars (drop from chunk)
  pub char : code < 1114112
  pub within : from ≤ length chunk
  pub wide : width code ≡ length pend + from

pub record ShortHead (pend chunk : List ℕ) (q : Pend) : Type 0 where
  pub short : unfinished (pend ++ chunk) ≡ true
  pub same : q ≡ packed_pend (pend ++ chunk)

pub record BadHead (pend chunk : List ℕ) : Type 0 where
  pub bad : unfinished (pend ++ chunk) ≡ false
  pub none : valid_up_to (pend ++ chunk) ≡ 0

abbrev pub HeadIs : List ℕ → List ℕ → H.Head → Type 0
HeadIs pend chunk (Y.Whole code from) = WholeHead pend chunk code from
HeadIs pend chunk (Y.Short q) = ShortHead pend chunk q
HeadIs pend chunk Y.Bad = BadHead pend chunk

-- the chunk from a place on, of a text with `fed` bytes before the chunk
pub record RestGood (chunk : List ℕ) (from : ℕ) (head : Option ℕ) (c : Scan) : Type 0 where
  pub head_is : c.head ≡ head
  pub text_is : c.text.now ≡ whole (drop from chunk)
  pub rest : c.pend ≡ packed_pend (beyond (drop from chunk))

abbrev pub RestScanned : Bool → ℕ → List ℕ → ℕ → Option ℕ → Result Scan Refusal → Type 0
RestScanned last fed chunk from head (Ok c) = (fault_of last (fed + from) (drop from chunk) ≡ (done, 0)) × RestGood chunk from head c
RestScanned last fed chunk from head (Err r) = fault_of last (fed + from) (drop from chunk) ≡ refused r

-- bytes without a fault
pub record Good (pend chunk : List ℕ) (c : Scan) : Type 0 where
  pub are : chars (whole (pend ++ chunk)) ≡ first_of c.head ++ chars c.text.now
  pub rest : c.pend ≡ packed_pend (beyond (pend ++ chunk))

-- bytes that stand at `at` of the whole text
abbrev pub Scanned : Bool → ℕ → List ℕ → List ℕ → Result Scan Refusal → Type 0
Scanned last at pend chunk (Ok c) = (fault_of last at (pend ++ chunk) ≡ (done, 0)) × Good pend chunk c
Scanned last at pend chunk (Err r) = fault_of last at (pend ++ chunk) ≡ refused r

-- ---- the carry
-- the end of the last of n records of a list, from the i-th on, that start before a place, of records that begin at e
unfoldable pub end_in : List ℕ → ℕ → ℕ → ℕ → ℕ → ℕ
end_in list place e i zero = e
end_in list place e i (suc n) =
    let k = i * record_words in
    elim (ltb (get_or list (k + 3) 0) place) [
      | true ↦ end_in list place (get_or list (k + 3) 0 + get_or list (k + 1) 0) (suc i) n
      | false ↦ e
    ]

-- bytes stored from place k on, as many as there is room for
pub record Copied (carry : List ℕ) (k : ℕ) (bytes : List ℕ) (r : ℕ) (carry' : List ℕ) : Type 0 where
  pub next : r ≡ min (length carry) (k + length bytes)
  pub same : carry' ≡ sets carry k (take (length carry - k) bytes)

-- what is kept: `old` bytes behind `packed` others, of which `kept` are there in all, and behind them those of the chunk but what is between `front` and
-- `back`
abbrev pub there_of : List ℕ → ℕ → ℕ → ℕ → ℕ
there_of carry old packed kept = min old (min (kept - packed) (length carry - packed))

unfoldable pub kept_bytes : List ℕ → List ℕ → ℕ → ℕ → ℕ → ℕ → ℕ → List ℕ
kept_bytes carry chunk old packed kept front back =
    cond (ltb (there_of carry old packed kept) old) (take (there_of carry old packed kept) (drop packed carry))
    (take (length carry) (take old (drop packed carry) ++ (take front chunk ++ drop back chunk)))

pub record Kept (bytes carry : List ℕ) (n : ℕ) (carry' : List ℕ) : Type 0 where
  pub many : n ≡ length bytes
  pub same : carry' ≡ over bytes carry

-- ---- the refusals before the room
unfoldable pub check_of : Lexer → Bool → List ℕ → ℕ × ℕ
check_of x last chunk =
    cond (x.over || not (running x)) (not_open, 0) (done, 0)
    and_then (cond (known_in_parts x.profile) (done, 0) (unknown_selector, 0)
    and_then (cond (ltb longest (fed_all x last chunk)) (too_long, 0) (done, 0)
    and_then fault_of last (x.fed - length x.pend) (x.pend ++ chunk)))

abbrev pub Checked : Lexer → Bool → List ℕ → Result Scan FeedRefusal → Type 0
Checked x last chunk (Ok c) = (check_of x last chunk ≡ (done, 0)) × Good x.pend chunk c
Checked x last chunk (Err r) = check_of x last chunk ≡ feed_refused r

-- ---- a call that has passed them
pub record CallReady (x : Lexer) (last : Bool) (chunk : List ℕ) (c : Scan) : Type 0 where
  pub runs : running x ≡ true
  pub short : fed_all x last chunk ≤ longest
  pub whole : (last ≡ true → length (beyond (x.pend ++ chunk)) ≡ 0)
  pub good : Good x.pend chunk c

-- its records, and where the machine is behind them
abbrev pub handed_out : Lexer → Bool → List ℕ → List Rec × (State × ℕ)
handed_out x last chunk = (given x last chunk, (cond last idle (fed_to x last chunk).1.0, next_begun x last chunk))

-- these are stored, and the machine is behind them
pub record AcceptReady (x : D.Lexer) (last : Bool) (chunk : List ℕ) (pend : Pend) (w : Went) (list : List ℕ) : Type 0 where
  pub runs : running (meaning x) ≡ true
  pub short : fed_all (meaning x) last chunk ≤ longest
  pub whole : (last ≡ true → length (beyond ((meaning x).pend ++ chunk)) ≡ 0)
  pub beyond_is : pend ≡ packed_pend (beyond ((meaning x).pend ++ chunk))
  pub state_is : state_of w.point.state ≡ cond last idle (fed_to (meaning x) last chunk).1.0
  pub begun_is : w.point.begun ≡ next_begun (meaning x) last chunk
  pub many : w.words ≡ length (words (given (meaning x) last chunk))
  pub rest : List ℕ
  pub front : list ≡ words (given (meaning x) last chunk) ++ rest

pub record Accepted (x : Lexer) (last : Bool) (chunk carry : List ℕ) (r : Fed) (carry' : List ℕ) : Type 0 where
  pub number_is : r.answer.number ≡ done
  pub also_is : r.answer.also ≡ length (given x last chunk)
  pub lexer : r.lexer ≡ packed (accepted x last chunk carry)
  pub kept : carry' ≡ over (keeps x last chunk carry) carry

-- the value behind a call, by its parts
abbrev pub behind_as : D.Lexer → Bool → State → ℕ → Pend → Last → D.Lexer
behind_as x last s begun pend call = record {
  profile = x.profile;
  over = flag_number last;
  machine = packed_machine s;
  begun = begun;
  pend = pend;
  fed = x.fed + call.chunk;
  last = call;
}

-- a value that is refused
pub record Refused (x : D.Lexer) (number also : ℕ) (r : Fed) : Type 0 where
  pub number_is : r.answer.number ≡ number
  pub also_is : r.answer.also ≡ also
  pub lexer : r.lexer ≡ cond (eqb number too_long || (eqb number not_utf8 || eqb number direction_mark)) (ended_lexer x) x

-- how many records are needed, where they are more than there is room for
abbrev pub Roomed : {A : Type 0} → ℕ → ℕ → Result A Refusal → Type 0
Roomed room need (Ok x) = need ≤ room
Roomed room need (Err r) = (room < need) × (r ≡ RoomTooSmall need)

-- what is stored, and what is left as it was
pub record Stored (x : D.Lexer) (last : Bool) (chunk carry list : List ℕ) (r : Fed) (carry' list' : List ℕ) : Type 0 where
  pub accepts : Accepted (meaning x) last chunk carry r carry'
  pub words_are : list' ≡ over (words (given (meaning x) last chunk)) list

pub record Spared (carry list carry' list' : List ℕ) : Type 0 where
  pub kept : carry' ≡ carry
  pub words_are : list' ≡ list

-- the room, and what follows
abbrev pub Delivered : D.Lexer → Bool → List ℕ → List ℕ → List ℕ → Result Fed Refusal → List ℕ → List ℕ → Type 0
Delivered x last chunk carry list (Ok f) carry' list' =
    (check_room (length list / record_words) (length (given (meaning x) last chunk)) ≡ (done, length (given (meaning x) last chunk)))
    × Stored x last chunk carry list f carry' list'
Delivered x last chunk carry list (Err r) carry' list' =
    (check_room (length list / record_words) (length (given (meaning x) last chunk)) ≡ refused r) × Spared carry list carry' list'

-- and a whole call
abbrev pub Attempted : D.Lexer → Bool → List ℕ → List ℕ → List ℕ → Result Fed FeedRefusal → List ℕ → List ℕ → Type 0
Attempted x last chunk carry list (Ok f) carry' list' =
    (answer (meaning x) last chunk (length list) ≡ (done, length (given (meaning x) last chunk))) × Stored x last chunk carry list f carry' list'
Attempted x last chunk carry list (Err r) carry' list' =
    (answer (meaning x) last chunk (length list) ≡ feed_refused r) × Spared carry list carry' list'
