-- One call: a chunk is fed (`last` is false), or the text is finished (`last` is true, and the chunk is empty).
-- Assumes nothing.
use Rattle.std.specs.Prelude.{ℕ, zero, suc, ◌+◌, ◌-◌, ◌/◌, Bool, true, false, not, cond, ◌&&◌, ◌||◌, List, [], ◌∷◌, ◌++◌, eqb, leb, ltb, length, take, get_or}
use Rattle.lists.specs.Over.{over}
use Rattle.characters.specs.Utf8.{chars}
use Rattle.text.specs.Answer.{done, unknown_selector, too_long, not_utf8, direction_mark, longest, check_room, ◌and_then◌}
use Rattle.cutters.specs.Records.{record_words}
use Rattle.lexer.specs.Unicode.{unicode}
use Rattle.feeding.specs.Fed.{Rec, words, State, idle, feeds, finish}
use Rattle.feeding.specs.Begun.{whole, beyond, fault_of}
use Rattle.feeding.specs.Lexer.{Lexer, running}

abbrev pub not_open : ℕ
not_open = 5

-- the profiles that can be fed in parts: those of OpenQASM 3
abbrev pub known_in_parts : ℕ → Bool
known_in_parts p = ltb p 2

-- the numbers places i, i + 1 and so on, n of them
unfoldable pub places : ℕ → ℕ → List ℕ
places i zero = []
places i (suc n) = i ∷ places (suc i) n

-- the end of the last of the records that start before a place, of records that begin at e
unfoldable pub end_before : ℕ → ℕ → List Rec → ℕ
end_before place e [] = e
end_before place e (r ∷ rs) =
    elim (ltb r.start place) [ true ↦ end_before place (r.start + r.token.len) rs | false ↦ e ]

module _ (x : Lexer) (last : Bool) (chunk : List ℕ) where
  abbrev pub bytes : List ℕ
  bytes = x.pend ++ chunk

  abbrev pub fed_to : List Rec × (State × ℕ)
  fed_to = feeds unicode x.profile x.begun x.state (chars (whole bytes))

  -- what is handed out
  unfoldable pub given : List Rec
  given = fed_to.0 ++ cond last (finish unicode x.profile fed_to.1.1 fed_to.1.0) []

  abbrev pub fed_all : ℕ
  fed_all = x.fed + length chunk

  -- where the token starts that is not handed out: at the finish there is none
  abbrev pub next_begun : ℕ
  next_begun = cond last fed_all fed_to.1.1

  -- ---- the answer, for a list of so many words
  unfoldable pub answer : ℕ → ℕ × ℕ
  answer room =
      cond (x.over || not (running x)) (not_open, 0) (done, 0)
      and_then (cond (known_in_parts x.profile) (done, 0) (unknown_selector, 0)
      and_then (cond (ltb longest fed_all) (too_long, 0) (done, 0)
      and_then (fault_of last (x.fed - length x.pend) bytes
      and_then check_room (room / record_words) (length given))))

  -- ---- the carry: the bytes of this call's tokens begun in earlier chunks, then those not handed out
  -- the end of the former
  abbrev pub early : ℕ
  early = end_before x.fed x.begun given

  unfoldable pub sequence : List ℕ
  sequence = places x.begun (early - x.begun) ++ places next_begun (fed_all - next_begun)

  module _ (carry : List ℕ) where
    -- where the byte of a place before the chunk stands in the carry as lent; whether it is kept there; and the byte of a place
    abbrev pub stood : ℕ → ℕ
    stood i = x.packed + (i - x.begun)

    abbrev pub there : ℕ → Bool
    there i = leb x.fed i || (ltb (stood i) x.kept && ltb (stood i) (length carry))

    abbrev pub byte_of : ℕ → ℕ
    byte_of i = cond (leb x.fed i) (get_or chunk (i - x.fed) 0) (get_or carry (stood i) 0)

    -- up to the first that is lost
    unfoldable pub up_to : List ℕ → List ℕ
    up_to [] = []
    up_to (i ∷ is) = elim (there i) [ true ↦ byte_of i ∷ up_to is | false ↦ [] ]

    -- or has no room
    unfoldable pub keeps : List ℕ
    keeps = take (length carry) (up_to sequence)

    -- ---- the outcome
    abbrev pub accepted : Lexer
    accepted = record {
      profile = x.profile;
      over = last;
      state = cond last idle fed_to.1.0;
      begun = next_begun;
      pend = cond last [] (beyond bytes);
      fed = fed_all;
      from = x.begun;
      until = next_begun;
      chunk_at = x.fed;
      chunk_len = length chunk;
      carry_len = length carry;
      packed = early - x.begun;
      kept = length keeps;
    }

    abbrev pub shut : Lexer
    shut = record {
      profile = x.profile;
      over = true;
      state = x.state;
      begun = x.begun;
      pend = x.pend;
      fed = x.fed;
      from = x.from;
      until = x.until;
      chunk_at = x.chunk_at;
      chunk_len = x.chunk_len;
      carry_len = x.carry_len;
      packed = x.packed;
      kept = x.kept;
    }

    -- a refusal 2, 3 or 7 ends the lexer; another changes nothing
    unfoldable pub next_lexer : ℕ → Lexer
    next_lexer room =
        let n = (answer room).0 in
        cond (eqb n done) accepted (cond (eqb n too_long || (eqb n not_utf8 || eqb n direction_mark)) shut x)

    unfoldable pub next_carry : ℕ → List ℕ
    next_carry room = cond (eqb (answer room).0 done) (over keeps carry) carry

  unfoldable pub next_list : List ℕ → List ℕ
  next_list list = cond (eqb (answer (length list)).0 done) (over (words given) list) list
