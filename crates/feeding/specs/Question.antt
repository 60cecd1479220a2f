-- The text question: the text of a span of the whole text that lies in the tokens of the last accepted call, by the chunk of that call and the carry as that
-- call left it. Every value has an answer: what is read lies in what is lent.
-- Assumes nothing.
use Rattle.std.specs.Prelude.{ℕ, ◌+◌, ◌-◌, min, Bool, not, cond, ◌&&◌, List, [], eqb, leb, ltb, length, take, drop}
use Rattle.text.specs.Answer.{done}
use Rattle.feeding.specs.Lexer.{Lexer}

abbrev pub bad_span : ℕ
bad_span = 1

abbrev pub not_kept : ℕ
not_kept = 6

-- by the lengths of the chunk and the carry that are lent
module _ (x : Lexer) (chunk_len carry_len start len : ℕ) where
  -- the span is not empty, lies inside the tokens and not past the chunk, and what is lent is as long as it was
  abbrev pub asked : Bool
  asked =
      not (eqb len 0)
      && ((leb x.from start && (leb (start + len) x.until && leb (start + len) (x.chunk_at + x.chunk_len)))
      && (eqb chunk_len x.chunk_len && eqb carry_len x.carry_len))

  -- how many bytes are kept for these tokens
  abbrev pub kept_of : ℕ
  kept_of = min x.packed (min x.kept x.carry_len)

  abbrev pub number_for : ℕ
  number_for =
      cond (not asked) bad_span
      (cond (ltb start x.chunk_at && ltb (x.from + kept_of) (start + len)) not_kept
      done)

module _ (x : Lexer) (chunk carry : List ℕ) (start len : ℕ) where
  unfoldable pub number : ℕ
  number = number_for x (length chunk) (length carry) start len

  unfoldable pub text_of : List ℕ
  text_of =
      cond (eqb number done)
      (cond (leb x.chunk_at start) (take len (drop (start - x.chunk_at) chunk)) (take len (drop (start - x.from) carry)))
      []
