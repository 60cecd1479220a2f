-- A lexer between two calls.
-- Assumes nothing.
use Rattle.std.specs.Prelude.{ℕ, ◌+◌, Bool, true, false, ◌&&◌, List, [], eqb, leb, length}
use Rattle.characters.specs.Utf8.{width}
use Rattle.characters.specs.Unfinished.{unfinished}
use Rattle.locality.specs.Phases.{Phase, behind_slash, line, inside, into, closing, closed, space, name, emoji_name, spelling, behind_at, behind_dollar, wire, zero_first, figures, pointed, decimals, behind_e, power, quote, quote_closed, suffixed, single}
use Rattle.feeding.specs.Fed.{State, idle, busy, held}

pub record Lexer : Type 0 where
  pub profile : ℕ
  -- the finish, or a refusal 2, 3 or 7, has been
  pub over : Bool
  -- the machine behind the whole characters, and where the token starts that is not handed out
  pub state : State
  pub begun : ℕ
  -- the bytes of an unfinished character; all bytes that were fed
  pub pend : List ℕ
  pub fed : ℕ
  -- of the last accepted call: where its tokens start and end; where its chunk starts, and how long it and the carry were; how many bytes of these tokens
  -- belong into the carry, before those not handed out; and how many bytes are kept there in all
  pub from : ℕ
  pub until : ℕ
  pub chunk_at : ℕ
  pub chunk_len : ℕ
  pub carry_len : ℕ
  pub packed : ℕ
  pub kept : ℕ

abbrev pub started : ℕ → Lexer
started p = record {
  profile = p;
  over = false;
  state = idle;
  begun = 0;
  pend = [];
  fed = 0;
  from = 0;
  until = 0;
  chunk_at = 0;
  chunk_len = 0;
  carry_len = 0;
  packed = 0;
  kept = 0;
}

-- ---- which values are lexers, of all that may be handed in
-- how deep in comments a phase is, and in which base of numbers
abbrev pub depth_of : Phase → ℕ
depth_of behind_slash = 0
depth_of (line k) = 0
depth_of (inside d) = d
depth_of (into d) = d
depth_of closing = 0
depth_of closed = 0
depth_of space = 0
depth_of name = 0
depth_of emoji_name = 0
depth_of (spelling b n) = 0
depth_of behind_at = 0
depth_of behind_dollar = 0
depth_of (wire any) = 0
depth_of zero_first = 0
depth_of (figures base any) = 0
depth_of (pointed base) = 0
depth_of (decimals base) = 0
depth_of (behind_e base) = 0
depth_of (power base any) = 0
depth_of (quote escaped s) = 0
depth_of (quote_closed k) = 0
depth_of (suffixed k) = 0
depth_of (single k) = 0

abbrev pub base_of : Phase → ℕ
base_of behind_slash = 0
base_of (line k) = 0
base_of (inside d) = 0
base_of (into d) = 0
base_of closing = 0
base_of closed = 0
base_of space = 0
base_of name = 0
base_of emoji_name = 0
base_of (spelling b n) = 0
base_of behind_at = 0
base_of behind_dollar = 0
base_of (wire any) = 0
base_of zero_first = 0
base_of (figures base any) = base
base_of (pointed base) = base
base_of (decimals base) = base
base_of (behind_e base) = base
base_of (power base any) = base
base_of (quote escaped s) = 0
base_of (quote_closed k) = 0
base_of (suffixed k) = 0
base_of (single k) = 0

-- no comment is deeper than the bytes eaten, and a base is one of the four
abbrev pub fits : State → Bool
fits idle = true
fits (busy q n m o) = leb (base_of q) 3 && leb (depth_of q) n
fits (held q n m o x) = leb (base_of q) 3 && leb (depth_of q) n

-- the bytes of whole characters that were fed and not handed out
abbrev pub taken : State → ℕ
taken idle = 0
taken (busy q n m o) = n
taken (held q n m o x) = n + width x

unfoldable pub running : Lexer → Bool
running x =
    unfinished x.pend && (fits x.state && eqb (x.begun + (taken x.state + length x.pend)) x.fed)
