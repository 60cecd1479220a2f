-- What each call answers and leaves, for every value that is handed in as the lexer.
-- Assumes nothing.
use Rattle.std.specs.Prelude.{ℕ, ◌+◌, ◌-◌, ◌≡◌, Bool, cond, ◌||◌, List, eqb, leb, length}
use Rattle.text.specs.Answer.{Answered, done, too_long, not_utf8, direction_mark}
use Rattle.feeding.specs.Lexer.{started}
use Rattle.feeding.specs.Call.{answer, accepted, next_carry, next_list}
use Rattle.feeding.specs.Question as Q
use Rattle.parts.specs.Coded.{meaning, packed, ended_lexer}
use Rattle.parts.specs.declared.Lexer.{Lexer}

-- the value that is handed back: after an accepted call the integers of the lexer behind it; after a refusal 2, 3 or 7 the same value, ended; else the same
unfoldable pub next_of : Lexer → Bool → List ℕ → List ℕ → ℕ → Lexer
next_of x last chunk carry room =
    let n = (answer (meaning x) last chunk room).0 in
    cond (eqb n done) (packed (accepted (meaning x) last chunk carry))
    (cond (eqb n too_long || (eqb n not_utf8 || eqb n direction_mark)) (ended_lexer x) x)

-- a chunk fed, or the finish: the answer, the lexer, every byte of the carry and every word of the list
pub record Called (x : Lexer) (last : Bool) (chunk carry list : List ℕ) (number also : ℕ) (x' : Lexer) (carry' list' : List ℕ) : Type 0 where
  pub answered : Answered (answer (meaning x) last chunk (length list)) number also
  pub lexer : x' ≡ next_of x last chunk carry (length list)
  pub kept : carry' ≡ next_carry (meaning x) last chunk carry (length list)
  pub words : list' ≡ next_list (meaning x) last chunk list

abbrev pub start_of : ℕ → Lexer
start_of p = packed (started p)

-- ---- the text question
-- the number
abbrev pub number_of : Lexer → ℕ → ℕ → ℕ → ℕ → ℕ
number_of x chunk_len carry_len start len = Q.number_for (meaning x) chunk_len carry_len start len

-- which slice holds the text: 1 is the chunk, 2 the carry, 0 none; and where in it
abbrev pub which_of : Lexer → ℕ → ℕ → ℕ → ℕ → ℕ
which_of x chunk_len carry_len start len =
    cond (eqb (number_of x chunk_len carry_len start len) done) (cond (leb x.last.place start) 1 2) 0

abbrev pub at_of : Lexer → ℕ → ℕ → ℕ → ℕ → ℕ
at_of x chunk_len carry_len start len =
    cond (eqb (number_of x chunk_len carry_len start len) done) (cond (leb x.last.place start) (start - x.last.place) (start - x.last.from)) 0

abbrev pub len_of : Lexer → ℕ → ℕ → ℕ → ℕ → ℕ
len_of x chunk_len carry_len start len = cond (eqb (number_of x chunk_len carry_len start len) done) len 0

-- for a caller that takes no part of a slice
pub record Placed (x : Lexer) (chunk_len carry_len start len number which at many : ℕ) : Type 0 where
  pub number_is : number ≡ number_of x chunk_len carry_len start len
  pub which_is : which ≡ which_of x chunk_len carry_len start len
  pub at_is : at ≡ at_of x chunk_len carry_len start len
  pub many_is : many ≡ len_of x chunk_len carry_len start len

-- the part: where it lies, as a block and how far into it, and its bytes. An empty part is one of the chunk
abbrev pub part_place : ℕ → ℕ × ℕ → ℕ × ℕ → ℕ → ℕ × ℕ
part_place which p q at = cond (eqb which 2) (q.0, at + q.1) (p.0, at + p.1)

pub record Texted (x : Lexer) (p q : ℕ × ℕ) (chunk carry : List ℕ) (start len : ℕ) (place : ℕ × ℕ) (part : List ℕ) : Type 0 where
  pub place_is : place ≡ part_place (which_of x (length chunk) (length carry) start len) p q (at_of x (length chunk) (length carry) start len)
  pub part_is : part ≡ Q.text_of (meaning x) chunk carry start len
