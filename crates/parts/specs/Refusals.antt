-- The refusals of the code, and the numbers that stand for them.
-- Assumes nothing.
use Rattle.std.specs.Prelude.{ℕ, ◌-◌, ◌≤◌, ◌<◌, ◌≡◌, Result, Ok, Err}
use Rattle.text.specs.Answer.{done}
use Rattle.text.specs.Refusals.{refused}
use Rattle.feeding.specs.Call.{not_open}
use Rattle.feeding.specs.Question.{bad_span, not_kept}
use Rattle.parts.specs.Promises.{number_of}
use Rattle.parts.specs.declared.Lexer.{Lexer}
use Rattle.parts.specs.declared.refusals.FeedRefusal.{FeedRefusal}
use Rattle.parts.specs.declared.refusals.FeedRefusal.TheVariants.{NotOpen, Text}
use Rattle.parts.specs.declared.question.TextRefusal.{TextRefusal}
use Rattle.parts.specs.declared.question.TextRefusal.TheVariants.{BadSpan, NotKept}
use Rattle.parts.specs.declared.question.Spot.{Spot}
use Rattle.parts.specs.declared.question.Spot.TheVariants.{Chunk, Carry}

-- a refusal's number, and what comes with it
abbrev pub feed_refused : FeedRefusal → ℕ × ℕ
feed_refused NotOpen = (not_open, 0)
feed_refused (Text r) = refused r

abbrev pub text_refused : TextRefusal → ℕ
text_refused BadSpan = bad_span
text_refused NotKept = not_kept

-- where the text of a span lies: in the chunk or in the carry, from where on; or why it is not told
abbrev pub Found : Lexer → ℕ → ℕ → ℕ → ℕ → Result Spot TextRefusal → Type 0
Found x chunk_len carry_len start len (Ok (Chunk at)) =
    (number_of x chunk_len carry_len start len ≡ done) × (x.last.place ≤ start) × (at ≡ start - x.last.place)
Found x chunk_len carry_len start len (Ok (Carry at)) =
    (number_of x chunk_len carry_len start len ≡ done) × (start < x.last.place) × (at ≡ start - x.last.from)
Found x chunk_len carry_len start len (Err r) = text_refused r ≡ number_of x chunk_len carry_len start len
