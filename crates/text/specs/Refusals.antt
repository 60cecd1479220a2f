-- The refusals as code holds them, and the numbers that stand for them.
-- Assumes nothing.
use Rattle.std.specs.Prelude.{Result, Ok, Err, Bool, cond, ℕ}
use Rattle.text.specs.declared.Refusal.{Refusal}
use Rattle.text.specs.declared.Refusal.TheVariants.{UnknownSelector, TooLong, NotUtf8, RoomTooSmall, DirectionMark}
use Rattle.text.specs.Answer.{done, unknown_selector, too_long, not_utf8, room_too_small, direction_mark}

-- a refusal's number, and what comes with it
abbrev pub refused : Refusal → ℕ × ℕ
refused UnknownSelector = (unknown_selector, 0)
refused TooLong = (too_long, 0)
refused (NotUtf8 good) = (not_utf8, good)
refused (RoomTooSmall need) = (room_too_small, need)
refused (DirectionMark at) = (direction_mark, at)

-- what a call says that gives a number
abbrev pub given : Result ℕ Refusal → ℕ × ℕ
given (Ok n) = (done, n)
given (Err r) = refused r

-- what a check says
abbrev pub checked : {A : Type 0} → Result A Refusal → ℕ × ℕ
checked (Ok x) = (done, 0)
checked (Err r) = refused r

-- what a test says: 1 for yes, 0 for no
abbrev pub told : Result Bool Refusal → ℕ × ℕ
told (Ok b) = (done, cond b 1 0)
told (Err r) = refused r
