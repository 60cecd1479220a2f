-- What is written at the front of a lent list.
-- Assumes nothing.
use Rattle.std.specs.Prelude.{List, ◌++◌, length, drop}

-- `new`, and behind it what stood there
abbrev pub over : {A : Type 0} → List A → List A → List A
over new list = new ++ drop (length new) list
