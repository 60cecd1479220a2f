-- The fifth word of a record, as the characters of its token come: what is to be known of those that came, to say it wherever the token ends.
-- Assumes nothing.
use Rattle.std.specs.Prelude.{ℕ, Bool, true, false, not, cond, ◌&&◌, ◌||◌, eqb}
use Rattle.cutters.specs.Kinds.{is_number, is_wire}
use Rattle.cutters.specs.Digits.{digit_by}
use Rattle.cutters.specs.Steps.{first_of}

pub record Tracker : Type 0 where
  -- the place of the first misplaced underscore, 0 for none so far; that of one behind a digit, which is misplaced unless a digit comes next, 0 for none
  pub found : ℕ
  pub wait : ℕ
  -- the last character; whether the digits are hexadecimal; whether the suffix has begun
  pub prev : ℕ
  pub hex : Bool
  pub shut : Bool

-- behind the first character of a token
abbrev pub fresh : ℕ → Tracker
fresh c = record { found = 0; wait = 0; prev = c; hex = false; shut = false }

-- at c, an underscore has waited for a digit in vain; c is one behind no digit; c is the x of a first 0x
abbrev pub late : Tracker → ℕ → Bool
late o c = not (eqb o.wait 0) && not (digit_by o.hex c)

abbrev pub bare : Tracker → ℕ → Bool
bare o c = eqb c 0x5F && not (digit_by o.hex o.prev)

abbrev pub is_x : Tracker → ℕ → ℕ → Bool
is_x o n c = eqb n 1 && (eqb o.prev 0x30 && eqb c 0x78)

-- behind one character more, c, at place n of the token; true: the suffix starts at it, and from there on nothing counts
unfoldable pub seen : Tracker → Bool → ℕ → ℕ → Tracker
seen o suffix n c =
    cond (o.shut || suffix) (record { found = first_of o.found o.wait; wait = 0; prev = c; hex = o.hex; shut = true })
    (record {
      found = first_of o.found (cond (late o c) o.wait (cond (bare o c) n 0));
      wait = cond (eqb c 0x5F && not (bare o c)) n 0;
      prev = c;
      hex = (o.hex || is_x o n c) && not (eqb c 0x2E);
      shut = false;
    })

-- the word of a token that ends here, by its kind
abbrev pub word_by : Tracker → ℕ → ℕ
word_by o kind = cond (is_number kind || is_wire kind) (first_of o.found o.wait) 0
