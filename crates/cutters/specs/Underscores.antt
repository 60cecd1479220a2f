-- MISPLACED UNDERSCORES: the fifth word of a record. A run is digits and underscores side by side, as one digit reader takes them. A number's integer run
-- starts at its first digit, or after 0b, 0o or 0x; a run may stand behind its point, and one behind its e and the sign. A hardware identifier and a Dollar have
-- one, behind the $. An underscore is misplaced unless both its neighbours within the run are digits that the reader takes. Before a run stands nothing, a b, o
-- or x, a point, an e, a sign or $, and behind it what ended it: none is a digit that the reader takes, and no underscore stands outside of a run. So it is enough
-- to look at each underscore and at the bytes on both sides of it.
-- Assumes nothing.
use Rattle.std.specs.Prelude.{Bool, not, cond, ◌&&◌, List, [], ℕ, zero, suc, eqb, length, take, get_or}
use Rattle.cutters.specs.Digits.{digit_by}
use Rattle.cutters.specs.Kinds.{is_wire, is_number}

-- the byte before a place
abbrev pub before : List ℕ → ℕ → ℕ
before s zero = 0
before s (suc i) = get_or s i 0

-- an underscore stands at a place, and not both its neighbours are digits
abbrev pub misplaced : (ℕ → Bool) → List ℕ → ℕ → Bool
misplaced digit s i = eqb (get_or s i 0) 0x5F && not (digit (before s i) && digit (get_or s (suc i) 0))

-- where the first misplaced one stands, of n bytes of s from a place on; 0 for none. Behind a point the digits are decimal
unfoldable pub misplaced_in : Bool → List ℕ → ℕ → ℕ → ℕ
misplaced_in hex s at zero = 0
misplaced_in hex s at (suc n) =
    cond (misplaced (digit_by hex) s at) at (misplaced_in (hex && not (eqb (get_or s at 0) 0x2E)) s (suc at) n)

-- ---- of a token, by its kind, its suffix start and its own bytes
-- the bytes with its runs: of a number those before its suffix, of a hardware identifier or a Dollar all, of all else none
abbrev pub read_bytes : ℕ → ℕ → List ℕ → List ℕ
read_bytes kind suffix b =
    cond (is_number kind) (take suffix b)
    (cond (is_wire kind) b
    [])

-- they begin with 0x, so that the digits are hexadecimal
abbrev pub hex_first : List ℕ → Bool
hex_first b = eqb (get_or b 0 0) 0x30 && eqb (get_or b 1 0) 0x78

-- where its first misplaced underscore stands in it; 0 for none
unfoldable pub misplaced_of : ℕ → ℕ → List ℕ → ℕ
misplaced_of kind suffix b =
    let r = read_bytes kind suffix b in
    misplaced_in (hex_first r) r 0 (length r)
