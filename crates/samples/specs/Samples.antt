-- The starred samples of the scope, its example of a key, one of where tokens start, and those of misplaced underscores, in one table: a call, what it answers,
-- and what it leaves in the memory that it was lent.
-- Assumes nothing.
use Rattle.std.specs.Prelude.{ℕ, List, [], ◌∷◌, length}
use Rattle.listing.specs.Promises.{answer_of, listed}
use Rattle.unescape.specs.Promises as bodies
use Rattle.renewal.specs.Promises as keys

-- a call: a text, a profile and the list that is lent; a body, a mode and the list; or a text, a profile and the bytes for its key
pub data Call : Type 0 where
  tokenize : (text : List ℕ) (profile : ℕ) (list : List ℕ) → Call
  unescape : (body : List ℕ) (mode : ℕ) (list : List ℕ) → Call
  renewal_key : (text : List ℕ) (profile : ℕ) (key : List ℕ) → Call

-- the number and what is also returned, and the list behind the call
abbrev pub does : Call → (ℕ × ℕ) × List ℕ
does (tokenize text profile list) = (answer_of text profile (length list), listed text profile list)
does (unescape body mode list) = (bodies.answer_of body mode (length list), bodies.listed body mode list)
does (renewal_key text profile key) = (keys.answer_of text profile (length key), keys.keyed text profile key)

pub record Sample : Type 0 where
  pub call : Call
  pub answer : ℕ × ℕ
  pub after : List ℕ

-- a text under profile 0 with room for two records, which is one token: its kind, length and suffix start, and where its first misplaced underscore stands
abbrev one : List ℕ → ℕ → ℕ → ℕ → ℕ → Sample
one text kind len suffix misplaced =
    record {
      call = tokenize text 0 (7 ∷ 7 ∷ 7 ∷ 7 ∷ 7 ∷ 7 ∷ 7 ∷ 7 ∷ 7 ∷ 7 ∷ []);
      answer = (0, 1);
      after = kind ∷ len ∷ suffix ∷ 0 ∷ misplaced ∷ 7 ∷ 7 ∷ 7 ∷ 7 ∷ 7 ∷ [];
    }

unfoldable pub samples : List Sample
samples =
    -- the key of x=0b1;//t
    record {
      call = renewal_key (0x78 ∷ 0x3D ∷ 0x30 ∷ 0x62 ∷ 0x31 ∷ 0x3B ∷ 0x2F ∷ 0x2F ∷ 0x74 ∷ []) 0 (7 ∷ 7 ∷ 7 ∷ 7 ∷ 7 ∷ 7 ∷ 7 ∷ 7 ∷ 7 ∷ 7 ∷ 7 ∷ 7 ∷ 7 ∷ 7 ∷ 7 ∷ 7 ∷ 7 ∷ 7 ∷ 7 ∷ 7 ∷ 7 ∷ 7 ∷ 7 ∷ []);
      answer = (0, 22);
      after = 0x05 ∷ 0x01 ∷ 0x00 ∷ 0x00 ∷ 0x00 ∷ 0x81 ∷ 0x78 ∷ 0x19 ∷ 0x28 ∷ 0x03 ∷ 0x00 ∷ 0x00 ∷ 0x00 ∷ 0x03 ∷ 0x00 ∷ 0x00 ∷ 0x00 ∷ 0x83 ∷ 0x30 ∷ 0x62 ∷ 0x31 ∷ 0x0A ∷ 7 ∷ [];
    } ∷
    -- the empty text
    record { call = tokenize [] 0 (7 ∷ 7 ∷ []); answer = (0, 0); after = 7 ∷ 7 ∷ [] } ∷
    record { call = renewal_key [] 0 (7 ∷ 7 ∷ []); answer = (0, 0); after = 7 ∷ 7 ∷ [] } ∷
    -- ""
    one (0x22 ∷ 0x22 ∷ []) 59 2 2 0 ∷
    -- "0 newline "
    one (0x22 ∷ 0x30 ∷ 0x0A ∷ 0x22 ∷ []) 57 4 4 0 ∷
    -- "0 newline
    one (0x22 ∷ 0x30 ∷ 0x0A ∷ []) 58 3 3 0 ∷
    -- $_
    one (0x24 ∷ 0x5F ∷ []) 24 2 0 1 ∷
    -- 0b102
    one (0x30 ∷ 0x62 ∷ 0x31 ∷ 0x30 ∷ 0x32 ∷ []) 40 5 5 0 ∷
    -- 1e
    one (0x31 ∷ 0x65 ∷ []) 53 2 2 0 ∷
    -- 1.e5
    one (0x31 ∷ 0x2E ∷ 0x65 ∷ 0x35 ∷ []) 52 4 2 0 ∷
    -- 0B1
    one (0x30 ∷ 0x42 ∷ 0x31 ∷ []) 44 3 1 0 ∷
    -- /*/**/
    one (0x2F ∷ 0x2A ∷ 0x2F ∷ 0x2A ∷ 0x2A ∷ 0x2F ∷ []) 3 6 0 0 ∷
    -- pragma
    one (0x70 ∷ 0x72 ∷ 0x61 ∷ 0x67 ∷ 0x6D ∷ 0x61 ∷ []) 5 6 0 0 ∷
    -- pragma under profile 1
    record { call = tokenize (0x70 ∷ 0x72 ∷ 0x61 ∷ 0x67 ∷ 0x6D ∷ 0x61 ∷ []) 1 (7 ∷ 7 ∷ 7 ∷ 7 ∷ 7 ∷ []); answer = (0, 1); after = 8 ∷ 6 ∷ 0 ∷ 0 ∷ 0 ∷ [] } ∷
    -- \u{1234567} in Byte mode: Overlong
    record {
      call = unescape (0x5C ∷ 0x75 ∷ 0x7B ∷ 0x31 ∷ 0x32 ∷ 0x33 ∷ 0x34 ∷ 0x35 ∷ 0x36 ∷ 0x37 ∷ 0x7D ∷ []) 2 (7 ∷ 7 ∷ 7 ∷ []);
      answer = (0, 1);
      after = 0 ∷ 11 ∷ 1114128 ∷ [];
    } ∷
    -- \u{D800} in Byte mode: UnicodeEscapeInByte
    record {
      call = unescape (0x5C ∷ 0x75 ∷ 0x7B ∷ 0x44 ∷ 0x38 ∷ 0x30 ∷ 0x30 ∷ 0x7D ∷ []) 2 (7 ∷ 7 ∷ 7 ∷ []);
      answer = (0, 1);
      after = 0 ∷ 8 ∷ 1114131 ∷ [];
    } ∷
    -- the lone byte FF
    record { call = tokenize (0xFF ∷ []) 0 (7 ∷ 7 ∷ 7 ∷ 7 ∷ 7 ∷ []); answer = (3, 0); after = 7 ∷ 7 ∷ 7 ∷ 7 ∷ 7 ∷ [] } ∷
    -- ; with room for no record
    record { call = tokenize (0x3B ∷ []) 0 (7 ∷ 7 ∷ 7 ∷ 7 ∷ []); answer = (4, 1); after = 7 ∷ 7 ∷ 7 ∷ 7 ∷ [] } ∷
    -- 12;1 : the tokens start at 0, 2 and 3
    record {
      call = tokenize (0x31 ∷ 0x32 ∷ 0x3B ∷ 0x31 ∷ []) 0 (7 ∷ 7 ∷ 7 ∷ 7 ∷ 7 ∷ 7 ∷ 7 ∷ 7 ∷ 7 ∷ 7 ∷ 7 ∷ 7 ∷ 7 ∷ 7 ∷ 7 ∷ 7 ∷ []);
      answer = (0, 3);
      after = 44 ∷ 2 ∷ 2 ∷ 0 ∷ 0 ∷ 10 ∷ 1 ∷ 0 ∷ 2 ∷ 0 ∷ 44 ∷ 1 ∷ 1 ∷ 3 ∷ 0 ∷ 7 ∷ [];
    } ∷
    -- 1_
    one (0x31 ∷ 0x5F ∷ []) 44 2 2 1 ∷
    -- 1_0
    one (0x31 ∷ 0x5F ∷ 0x30 ∷ []) 44 3 3 0 ∷
    -- $1_0
    one (0x24 ∷ 0x31 ∷ 0x5F ∷ 0x30 ∷ []) 6 4 0 0 ∷
    -- 1._5
    one (0x31 ∷ 0x2E ∷ 0x5F ∷ 0x35 ∷ []) 52 4 2 0 ∷
    -- 1__0
    one (0x31 ∷ 0x5F ∷ 0x5F ∷ 0x30 ∷ []) 44 4 4 1 ∷
    -- 0b_1
    one (0x30 ∷ 0x62 ∷ 0x5F ∷ 0x31 ∷ []) 40 4 4 2 ∷
    -- 0x_
    one (0x30 ∷ 0x78 ∷ 0x5F ∷ []) 47 3 3 2 ∷
    -- 1_e5
    one (0x31 ∷ 0x5F ∷ 0x65 ∷ 0x35 ∷ []) 52 4 4 1 ∷
    -- 1e_5
    one (0x31 ∷ 0x65 ∷ 0x5F ∷ 0x35 ∷ []) 52 4 4 2 ∷
    -- 0_1
    one (0x30 ∷ 0x5F ∷ 0x31 ∷ []) 44 3 3 0 ∷
    -- 1_.5
    one (0x31 ∷ 0x5F ∷ 0x2E ∷ 0x35 ∷ []) 52 4 4 1 ∷
    -- 1.5_
    one (0x31 ∷ 0x2E ∷ 0x35 ∷ 0x5F ∷ []) 52 4 4 3 ∷
    -- 0_
    one (0x30 ∷ 0x5F ∷ []) 44 2 2 1 ∷
    -- 0b1_2
    one (0x30 ∷ 0x62 ∷ 0x31 ∷ 0x5F ∷ 0x32 ∷ []) 40 5 5 0 ∷
    -- 0x1.5e_3
    one (0x30 ∷ 0x78 ∷ 0x31 ∷ 0x2E ∷ 0x35 ∷ 0x65 ∷ 0x5F ∷ 0x33 ∷ []) 54 8 8 6 ∷
    -- 0x1.5_f
    one (0x30 ∷ 0x78 ∷ 0x31 ∷ 0x2E ∷ 0x35 ∷ 0x5F ∷ 0x66 ∷ []) 54 7 6 5 ∷
    -- $1_
    one (0x24 ∷ 0x31 ∷ 0x5F ∷ []) 6 3 0 2 ∷
    -- 1.e_5
    one (0x31 ∷ 0x2E ∷ 0x65 ∷ 0x5F ∷ 0x35 ∷ []) 52 5 2 0 ∷
    -- 1_s : the unit is a token of its own, and the underscore before it is the number's
    record {
      call = tokenize (0x31 ∷ 0x5F ∷ 0x73 ∷ []) 0 (7 ∷ 7 ∷ 7 ∷ 7 ∷ 7 ∷ 7 ∷ 7 ∷ 7 ∷ 7 ∷ 7 ∷ []);
      answer = (0, 2);
      after = 44 ∷ 2 ∷ 2 ∷ 0 ∷ 1 ∷ 5 ∷ 1 ∷ 0 ∷ 2 ∷ 0 ∷ [];
    } ∷ []
