-- What the functions behind `renewal_key` ask and answer.
-- Assumes nothing.
use Rattle.std.specs.Prelude.{◌≡◌, Bool, true, cond, Option, Some, None, List, [], ◌∷◌, ◌++◌, ℕ, zero, suc, ◌+◌, ◌*◌, ◌/◌, ◌≤◌, eqb, length, take, drop, get_or}
use Rattle.std.proofs.lemmas.List.Edits.{sets}
use Rattle.lists.specs.Steps.{values_from}
use Rattle.text.specs.Answer.{longest}
use Rattle.text.specs.Steps.{Stored}
use Rattle.cutters.specs.Records.{Token, total, record_words}
use Rattle.tokens.specs.Members.{Member}
use Rattle.renewal.specs.Key.{no_body, body_length, encode, key_by}

-- the constant table: the body lengths of the kinds 0 to 61
unfoldable pub bodies : List ℕ
bodies = values_from body_length 0 62

-- the body length of a kind that stands in the key
abbrev pub body_at : ℕ → Option ℕ
body_at kind = cond (eqb (body_length kind) no_body) None (Some (body_length kind))

-- the member of a kind, a suffix start and its bytes
abbrev pub member : ℕ → ℕ → List ℕ → Member
member kind suffix text = record { kind = kind; len = length text; suffix = suffix; bytes = text }

-- what a member adds to the key, none where its kind stands in no key
unfoldable pub entry : Member → List ℕ
entry m = cond (eqb (body_length m.kind) no_body) [] (encode m)

-- how many bytes that is of a kind that stands in the key, by the lengths of its body and of its text
abbrev pub size_by : ℕ → ℕ → ℕ
size_by body n = cond (eqb body 0) 1 (1 + body + (n + (n + 15) / 16))

-- a body of that length can be written at place k
pub record BodyFits (body k : ℕ) (key : List ℕ) : Type 0 where
  pub room : k + body ≤ length key
  pub eight : ((body ≡ 4 → ⊥) → body ≡ 8)

-- a record may be written at place k: its kind stands in the key, with a body of that length
pub record Writable (body k kind suffix : ℕ) (text key : List ℕ) : Type 0 where
  pub body_is : body ≡ body_length kind
  pub stands : (body ≡ no_body → ⊥)
  pub short : length text ≤ longest
  pub room : k + length (encode (member kind suffix text)) ≤ length key

-- a member may be entered at place k
pub record Ready (table : List ℕ) (write : Bool) (k kind suffix : ℕ) (text key : List ℕ) : Type 0 where
  pub table_is : table ≡ bodies
  pub short : length text ≤ longest
  pub low : k ≤ 11 * longest
  pub room : (write ≡ true → k + length (entry (member kind suffix text)) ≤ length key)

-- ---- a run of tokens
-- those that stand in a list of words from record i on, so many
unfoldable pub toks : List ℕ → ℕ → ℕ → List Token
toks list i zero = []
toks list i (suc n) = record { kind = get_or list (record_words * i) 0; len = get_or list (record_words * i + 1) 0; suffix = get_or list (record_words * i + 2) 0 } ∷ toks list (suc i) n

-- what the tokens at the front of a text add to the key
unfoldable pub entries : List ℕ → List Token → List ℕ
entries s [] = []
entries s (t ∷ ts) = entry (member t.kind t.suffix (take t.len s)) ++ entries (drop t.len s) ts

-- the tokens that a list holds, of a text from a place on, may be entered at place k
pub record RunReady (table : List ℕ) (write : Bool) (k : ℕ) (s : List ℕ) (from : ℕ) (list : List ℕ) (count : ℕ) (key : List ℕ) : Type 0 where
  pub table_is : table ≡ bodies
  pub short : length s ≤ longest
  pub words : record_words * count ≤ length list
  pub within : from + total (toks list 0 count) ≤ length s
  pub low : k + length (entries (drop from s) (toks list 0 count)) ≤ 11 * longest
  pub room : (write ≡ true → k + length (entries (drop from s) (toks list 0 count)) ≤ length key)

-- a walk over the tokens, which sizes the key, and writes it where that is asked
pub record Walked (cutter : List ℕ → List Token) (s : List ℕ) (write : Bool) (key : List ℕ) (n : ℕ) (key' : List ℕ) : Type 0 where
  pub few : n ≤ 11 * length s
  pub size : n ≡ length (key_by cutter s)
  pub key_is : key' ≡ cond write (sets key 0 (key_by cutter s)) key

-- the answer for a text that passed the checks, and the key
abbrev pub StoredKey : (List ℕ → List Token) → List ℕ → List ℕ → ℕ → ℕ → List ℕ → Type 0
StoredKey cutter s key number also key' = Stored (length key) (length (key_by cutter s)) (key_by cutter s) key number also key'
