-- The record rules: which members a key may hold, and which a text can have.
-- Assumes nothing.
use Rattle.std.specs.Prelude.{◌≡◌, true, cond, not, List, [], ◌∷◌, ℕ, ◌≤◌, eqb, length}
use Rattle.text.specs.Answer.{longest}
use Rattle.cutters.specs.Kinds.{at_sign, slash_mark, marks}
use Rattle.cutters.specs.Records.{Token}
use Rattle.cutters.specs.Cutter.{Cutter, cut_bytes}
use Rattle.tokens.specs.Members.{Member, is_counted, member_of}
use Rattle.renewal.specs.Key.{no_body, body_length}

-- what a key may hold: a kind alone; a length and a text of that length; or a suffix start between 1 and the length too
pub data Allowed (m : Member) : Type 0 where
  empty : body_length m.kind ≡ 0 → m.len ≡ 0 → m.suffix ≡ 0 → m.bytes ≡ [] → Allowed m
  plain : body_length m.kind ≡ 4 → 1 ≤ m.len → m.len ≤ longest → m.suffix ≡ 0 → length m.bytes ≡ m.len → Allowed m
  literal : body_length m.kind ≡ 8 → 1 ≤ m.suffix → m.suffix ≤ m.len → m.len ≤ longest → length m.bytes ≡ m.len → Allowed m

-- the byte that a list of marks has for a kind
unfoldable pub byte_in : List (ℕ × ℕ) → ℕ → List ℕ
byte_in [] k = []
byte_in (m ∷ ms) k = cond (eqb k m.1) (m.0 ∷ []) (byte_in ms k)

-- a kind whose body is empty fixes its token's bytes: the marks, @ and /
unfoldable pub own_bytes : ℕ → List ℕ
own_bytes = byte_in ((0x40, at_sign) ∷ (0x2F, slash_mark) ∷ marks)

-- what is true of every member of a text that is not too long: what the key does not hold of it, its kind fixes
pub data Ruled (m : Member) : Type 0 where
  mark : body_length m.kind ≡ 0 → m.len ≡ length (own_bytes m.kind) → m.suffix ≡ 0 → m.bytes ≡ own_bytes m.kind → Ruled m
  stored : (body_length m.kind ≡ 0 → ⊥) → Allowed m → Ruled m

-- ---- what the key asks of a function that gives the tokens of any text from its bytes: it cuts as some cutter does; the kind of a token stands
-- in keys exactly where it is counted; and then, in a text that is not too long, the token obeys the rules
pub record Keyable (tokens : List ℕ → List Token) : Type 0 where
  pub cutter : Cutter
  pub cuts : (s : List ℕ) → tokens s ≡ cut_bytes cutter s
  pub known : (a : ℕ) (s : List ℕ) → eqb (body_length (cutter.next a s).kind) no_body ≡ not (is_counted (cutter.next a s).kind)
  pub ruled : (a : ℕ) (s : List ℕ) → length (a ∷ s) ≤ longest → is_counted (cutter.next a s).kind ≡ true → Ruled (member_of (a ∷ s) (cutter.next a s))
