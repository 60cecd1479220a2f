-- Where the counted tokens of two texts part, and what `compare` answers.
-- Assumes nothing.
use Rattle.std.specs.Prelude.{◌≡◌, Bool, true, false, cond, ◌&&◌, List, [], ◌∷◌, ℕ, suc, ◌+◌, ◌≤◌, eqb, length, take, drop, get_or}
use Rattle.text.specs.Answer.{done, check_cut}
use Rattle.cutters.specs.Kinds.{eof}
use Rattle.cutters.specs.Records.{Token}
use Rattle.lexer.specs.Promises.{tokens_of}
use Rattle.tokens.specs.Members.{Member, is_counted, members_by}

-- ---- how far two lists of counted tokens agree
unfoldable pub same_bytes : List ℕ → List ℕ → Bool
same_bytes [] [] = true
same_bytes [] (b ∷ t) = false
same_bytes (a ∷ s) [] = false
same_bytes (a ∷ s) (b ∷ t) = eqb a b && same_bytes s t

-- in kind, length, suffix start and bytes
unfoldable pub alike : Member → Member → Bool
alike m m' = eqb m.kind m'.kind && (eqb m.len m'.len && (eqb m.suffix m'.suffix && same_bytes m.bytes m'.bytes))

-- how many agree, one by one from the first on: the length of the longest common beginning
unfoldable pub agree : List Member → List Member → ℕ
agree [] ms = 0
agree (m ∷ l) [] = 0
agree (m ∷ l) (m' ∷ l') = elim (alike m m') [ true ↦ suc (agree l l') | false ↦ 0 ]

-- ---- where they stand
-- a counted token as it is shown: its kind, its place in the text and its length in bytes
pub record Sight : Type 0 where
  pub kind : ℕ
  pub start : ℕ
  pub len : ℕ

-- of tokens that lie one behind the other from a place on, the counted ones
unfoldable pub sights : ℕ → List Token → List Sight
sights at [] = []
sights at (t ∷ ts) =
    elim (is_counted t.kind) [
      | true ↦ record { kind = t.kind; start = at; len = t.len } ∷ sights (at + t.len) ts
      | false ↦ sights (at + t.len) ts
    ]

-- no kind and no length, at the end of the text
abbrev pub end_of : List ℕ → Sight
end_of s = record { kind = eof; start = length s; len = 0 }

-- ---- the answer
abbrev pub same : ℕ
same = 0

abbrev pub different : ℕ
different = 1

abbrev pub old_refused : ℕ
old_refused = 2

abbrev pub new_refused : ℕ
new_refused = 3

-- the verdict, the answer to a text that was refused, how many counted tokens agree, and what stands behind those in each text
pub record Comparison : Type 0 where
  pub verdict : ℕ
  pub refusal : ℕ × ℕ
  pub agreed : ℕ
  pub old : Sight
  pub new : Sight

-- the comparison of two texts that are accepted, which shows two such tokens
abbrev pub showing : ℕ → ℕ → Sight → Sight → Comparison
showing verdict agreed old new = record { verdict = verdict; refusal = (done, 0); agreed = agreed; old = old; new = new }

-- of two texts that are accepted: the same where all of both agree; shown is what stands behind those that agree, or the end. Of any cutter
unfoldable pub parted_by : (List ℕ → List Token) → List ℕ → List ℕ → Comparison
parted_by cutter s s' =
    let m = members_by cutter s in
    let m' = members_by cutter s' in
    let n = agree m m' in
    showing (cond (eqb n (length m) && eqb n (length m')) same different) n
    (get_or (sights 0 (cutter s)) n (end_of s))
    (get_or (sights 0 (cutter s')) n (end_of s'))

abbrev pub nothing : Sight
nothing = record { kind = 0; start = 0; len = 0 }

abbrev pub refused_by : ℕ → ℕ × ℕ → Comparison
refused_by verdict answer = record { verdict = verdict; refusal = answer; agreed = 0; old = nothing; new = nothing }

-- the old text is checked first, and the new one only where the old one is accepted
unfoldable pub compared : ℕ → List ℕ → List ℕ → Comparison
compared profile s s' =
    cond (eqb (check_cut s profile).0 done)
    (cond (eqb (check_cut s' profile).0 done) (parted_by (tokens_of profile) s s') (refused_by new_refused (check_cut s' profile)))
    (refused_by old_refused (check_cut s profile))

-- the promise: every number of the answer
pub record Shown (v : Sight) (kind start len : ℕ) : Type 0 where
  pub kind_is : kind ≡ v.kind
  pub start_is : start ≡ v.start
  pub len_is : len ≡ v.len

pub record Compared (c : Comparison) (verdict number also agreed kind start len kind' start' len' : ℕ) : Type 0 where
  pub verdict_is : verdict ≡ c.verdict
  pub number_is : number ≡ c.refusal.0
  pub also_is : also ≡ c.refusal.1
  pub agreed_is : agreed ≡ c.agreed
  pub old_is : Shown c.old kind start len
  pub new_is : Shown c.new kind' start' len'

-- ---- for the theorem on what is shown: each is a counted token's own kind, length and bytes, at least one, where they stand in the text
unfoldable pub shows : List ℕ → List Sight → List Member → Type 0
shows s [] [] = Unit {0}
shows s [] (m ∷ ms) = ⊥
shows s (v ∷ vs) [] = ⊥
shows s (v ∷ vs) (m ∷ ms) = (v.kind ≡ m.kind) × (v.len ≡ m.len) × (1 ≤ v.len) × (take v.len (drop v.start s) ≡ m.bytes) × shows s vs ms
