-- What the functions behind `compare` ask and answer.
-- Assumes nothing.
use Rattle.std.specs.Prelude.{◌≡◌, List, [], ◌∷◌, ℕ, ◌-◌, ◌≤◌, ◌<◌, length, take, drop}
use Rattle.cutters.specs.Kinds.{eof}
use Rattle.cutters.specs.Records.{Token}
use Rattle.tokens.specs.Members.{Member, members_by}
use Rattle.same.specs.Compare.{Sight, sights}

-- a token that was found in a text, by its places
pub record Within (s : List ℕ) (start suffixAt end : ℕ) : Type 0 where
  pub before_suffix : start ≤ suffixAt
  pub before_end : start ≤ end
  pub within : end ≤ length s

abbrev pub member_at : List ℕ → ℕ → ℕ → ℕ → ℕ → Member
member_at s kind start suffixAt end = record { kind = kind; len = end - start; suffix = suffixAt - start; bytes = take (end - start) (drop start s) }

abbrev pub sight_at : ℕ → ℕ → ℕ → Sight
sight_at kind start end = record { kind = kind; start = start; len = end - start }

-- what is counted of a text from a place on
abbrev pub members_from : (List ℕ → List Token) → List ℕ → ℕ → List Member
members_from cutter s at = members_by cutter (drop at s)

abbrev pub sights_from : (List ℕ → List Token) → List ℕ → ℕ → List Sight
sights_from cutter s at = sights at (cutter (drop at s))

-- the first counted token from a place on; where there is none, it is empty and stands at the end
pub record Ahead (cutter : List ℕ → List Token) (s : List ℕ) (at kind start suffixAt end : ℕ) : Type 0 where
  pub place : Within s start suffixAt end
  pub after : at ≤ start
  pub none : (start ≡ end → (kind ≡ eof) × (start ≡ length s) × (suffixAt ≡ start) × (members_from cutter s at ≡ []) × (sights_from cutter s at ≡ []))
  pub some : (start < end → (members_from cutter s at ≡ member_at s kind start suffixAt end ∷ members_from cutter s end) × (sights_from cutter s at ≡ sight_at kind start end ∷ sights_from cutter s end))
