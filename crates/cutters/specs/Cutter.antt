-- A cutter on bytes, whatever its rules: it says of a text which token stands first.
-- Assumes nothing.
use Rattle.std.specs.Prelude.{ℕ, suc, ◌-◌, ◌≤◌, List, length, drop}
use Rattle.lists.specs.Cut.{cut}
use Rattle.cutters.specs.Records.{Token}

-- the first token of a ∷ s, which takes at least one byte, and no more than there are
pub record Cutter : Type 0 where
  pub next : ℕ → List ℕ → Token
  pub some : (a : ℕ) (s : List ℕ) → 1 ≤ (next a s).len
  pub within : (a : ℕ) (s : List ℕ) → (next a s).len ≤ suc (length s)

-- all tokens of a text
unfoldable pub cut_bytes : Cutter → List ℕ → List Token
cut_bytes k = cut (λ a s. (k.next a s, drop ((k.next a s).len - 1) s))
