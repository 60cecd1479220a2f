-- What the newline clause speaks of: a run of tokens that do not count, and a text with one newline in its place; and of what characters a changed text
-- is made.
-- Assumes nothing.
use Rattle.std.specs.Prelude.{ℕ, ◌+◌, ◌≤◌, ◌≡◌, Bool, true, not, List, ◌∷◌, ◌++◌, length, take, drop}
use Rattle.lists.specs.All.{all}
use Rattle.characters.specs.Utf8.{chars, WellFormed}
use Rattle.cutters.specs.Records.{Token, total}
use Rattle.tokens.specs.Members.{is_counted}

-- no token counts
abbrev pub none_count : List Token → Bool
none_count ts = all (λ t. not (is_counted t.kind)) ts

-- an unbroken run of one or more tokens that do not count, by a cutter on bytes, stands in s, from one place to another; tokens before and behind it may be of any kind
pub record Run (cutter : List ℕ → List Token) (s : List ℕ) (from to : ℕ) : Type 0 where
  pub before : List Token
  pub run : List Token
  pub behind : List Token
  pub is : cutter s ≡ before ++ (run ++ behind)
  pub some : 1 ≤ length run
  pub uncounted : none_count run ≡ true
  pub starts : from ≡ total before
  pub ends : to ≡ total before + total run

-- a well-formed text each of whose characters is one of s or of `more`: what holds of each of those, holds of each of its own
pub record MadeOf (more s s' : List ℕ) : Type 0 where
  pub good : WellFormed s'
  pub each : (p : ℕ → Bool) → all p more ≡ true → all p (chars s) ≡ true → all p (chars s') ≡ true

-- one newline in place of the bytes from one place to another
unfoldable pub with_newline : List ℕ → ℕ → ℕ → List ℕ
with_newline s from to = take from s ++ 0x0A ∷ drop to s
