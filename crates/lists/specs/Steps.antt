-- What laws and proofs speak of: values stored one after the other into a lent list, what a function gives at one number after the other,
-- and the ends of a list.
-- Assumes nothing.
use Rattle.std.specs.Prelude.{ℕ, zero, suc, ◌+◌, ◌≡◌, Bool, cond, List, [], ◌∷◌, ◌++◌, length}
use Rattle.std.proofs.lemmas.List.Edits.{sets}

-- `vs` stored from place k on: the list behind it, and the place behind them
pub record Put {A : Type 0} (out : List A) (k : ℕ) (vs : List A) (out' : List A) (r : ℕ) : Type 0 where
  pub same : out' ≡ sets out k vs
  pub next : r ≡ k + length vs
  pub long : length out' ≡ length out

-- the same where `write` says so; else the list stays as it was, and the place is counted on all the same
pub record PutIf {A : Type 0} (write : Bool) (out : List A) (k : ℕ) (vs : List A) (out' : List A) (r : ℕ) : Type 0 where
  pub same : out' ≡ cond write (sets out k vs) out
  pub next : r ≡ k + length vs

-- what f gives at n numbers, from k on
unfoldable pub values_from : {A : Type 0} → (ℕ → A) → ℕ → ℕ → List A
values_from f k zero = []
values_from f k (suc n) = f k ∷ values_from f (suc k) n

-- x is an end of t: t is a front, and then x
pub record Ends {A : Type 0} (x t : List A) : Type 0 where
  pub front : List A
  pub is : t ≡ front ++ x
