-- What the functions behind `tokenize` and `cut_run` answer.
-- Assumes nothing.
use Rattle.std.specs.Prelude.{ℕ, ◌+◌, ◌/◌, ◌≡◌, ◌≤◌, List, length, take, drop}
use Rattle.std.proofs.lemmas.List.Edits.{sets}
use Rattle.text.specs.Answer.{longest}
use Rattle.text.specs.Steps.{Stored}
use Rattle.cutters.specs.Records.{Token, total, record_words, flat_from}
use Rattle.lexer.specs.Cut.{Letters}
use Rattle.lexer.specs.Promises.{tokens_by}

-- ---- the places of a token that starts at a place, as its record can hold them
pub record Placed (at suffixAt found end : ℕ) : Type 0 where
  pub before_suffix : at ≤ suffixAt
  pub before_end : at ≤ end
  pub start_fits : at ≤ longest
  pub suffix_fits : suffixAt ≤ longest
  pub found_fits : found ≤ longest
  pub end_fits : end ≤ longest

-- ---- a run of tokens, of a text that is not too long
abbrev pub run_from : Letters → ℕ → List ℕ → ℕ → ℕ → List Token
run_from u profile s from room = take room (tokens_by u profile (drop from s))

-- how many they are, where they end and what is left there, and the list with their words
pub record Filled (u : Letters) (profile : ℕ) (s : List ℕ) (from : ℕ) (list : List ℕ) (at count : ℕ) (list' : List ℕ) : Type 0 where
  pub many : count ≡ length (run_from u profile s from (length list / record_words))
  pub reached : at ≡ from + total (run_from u profile s from (length list / record_words))
  pub rest : tokens_by u profile (drop at s) ≡ drop (length list / record_words) (tokens_by u profile (drop from s))
  pub words : list' ≡ sets list 0 (flat_from s from (run_from u profile s from (length list / record_words)))

-- the answer for a text that passed the checks, and the list
abbrev pub StoredTokens : Letters → ℕ → List ℕ → List ℕ → ℕ → ℕ → List ℕ → Type 0
StoredTokens u profile s list number also list' =
    Stored (length list / record_words) (length (tokens_by u profile s)) (flat_from s 0 (tokens_by u profile s)) list number also list'
