-- What `renewal_key` answers, and what it leaves in the memory that it was lent; and that a changed text keeps the key.
-- Assumes nothing.
use Rattle.std.specs.Prelude.{ℕ, ◌≡◌, cond, List, eqb, length}
use Rattle.lists.specs.Over.{over}
use Rattle.text.specs.Answer.{Answered, done, check_cut, check_room, ◌and_then◌}
use Rattle.renewal.specs.Key.{key_of_text}

-- the number and what is also returned, for room of so many bytes
unfoldable pub answer_of : List ℕ → ℕ → ℕ → ℕ × ℕ
answer_of s profile room = check_cut s profile and_then check_room room (length (key_of_text profile s))

-- the key, and behind it what stood there; a refusal changes nothing
unfoldable pub keyed : List ℕ → ℕ → List ℕ → List ℕ
keyed s profile key =
    cond (eqb (answer_of s profile (length key)).0 done) (over (key_of_text profile s) key) key

pub record Keyed (s : List ℕ) (profile : ℕ) (key : List ℕ) (number also : ℕ) (key' : List ℕ) : Type 0 where
  pub answer : Answered (answer_of s profile (length key)) number also
  pub key_is : key' ≡ keyed s profile key

-- a text is accepted, and has the key of another
abbrev pub Keeps : ℕ → List ℕ → List ℕ → Type 0
Keeps profile s s' = ((check_cut s' profile).0 ≡ done) × (key_of_text profile s' ≡ key_of_text profile s)
