-- Fed part by part, a machine with two characters of lookahead hands out the tokens of the whole text; so does the machine of the lexer.
-- Assumes nothing.
use Prim.Native.Nat.{ℕ}
use mathlib.Core.Path.{◌≡◌, refl, sym, ◌∙◌}
use mathlib.Core.List.{List, [], ◌∷◌, ◌++◌, append_assoc, append-nil}
use Rattle.lists.proofs.Cut.{cut_cons}
use Rattle.characters.specs.Utf8.{width}
use Rattle.lexer.specs.Cut.{Letters, tokens}
use Rattle.locality.specs.Machine.{Act, run, LooksAtTwo, cut_by}
use Rattle.locality.specs.Phases as Phases
use Rattle.locality.specs.Phases.{Usual}
use Rattle.locality.specs.Feed.{State, idle, busy, held, feed, feeds, due, finish}
use Rattle.locality.proofs.Machine.{run_eats, run_halts, run_length, by_act}
use Rattle.locality.proofs.Phases.{machine_tokens, two}

module _ {Q : Type 0} (act : Q → List ℕ → Act Q) (first : ℕ → Q) where
  cut_first : (c : ℕ) (t : List ℕ) → cut_by act first (c ∷ t) ≡ (run act (first c) (width c) 0 t).0 ∷ cut_by act first (run act (first c) (width c) 0 t).1
  unfolding cut_by
  cut_first c t = cut_cons (λ c t. run act (first c) (width c) 0 t) (λ a l. run_length act (first a) (width a) 0 l) c t

  -- part by part, or at once
  pub feeds_join : (x : State Q) (a b : List ℕ) → feeds act first x (a ++ b) ≡ ((feeds act first x a).0 ++ (feeds act first (feeds act first x a).1 b).0, (feeds act first (feeds act first x a).1 b).1)
  unfolding feeds
  feeds_join x [] b = refl
  feeds_join x (c ∷ a) b = rw (feeds_join (feed act first x c).1 a b, append_assoc)

  module _ (looks : LooksAtTwo act) where
    feed_due : (x : State Q) (c : ℕ) (l : List ℕ) → due act first x (c ∷ l) ≡ (feed act first x c).0 ++ due act first (feed act first x c).1 l
    unfolding feed due
    feed_due idle c l = cut_first c l
    feed_due (busy q n m) c l = refl
    feed_due (held q n m x) c l =
        by_act act (act q (x ∷ c ∷ [])) (λ b p h. rw (run_eats act n m (looks q x c l ∙ h), h, feed))
        (λ b k h. rw (run_halts act (x ∷ c ∷ l) n m (looks q x c l ∙ h), h, feed, cut_first x (c ∷ l)))

    feeds_due : (x : State Q) (a l : List ℕ) → due act first x (a ++ l) ≡ (feeds act first x a).0 ++ due act first (feeds act first x a).1 l
    unfolding feeds
    feeds_due x [] l = refl
    feeds_due x (c ∷ a) l = feed_due x c (a ++ l) ∙ rw (feeds_due (feed act first x c).1 a l, append_assoc)

    -- what is handed out on the way, and what is handed out at the finish, are the tokens of the whole
    pub fed_whole : (l : List ℕ) → (feeds act first idle l).0 ++ finish act first (feeds act first idle l).1 ≡ cut_by act first l
    unfolding due
    fed_whole l = sym (feeds_due idle l []) ∙ rw append-nil

-- THE LEXER, fed: whatever the parts, by `feeds_join`, the tokens are those of the whole text
pub fed : (u : Letters) (usual : Usual u) (profile : ℕ) (l : List ℕ) → let r = feeds (Phases.act u) (Phases.first u profile) idle l in r.0 ++ finish (Phases.act u) (Phases.first u profile) r.1 ≡ tokens u profile l
fed u usual profile l = fed_whole (Phases.act u) (Phases.first u profile) (two u) l ∙ machine_tokens u usual profile l
