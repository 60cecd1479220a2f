-- One outcome of `tokenize`, of `cut_run` and of `token_at`.
-- Assumes nothing.
use Prim.Native.Nat.{ℕ}
use mathlib.Core.Path.{◌≡◌, sym, ◌∙◌}
use mathlib.Core.List.{List}
use Rattle.lexer.specs.Cut.{Letters}
use Rattle.listing.specs.Promises.{Listed, CutRun, TokenAt}

-- two calls with the same text, profile and list answer the same and leave the same
pub listed_unique : {s : List ℕ} {profile : ℕ} {list : List ℕ} {n a m b : ℕ} {l k : List ℕ} → Listed s profile list n a l → Listed s profile list m b k → (n ≡ m) × (a ≡ b) × (l ≡ k)
listed_unique p q =
    (p.answer.number_is ∙ sym q.answer.number_is, p.answer.also_is ∙ sym q.answer.also_is, p.words ∙ sym q.words)

pub cut_run_unique : {u : Letters} {profile from : ℕ} {s list l k : List ℕ} {at n at' n' : ℕ} → CutRun u profile s from list at n l → CutRun u profile s from list at' n' k → (at ≡ at') × (n ≡ n') × (l ≡ k)
cut_run_unique p q = (p.reached ∙ sym q.reached, p.many ∙ sym q.many, p.words ∙ sym q.words)

pub token_at_unique : {u : Letters} {profile at : ℕ} {s : List ℕ} {k m f e k' m' f' e' : ℕ} → TokenAt u profile s at k m f e → TokenAt u profile s at k' m' f' e' → (k ≡ k') × (m ≡ m') × (f ≡ f') × (e ≡ e')
token_at_unique p q = (p.kind_is ∙ sym q.kind_is, p.suffix_is ∙ sym q.suffix_is, p.found_is ∙ sym q.found_is, p.end_is ∙ sym q.end_is)
