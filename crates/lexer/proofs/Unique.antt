-- One outcome of `advance_token`.
-- Assumes nothing.
use Prim.Native.Nat.{ℕ}
use mathlib.Core.Path.{◌≡◌, sym, ◌∙◌}
use mathlib.Core.List.{List}
use Rattle.lexer.specs.Cut.{Letters}
use Rattle.lexer.specs.Promises.{Advanced}

-- two calls at one place, over the same letters, answer the same
pub advanced_unique : {u : Letters} {profile at : ℕ} {s : List ℕ} {k m f e k' m' f' e' : ℕ} → Advanced u profile s at k m f e → Advanced u profile s at k' m' f' e' → (k ≡ k') × (m ≡ m') × (f ≡ f') × (e ≡ e')
advanced_unique p q = (p.kind_is ∙ sym q.kind_is, p.suffix_is ∙ sym q.suffix_is, p.found_is ∙ sym q.found_is, p.end_is ∙ sym q.end_is)
