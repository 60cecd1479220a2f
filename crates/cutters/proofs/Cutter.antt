-- The laws of a cutter on bytes, whatever its rules: its tokens one by one, and same ending, same tokens.
-- Assumes nothing.
use Prim.Native.Nat.{ℕ, zero, suc, ◌-◌, ◌≤◌}
use native.Mathlib.Omega.{arith}
use mathlib.Core.Path.{◌≡◌, ap, sym, ◌∙◌}
use mathlib.Core.List.{List, [], ◌∷◌, ◌++◌, cons≢nil}
use lib.ListN.{drop, length-drop}
use lib.Seq.{drop-drop}
use Rattle.lists.proofs.Cut.{cut_nil, cut_cons}
use Rattle.cutters.specs.Records.{Token, total}
use Rattle.cutters.specs.Cutter.{Cutter, cut_bytes}

module _ (k : Cutter) where
  pub cut_none : cut_bytes k [] ≡ []
  unfolding cut_bytes
  cut_none = cut_nil (λ a s. (k.next a s, drop ((k.next a s).len - 1) s))

  drop_one : (n : ℕ) (a : ℕ) (s : List ℕ) → 1 ≤ n → drop (n - 1) s ≡ drop n (a ∷ s)
  drop_one zero a s h = absurd (omega arith)
  drop_one (suc n) a s h = let e : suc n - 1 ≡ n = omega arith in rw e

  -- the first token, and then the tokens of the bytes behind it
  pub cut_first : (a : ℕ) (s : List ℕ) → cut_bytes k (a ∷ s) ≡ k.next a s ∷ cut_bytes k (drop (k.next a s).len (a ∷ s))
  unfolding cut_bytes
  cut_first a s =
      cut_cons (λ a s. (k.next a s, drop ((k.next a s).len - 1) s)) (λ a s. omega (arith, length-drop ((k.next a s).len - 1) s)) a s
      ∙ rw (drop_one (k.next a s).len a s (k.some a s))

  -- the tokens from a boundary on are those of the text from there on
  pub from_boundary : (p q : List Token) (s : List ℕ) → cut_bytes k s ≡ p ++ q → q ≡ cut_bytes k (drop (total p) s)
  from_boundary [] q s h = sym h
  from_boundary (t ∷ p) q [] h = absurd (cons≢nil (sym h ∙ cut_none))
  from_boundary (t ∷ p) q (a ∷ s) h =
      let e : k.next a s ∷ cut_bytes k (drop (k.next a s).len (a ∷ s)) ≡ t ∷ (p ++ q) = sym (cut_first a s) ∙ h in
      let f : k.next a s ≡ t = cc in
      let g : cut_bytes k (drop (k.next a s).len (a ∷ s)) ≡ p ++ q = cc in
      let n : (k.next a s).len ≡ t.len = ap (λ (x : Token). x.len) f in
      from_boundary p q (drop t.len (a ∷ s)) (ap (λ (m : ℕ). cut_bytes k (drop m (a ∷ s))) (sym n) ∙ g) ∙ ap (cut_bytes k) (drop-drop (total p) t.len (a ∷ s))

  -- SAME ENDING, SAME TOKENS: where what is left behind two boundaries is the same, so are the tokens there
  pub same_ending : (p q p' q' : List Token) (s s' : List ℕ) → cut_bytes k s ≡ p ++ q → cut_bytes k s' ≡ p' ++ q' → drop (total p) s ≡ drop (total p') s' → q ≡ q'
  same_ending p q p' q' s s' h h' e = from_boundary p q s h ∙ ap (cut_bytes k) e ∙ sym (from_boundary p' q' s' h')
