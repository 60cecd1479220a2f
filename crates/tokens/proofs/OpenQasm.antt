-- The cutter of OpenQASM 3 as one on bytes, over any letters; and for it, same ending, same tokens.
-- Assumes nothing.
use Prim.Native.Nat.{ℕ, suc, ◌≤◌}
use native.Mathlib.Omega.{arith}
use mathlib.Core.Path.{◌≡◌, ap, sym, ◌∙◌}
use mathlib.Core.Bool.{true}
use mathlib.Core.List.{List, ◌∷◌, ◌++◌}
use lib.ListN.{length, drop, length-drop}
use Rattle.lists.proofs.Cut.{by_length}
use Rattle.characters.specs.Utf8.{first, chars}
use Rattle.characters.specs.Text.{byte_length}
use Rattle.characters.proofs.Text.{chars_nil, chars_first, bytes_chars}
use Rattle.cutters.specs.Records.{Token, total}
use Rattle.cutters.specs.Cutter.{Cutter, cut_bytes}
use Rattle.cutters.proofs.Cutter.{cut_none, cut_first, same_ending}
use Rattle.lexer.specs.Cut.{Letters, next_token, tokens}
use Rattle.lexer.specs.Unicode.{unicode}
use Rattle.lexer.specs.Promises.{tokens_by, tokens3, profile3}
use Rattle.lexer.proofs.Shapes.{tokens_nil}
use Rattle.lexer.proofs.Places.{tokens_first, next_some, known3}
use Rattle.tokens.specs.Members.{counted, members_by, members3, members_of}

-- the first character of a ∷ s, and those behind it
abbrev pub head : ℕ → List ℕ → ℕ
head a s = (first (a ∷ s)).0

abbrev pub tail : ℕ → List ℕ → List ℕ
tail a s = chars (drop (first (a ∷ s)).1 (a ∷ s))

pub chars_are : (a : ℕ) (s : List ℕ) → chars (a ∷ s) ≡ head a s ∷ tail a s
chars_are a s = chars_first (a ∷ s) (omega arith)

module _ (u : Letters) (profile : ℕ) where
  abbrev pub first_token : ℕ → List ℕ → Token
  first_token a s = (next_token u profile (head a s) (tail a s)).0

  pub first_within : (a : ℕ) (s : List ℕ) → (first_token a s).len ≤ suc (length s)
  unfolding next_token
  first_within a s = omega (arith, ap byte_length (chars_are a s), bytes_chars (a ∷ s))

  unfoldable pub open_qasm : Cutter
  open_qasm = record { next = first_token; some = λ a s. next_some u profile (head a s) (tail a s); within = first_within }

  pub tokens_cut : (s : List ℕ) → tokens_by u profile s ≡ cut_bytes open_qasm s
  unfolding open_qasm
  tokens_cut =
      by_length (λ (s : List ℕ). tokens_by u profile s ≡ cut_bytes open_qasm s)
      (ap (tokens u profile) chars_nil ∙ tokens_nil u profile ∙ sym (cut_none open_qasm))
      (λ a s ih.
      let n = first_token a s in
      tokens_first u profile (head a s) (tail a s) (a ∷ s) (chars_are a s)
      ∙ ap (λ (l : List Token). n ∷ l) (ih (drop n.len (a ∷ s)) (omega (arith, length-drop n.len (a ∷ s), open_qasm.some a s)))
      ∙ sym (cut_first open_qasm a s))

-- SAME ENDING, SAME TOKENS, of texts
pub same_tokens : (profile : ℕ) (p q p' q' : List Token) (s s' : List ℕ) → tokens3 profile s ≡ p ++ q → tokens3 profile s' ≡ p' ++ q' → drop (total p) s ≡ drop (total p') s' → q ≡ q'
unfolding tokens3
same_tokens profile p q p' q' s s' h h' =
    same_ending (open_qasm unicode profile) p q p' q' s s' (sym (tokens_cut unicode profile s) ∙ h) (sym (tokens_cut unicode profile s') ∙ h')

-- under its profiles the counted tokens of a text are its own
pub members_known : (profile : ℕ) (s : List ℕ) → profile3 profile ≡ true → members_of profile s ≡ members3 profile s
unfolding members_of members3 members_by
members_known profile s k = ap (counted s) (known3 profile s k)
