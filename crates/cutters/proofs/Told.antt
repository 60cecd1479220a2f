-- The fifth word of a record is told by its own kind, suffix start and bytes.
-- Assumes nothing.
use Prim.Native.Nat.{ℕ, suc, ◌+◌, ◌*◌, ◌<◌}
use native.Mathlib.Omega.{arith}
use mathlib.Core.Path.{◌≡◌, ap, sym, ◌∙◌}
use mathlib.Core.List.{List, ◌++◌}
use lib.ListN.{length, take, drop, get_or}
use lib.Seq.{get_or-drop}
use Rattle.cutters.specs.Records.{Token, total, record_words, words_of, flat_from}
use Rattle.cutters.specs.Starts.{length_word, start_word}
use Rattle.cutters.specs.Told.{Told, kind_word, suffix_word, misplaced_word}
use Rattle.cutters.proofs.Starts.{flat_record}

-- ---- the words of a flat list
module _ (s : List ℕ) (at : ℕ) (ts : List Token) (x : List ℕ) where
  abbrev list : List ℕ
  list = flat_from s at ts ++ x

  word : (d : Token) (i : ℕ) → i < length ts → (j : ℕ) → get_or list (record_words * i + j) 0 ≡ get_or (words_of s (at + total (take i ts)) (get_or ts i d) ++ (flat_from s (at + total (take i ts) + (get_or ts i d).len) (drop (suc i) ts) ++ x)) j 0
  word d i h j = sym (get_or-drop (record_words * i) list j 0) ∙ ap (λ (w : List ℕ). get_or w j 0) (flat_record s at ts x d i h)

  pub flat_kind : (d : Token) (i : ℕ) → i < length ts → kind_word list i ≡ (get_or ts i d).kind
  flat_kind d i h =
      let z : record_words * i + 0 ≡ record_words * i = omega arith in
      ap (λ (j : ℕ). get_or list j 0) (sym z) ∙ word d i h 0

  pub flat_told : Told s (kind_word list) (length_word list) (suffix_word list) (start_word list) (misplaced_word list) (length ts)
  flat_told =
      let d : Token = record { kind = 0; len = 0; suffix = 0 } in
      record { each = λ i h. word d i h 4 ∙ rw (flat_kind d i h, word d i h 2, word d i h 1, word d i h 3) }

-- ---- SAME KIND, SUFFIX START AND BYTES, SAME WORD: wherever the two records stand, and in whatever texts
module _ {s s' : List ℕ} {kind len suffix start misplaced kind' len' suffix' start' misplaced' : ℕ → ℕ} {count count' : ℕ} where
  pub same_word : Told s kind len suffix start misplaced count → Told s' kind' len' suffix' start' misplaced' count' → (i i' : ℕ) → i < count → i' < count' → kind i ≡ kind' i' → suffix i ≡ suffix' i' →
      take (len i) (drop (start i) s) ≡ take (len' i') (drop (start' i') s') → misplaced i ≡ misplaced' i'
  same_word t t' i i' h h' k m b = t.each i h ∙ rw (k, m, b) (sym (t'.each i' h'))

-- of two that agree on so many records
pub told_same : {s : List ℕ} {kind len suffix start misplaced kind' len' suffix' start' misplaced' : ℕ → ℕ} {count : ℕ} →
    ((i : ℕ) → i < count → (kind' i ≡ kind i) × (len' i ≡ len i) × (suffix' i ≡ suffix i) × (start' i ≡ start i) × (misplaced' i ≡ misplaced i)) → Told s kind len suffix start misplaced count → Told s kind' len' suffix' start' misplaced' count
told_same e t = record { each = λ i h. let w = e i h in w.4 ∙ t.each i h ∙ sym (rw (w.0, w.1, w.2, w.3)) }
