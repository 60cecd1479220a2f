-- One outcome of `tokenize_rows`, the same list as `tokenize` gives in flat words, where its records start, and what their fifth words say.
-- Assumes nothing.
use Prim.Native.Nat.{ℕ, zero, suc, ◌+◌, ◌*◌, ◌/◌, ◌≤◌, ◌<◌}
use native.Mathlib.Omega.{arith}
use mathlib.Core.Path.{◌≡◌, refl, sym, ap, ◌∙◌}
use mathlib.Core.List.{List, [], ◌∷◌, ◌++◌}
use lib.Dec.{eqb}
use lib.ListN.{length, drop, get_or, length-append}
use lib.Seq.{drop-cons, drop-nil, drop-append-add, get_or-drop}
use borrow.Author.Tests.{eq-eqb}
use Rattle.lists.proofs.Bools.{by_test}
use Rattle.lists.specs.Over.{over}
use Rattle.text.specs.Answer.{done, check_cut}
use Rattle.text.proofs.Room.{was_done}
use Rattle.cutters.specs.Records as definitions
use Rattle.cutters.specs.Records.{record_words, words_of, flat_from}
use Rattle.cutters.specs.Starts.{Starts}
use Rattle.cutters.specs.Told.{Told}
use Rattle.cutters.proofs.Starts.{starts_same}
use Rattle.cutters.proofs.Told.{told_same}
use Rattle.lexer.specs.Promises.{tokens_of}
use Rattle.listing.specs.Promises.{answer_of, listed, Listed}
use Rattle.listing.proofs.Unique.{listed_unique}
use Rattle.listing.proofs.Starts.{list_starts}
use Rattle.listing.proofs.Told.{list_told}
use Rattle.rows.specs.Rows.{records, fields, words, rowed, Rowed}
use Rattle.rows.specs.declared.Token.{Token}
use Rattle.rows.proofs.Filling.{length_records}

-- two calls with the same text, profile and row answer the same and leave the same
pub rowed_unique : {s : List ℕ} {profile : ℕ} {row : List Token} {n a m b : ℕ} {l k : List Token} → Rowed s profile row n a l → Rowed s profile row m b k → (n ≡ m) × (a ≡ b) × (l ≡ k)
rowed_unique p q =
    (p.answer.number_is ∙ sym q.answer.number_is, p.answer.also_is ∙ sym q.answer.also_is, p.row_is ∙ sym q.row_is)

-- ---- the words of a row
pub length_words : (row : List Token) → length (words row) ≡ record_words * length row
unfolding words
length_words [] = refl
length_words (t ∷ row) = omega (arith, length_words row)

words_append : (k l : List Token) → words (k ++ l) ≡ words k ++ words l
unfolding words
words_append [] l = refl
words_append (t ∷ k) l = ap (λ (r : List ℕ). fields t ++ r) (words_append k l)

pub words_drop : (i : ℕ) (row : List Token) → words (drop i row) ≡ drop (record_words * i) (words row)
unfolding words
words_drop zero row = refl
words_drop (suc i) [] = sym (drop-nil (record_words * suc i))
words_drop (suc i) (t ∷ row) =
    let e : length (fields t) + record_words * i ≡ record_words * suc i = omega arith in
    words_drop i row ∙ sym (drop-append-add (fields t) (words row) (record_words * i)) ∙ ap (λ (n : ℕ). drop n (fields t ++ words row)) e

-- record i is `record_words` words, from its own place on
pub record_words_lem : (i : ℕ) (row : List Token) (d : Token) → i < length row →
    drop (record_words * i) (words row) ≡ fields (get_or row i d) ++ drop (record_words * suc i) (words row)
unfolding words
record_words_lem i row d h = sym (words_drop i row) ∙ ap words (drop-cons row i d h) ∙ ap (λ (r : List ℕ). fields (get_or row i d) ++ r) (words_drop (suc i) row)

words_records : (s : List ℕ) (at : ℕ) (ts : List definitions.Token) → words (records s at ts) ≡ flat_from s at ts
unfolding words records flat_from
words_records s at [] = refl
words_records s at (t ∷ ts) = ap (λ (r : List ℕ). words_of s at t ++ r) (words_records s (at + t.len) ts)

-- the row that is left, in words, is the list that `tokenize` leaves of the row's words
flat_rowed : (s : List ℕ) (profile : ℕ) (row : List Token) → words (rowed s profile row) ≡ listed s profile (words row)
unfolding rowed listed
flat_rowed s profile row =
    let new = records s 0 (tokens_of profile s) in
    by_test (eqb (answer_of s profile (record_words * length row)).0 done)
    (λ t.
    let m : length (flat_from s 0 (tokens_of profile s)) ≡ record_words * length new = ap length (sym (words_records s 0 (tokens_of profile s))) ∙ length_words new in
    rw (length_words row, t, m, words_append, words_drop) (ap (λ (l : List ℕ). l ++ drop (record_words * length new) (words row)) (words_records s 0 (tokens_of profile s))))
    (λ t. rw (length_words row, t))

-- ---- THE SAME LIST: on a list of the row's words `tokenize` answers the same, and what it leaves is what is left in the row
as_flat : {s : List ℕ} {profile : ℕ} {row row' : List Token} {number also : ℕ} → Rowed s profile row number also row' → Listed s profile (words row) number also (words row')
as_flat {s} {profile} {row} p = record { answer = rw (length_words row) p.answer; words = ap words p.row_is ∙ flat_rowed s profile row }

pub same_as_flat : {s : List ℕ} {profile : ℕ} {row row' : List Token} {number also n a : ℕ} {list' : List ℕ} → Rowed s profile row number also row' → Listed s profile (words row) n a list' →
    (number ≡ n) × (also ≡ a) × (words row' ≡ list')
same_as_flat p q = listed_unique (as_flat p) q

-- ---- what a call that is done leaves, record by record; whatever `d` a reader takes for a record past the row
module _ {s : List ℕ} {profile : ℕ} {row row' : List Token} {number also : ℕ} (d : Token) (p : Rowed s profile row number also row') (z : number ≡ done) where
  long : also ≤ length row'
  unfolding answer_of rowed
  long =
      let ts = tokens_of profile s in
      let w = was_done (check_cut s profile) (record_words * length row / record_words) (length ts) p.answer z in
      let e : row' ≡ over (records s 0 ts) row = p.row_is ∙ rw (eq-eqb _ _ (sym p.answer.number_is ∙ z)) in
      omega (arith, w.2, ap length e, length-append (records s 0 ts) (drop (length (records s 0 ts)) row), length_records s 0 ts)

  -- field k of record i, and word k of it in the row's words
  word : (i k : ℕ) → i < also → get_or (fields (get_or row' i d) ++ drop (record_words * suc i) (words row')) k 0 ≡ get_or (words row') (record_words * i + k) 0
  word i k h = sym (sym (get_or-drop (record_words * i) (words row') k 0) ∙ ap (λ (l : List ℕ). get_or l k 0) (record_words_lem i row' d (omega (arith, h, long))))

  -- ---- WHERE RECORDS START: each starts behind all before it, the first at 0, and the last ends where the text does
  pub row_starts : Starts (λ i. (get_or row' i d).start) (λ i. (get_or row' i d).len) 0 also (length s)
  row_starts = starts_same (λ i h. word i 3 h) (λ i h. word i 1 h) (list_starts (as_flat p) z)

  -- ---- WHAT THE FIFTH WORDS SAY: each is told by its own record and the bytes where that stands
  pub row_told : Told s (λ i. (get_or row' i d).kind) (λ i. (get_or row' i d).len) (λ i. (get_or row' i d).suffix) (λ i. (get_or row' i d).start) (λ i. (get_or row' i d).misplaced) also
  row_told =
      told_same
      (λ i h.
      let e : record_words * i + 0 ≡ record_words * i = omega arith in
      (word i 0 h ∙ ap (λ (k : ℕ). get_or (words row') k 0) e, word i 1 h, word i 2 h, word i 3 h, word i 4 h))
      (list_told (as_flat p) z)
