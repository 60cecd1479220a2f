-- Where the records of tokens start that lie in a text one behind the other, and that a flat list says so.
-- Assumes nothing.
use Prim.Native.Nat.{ℕ, zero, suc, ◌+◌, ◌*◌, ◌≤◌, ◌<◌}
use native.Mathlib.Omega.{arith}
use mathlib.Core.Path.{◌≡◌, refl, ap, sym, ◌∙◌}
use mathlib.Core.List.{List, [], ◌∷◌, ◌++◌, append_assoc}
use lib.ListN.{length, take, drop, get_or, length-append, take-append-drop, get_or-append}
use lib.Seq.{take_all, take-length, take-suc, drop-cons, length-take-le, drop_at, get_or-drop}
use Rattle.cutters.specs.Records.{Token, total, record_words, words_of, flat_from}
use Rattle.cutters.specs.Starts.{sum_of, Starts, length_word, start_word}
use Rattle.cutters.proofs.Records.{total_append, length_flat}

-- ---- of two that agree on so many records
sum_same : (f g : ℕ → ℕ) (i : ℕ) → ((j : ℕ) → j < i → f j ≡ g j) → sum_of f i ≡ sum_of g i
sum_same f g zero h = refl
sum_same f g (suc i) h = omega (arith, sum_same f g i (λ j l. h j (omega (arith, l))), h i (omega arith))

pub starts_same : {start start' len len' : ℕ → ℕ} {from count end : ℕ} → ((i : ℕ) → i < count → start' i ≡ start i) → ((i : ℕ) → i < count → len' i ≡ len i) → Starts start len from count end → Starts start' len' from count end
starts_same {len = len} {len'} {from} {count} e f s =
    record {
      each = λ i h. e i h ∙ s.each i h ∙ ap (λ (n : ℕ). from + n) (sum_same len len' i (λ j l. sym (f j (omega (arith, l, h)))));
      all = ap (λ (n : ℕ). from + n) (sum_same len' len count f) ∙ s.all;
      first = λ h. e 0 h ∙ s.first h;
      last = λ i h. omega (arith, e i (omega (arith, h)), f i (omega (arith, h)), s.last i h);
    }

module _ (ts : List Token) (d : Token) where
  abbrev len : ℕ → ℕ
  len i = (get_or ts i d).len

  one_more : (i : ℕ) → i < length ts → total (take (suc i) ts) ≡ total (take i ts) + len i
  one_more i h = ap total (take-suc ts i d h) ∙ omega (arith, total_append (take i ts) (get_or ts i d ∷ []))

  sum_total : (i : ℕ) → i ≤ length ts → sum_of len i ≡ total (take i ts)
  sum_total zero h = refl
  sum_total (suc i) h = omega (arith, sum_total i (omega (arith, h)), one_more i (omega (arith, h)))

  token_starts : (from : ℕ) → Starts (λ i. from + total (take i ts)) len from (length ts) (from + total ts)
  token_starts from =
      record {
        each = λ i h. omega (arith, sum_total i (omega (arith, h)));
        all = omega (arith, sum_total (length ts) (omega arith), ap total (take-length ts));
        first = λ h. omega arith;
        last = λ i h. omega (arith, one_more i (omega (arith, h)), ap total (take_all (suc i) ts (omega (arith, h))));
      }

-- ---- the words of a flat list
pub flat_append : (s : List ℕ) (at : ℕ) (ts us : List Token) → flat_from s at (ts ++ us) ≡ flat_from s at ts ++ flat_from s (at + total ts) us
unfolding flat_from
flat_append s at [] us = let e : at ≡ at + 0 = omega arith in ap (λ (n : ℕ). flat_from s n us) e
flat_append s at (t ∷ ts) us =
    let e : at + t.len + total ts ≡ at + (t.len + total ts) = omega arith in
    ap (λ (l : List ℕ). words_of s at t ++ l) (flat_append s (at + t.len) ts us ∙ ap (λ (n : ℕ). flat_from s (at + t.len) ts ++ flat_from s n us) e)

-- from record i on the words are those of the tokens from there on, which start behind all before them
pub flat_drop : (s : List ℕ) (at : ℕ) (ts : List Token) (x : List ℕ) (i : ℕ) → i ≤ length ts → drop (record_words * i) (flat_from s at ts ++ x) ≡ flat_from s (at + total (take i ts)) (drop i ts) ++ x
flat_drop s at ts x i h =
    let front = flat_from s at (take i ts) in
    let back = flat_from s (at + total (take i ts)) (drop i ts) in
    let e : flat_from s at ts ≡ front ++ back = ap (flat_from s at) (sym (take-append-drop i ts)) ∙ flat_append s at (take i ts) (drop i ts) in
    let n : length front ≡ record_words * i = length_flat s at (take i ts) ∙ ap (λ (k : ℕ). record_words * k) (length-take-le i ts h) in
    ap (λ (l : List ℕ). drop (record_words * i) (l ++ x)) e ∙ ap (drop (record_words * i)) (append_assoc front back x) ∙ drop_at front (back ++ x) (record_words * i) n

-- some of those tokens listed by themselves, from where they start, have the same words
pub flat_part : (s : List ℕ) (at : ℕ) (ts : List Token) (x : List ℕ) (i n : ℕ) (y : List ℕ) → i ≤ length ts → (j : ℕ) → j < record_words * length (take n (drop i ts)) →
    get_or (flat_from s (at + total (take i ts)) (take n (drop i ts)) ++ y) j 0 ≡ get_or (flat_from s at ts ++ x) (record_words * i + j) 0
flat_part s at ts x i n y h j k =
    let from = at + total (take i ts) in
    let part = take n (drop i ts) in
    let F = flat_from s from part in
    let G = flat_from s (from + total part) (drop n (drop i ts)) in
    let e : flat_from s from (drop i ts) ≡ F ++ G = ap (flat_from s from) (sym (take-append-drop n (drop i ts))) ∙ flat_append s from part (drop n (drop i ts)) in
    let l : j < length F = omega (arith, k, length_flat s from part) in
    let a : get_or (F ++ G ++ x) j 0 ≡ get_or F j 0 = get_or-append (F ++ G) x 0 j (omega (arith, l, length-append F G)) ∙ get_or-append F G 0 j l in
    let b : drop (record_words * i) (flat_from s at ts ++ x) ≡ F ++ G ++ x = flat_drop s at ts x i h ∙ ap (λ (w : List ℕ). w ++ x) e in
    get_or-append F y 0 j l ∙ sym a ∙ ap (λ (w : List ℕ). get_or w j 0) (sym b) ∙ get_or-drop (record_words * i) (flat_from s at ts ++ x) j 0

-- so record i is the words of token i, which starts there
pub flat_record : (s : List ℕ) (at : ℕ) (ts : List Token) (x : List ℕ) (d : Token) (i : ℕ) → i < length ts →
    drop (record_words * i) (flat_from s at ts ++ x) ≡ words_of s (at + total (take i ts)) (get_or ts i d) ++ (flat_from s (at + total (take i ts) + (get_or ts i d).len) (drop (suc i) ts) ++ x)
unfolding flat_from
flat_record s at ts x d i h = flat_drop s at ts x i (omega (arith, h)) ∙ rw (drop-cons ts i d h)

module _ (s : List ℕ) (at : ℕ) (ts : List Token) (x : List ℕ) where
  none : Token
  none = record { kind = 0; len = 0; suffix = 0 }

  pub flat_start : (i : ℕ) → i < length ts → start_word (flat_from s at ts ++ x) i ≡ at + total (take i ts)
  flat_start i h = sym (get_or-drop (record_words * i) (flat_from s at ts ++ x) 3 0) ∙ ap (λ (w : List ℕ). get_or w 3 0) (flat_record s at ts x none i h)

  flat_len : (i : ℕ) → i < length ts → length_word (flat_from s at ts ++ x) i ≡ (get_or ts i none).len
  flat_len i h = sym (get_or-drop (record_words * i) (flat_from s at ts ++ x) 1 0) ∙ ap (λ (w : List ℕ). get_or w 1 0) (flat_record s at ts x none i h)

  -- ---- THE STARTS of a flat list are the running sums of its lengths
  pub flat_starts : Starts (start_word (flat_from s at ts ++ x)) (length_word (flat_from s at ts ++ x)) at (length ts) (at + total ts)
  flat_starts = starts_same flat_start flat_len (token_starts ts none at)
