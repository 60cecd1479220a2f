-- The laws of text records: one record, then the rest; how many bytes they are; and that a text can be read back where its length is known.
-- Assumes nothing.
use Prim.Native.Nat.{ℕ, zero, suc, ◌+◌, ◌/◌, ◌≤◌, min}
use native.Mathlib.Decide.{dec_lt}
use native.Mathlib.Omega.{arith}
use mathlib.Core.Path.{◌≡◌, refl, ap, sym, ◌∙◌}
use mathlib.Core.List.{List, [], ◌∷◌, ◌++◌, append_assoc, flatten}
use lib.Seq.{take_all}
use lib.ListN.{length, take, drop, length-append, length-take, length-drop, take-append-drop, drop_of_length-le}
use Rattle.lists.proofs.Cut.{cut_nil, cut_cons, by_length}
use Rattle.renewal.specs.Key.{text_record, next_text, texts}
use Rattle.renewal.proofs.Words.{same_front}

pub texts_nil : texts [] ≡ []
unfolding texts flatten
texts_nil = rw (cut_nil next_text)

next_less : (a : ℕ) (t : List ℕ) → length (next_text a t).1 ≤ length t
unfolding next_text
next_less a t = omega (arith, length-drop 15 t)

pub texts_cons : (a : ℕ) (t : List ℕ) → texts (a ∷ t) ≡ text_record (a ∷ t) ++ texts (drop 15 t)
unfolding texts flatten next_text
texts_cons a t = rw (cut_cons next_text next_less a t)

-- ---- one byte more for each sixteen
abbrev pub text_size : ℕ → ℕ
text_size n = n + (n + 15) / 16

pub texts_length : (l : List ℕ) → length (texts l) ≡ text_size (length l)
texts_length =
    by_length (λ (l : List ℕ). length (texts l) ≡ text_size (length l)) (rw texts_nil (omega arith))
    (λ a t ih.
    let e : length (texts (drop 15 t)) ≡ text_size (length (drop 15 t)) = ih (drop 15 t) (omega (arith, length-drop 15 t)) in
    rw texts_cons (simp length-append (omega (arith, length-drop 15 t, length-take 15 t, e))))

-- ---- what begins with the records of a text begins with those of no other text of its length
both_cons : (n : ℕ) (a : ℕ) (t : List ℕ) (b : ℕ) (u : List ℕ) → length t ≡ length u →
    ((p q : List ℕ) → length p ≤ n → length p ≡ length q → (x y : List ℕ) → texts p ++ x ≡ texts q ++ y → (p ≡ q) × (x ≡ y)) → length t ≤ n →
    (x y : List ℕ) → texts (a ∷ t) ++ x ≡ texts (b ∷ u) ++ y → (◌≡◌ {A = List ℕ} (a ∷ t) (b ∷ u)) × (x ≡ y)
both_cons n a t b u h ih k x y e =
    let e' : text_record (a ∷ t) ++ (texts (drop 15 t) ++ x) ≡ text_record (b ∷ u) ++ (texts (drop 15 u) ++ y) =
    sym (append_assoc (text_record (a ∷ t)) (texts (drop 15 t)) x)
    ∙ ap (λ (l : List ℕ). l ++ x) (sym (texts_cons a t)) ∙ e ∙ ap (λ (l : List ℕ). l ++ y) (texts_cons b u)
    ∙ append_assoc (text_record (b ∷ u)) (texts (drop 15 u)) y in
    let r = same_front (text_record (a ∷ t)) (text_record (b ∷ u)) (omega (arith, length-take 15 t, length-take 15 u)) e' in
    let s = ih (drop 15 t) (drop 15 u) (omega (arith, length-drop 15 t)) (omega (arith, length-drop 15 t, length-drop 15 u)) x y r.1 in
    let v : ◌≡◌ {A = List ℕ} (a ∷ take 15 t) (b ∷ take 15 u) = cc r.0 in
    let w : ◌≡◌ {A = List ℕ} ((a ∷ take 15 t) ++ drop 15 t) ((b ∷ take 15 u) ++ drop 15 u) = cc s.0 in
    ((rw (take-append-drop 15 t, take-append-drop 15 u) at w), s.1)

below : (n : ℕ) (p q : List ℕ) → length p ≤ n → length p ≡ length q → (x y : List ℕ) → texts p ++ x ≡ texts q ++ y → (p ≡ q) × (x ≡ y)
below zero [] [] k h x y e = (refl, rw texts_nil at e)
below zero [] (b ∷ u) k h x y e = absurd (omega arith)
below zero (a ∷ t) q k h x y e = absurd (omega arith)
below (suc n) [] [] k h x y e = (refl, rw texts_nil at e)
below (suc n) [] (b ∷ u) k h x y e = absurd (omega arith)
below (suc n) (a ∷ t) [] k h x y e = absurd (omega arith)
below (suc n) (a ∷ t) (b ∷ u) k h x y e = both_cons n a t b u (omega arith) (λ p q. below n p q) (omega arith) x y e

pub texts_front : (p q : List ℕ) → length p ≡ length q → (x y : List ℕ) → texts p ++ x ≡ texts q ++ y → (p ≡ q) × (x ≡ y)
texts_front p q h x y e = below (length p) p q (omega arith) h x y e

-- ---- the record at a place of a text, by how many bytes it takes
take_few : (l : List ℕ) (n : ℕ) → n ≡ min 16 (length l) → (take n l ≡ take 16 l) × (drop n l ≡ drop 16 l)
take_few l n e =
    elim (dec_lt (length l) 16) [
      | yes h ↦
          (take_all n l (omega arith) ∙ sym (take_all 16 l (omega arith)), drop_of_length-le l {i = n} (omega arith) ∙ sym (drop_of_length-le l {i = 16} (omega arith)))
      | no m ↦ let q : n ≡ 16 = omega arith in (ap (λ (k : ℕ). take k l) q, ap (λ (k : ℕ). drop k l) q)
    ]

pub texts_first : (l : List ℕ) (n : ℕ) → 1 ≤ length l → n ≡ min 16 (length l) → texts l ≡ (128 + n) ∷ (take n l ++ texts (drop n l))
texts_first [] n h e = absurd (omega arith)
texts_first (a ∷ t) n h e =
    let x = take_few (a ∷ t) n e in
    let m : length (take 16 (a ∷ t)) ≡ n = omega (arith, length-take 16 (a ∷ t)) in
    texts_cons a t ∙ rw (x.0, x.1) (ap (λ (k : ℕ). (128 + k) ∷ (take 16 (a ∷ t) ++ texts (drop 16 (a ∷ t)))) m)
