-- KEEPING BYTES FOR THE CALLER: the laws of the functions that find where the tokens begun before a chunk end, move bytes to the front and copy others behind
-- them; and that what they keep is what a lexer that runs keeps.
-- Assumes nothing.
use Prim.Native.Nat.{ℕ, suc, ◌+◌, ◌-◌, ◌*◌, ◌≤◌, ◌<◌, min}
use native.Mathlib.Decide.{dec_le}
use native.Mathlib.Omega.{arith}
use native.Mathlib.Numerals.{add-one}
use mathlib.Core.Path.{◌≡◌, refl, ap, sym, ◌∙◌}
use mathlib.Core.Bool.{Bool, true, false}
use mathlib.Core.List.{List, [], ◌∷◌, ◌++◌}
use lib.Dec.{ltb}
use lib.ListN.{length, take, drop, get_or, length-take, length-drop, length-append}
use borrow.Rule.Slice.PartMut.{put_mid}
use Rattle.std.proofs.lemmas.List.{take_min, drop_min}
use Rattle.parts.proofs.Stores.{written}
use lib.Seq.{sets, drop-drop, get_or-drop, take_all, take-append-le, take-append-add, length-take-le, length-sets}
use borrow.Author.Tests.{lt-ltb, le-ltb, ltb-true, ltb-false}
use Rattle.lists.specs.Over.{over}
use Rattle.lists.proofs.Put.{sets_append}
use Rattle.lists.proofs.Store.{stored_front}
use Rattle.lists.proofs.Bools.{by_test}
use Rattle.cutters.specs.Records.{record_words}
use Rattle.feeding.specs.Fed.{Rec, words}
use Rattle.feeding.specs.Begun.{beyond}
use Rattle.feeding.specs.Lexer.{Lexer}
use Rattle.feeding.specs.Call.{bytes, next_begun, end_before, early, keeps}
use Rattle.feeding.proofs.Running.{Runs}
use Rattle.feeding.proofs.Carry.{stay, some_lost, none_lost}
use Rattle.parts.specs.Steps.{end_in, Copied, kept_bytes, Kept, there_of}

-- ---- the end of the last of some records that start before a place
module _ (list : List ℕ) (place : ℕ) where
  abbrev start_in : ℕ → ℕ
  start_in i = get_or list (i * record_words + 3) 0

  abbrev behind_in : ℕ → ℕ
  behind_in i = start_in i + get_or list (i * record_words + 1) 0

  end_more : (e i n : ℕ) → start_in i < place → end_in list place e i (suc n) ≡ end_in list place (behind_in i) (suc i) n
  unfolding end_in
  end_more e i n h = rw (lt-ltb (start_in i) place h, end_in)

  end_stop : (e i n : ℕ) → place ≤ start_in i → end_in list place e i (suc n) ≡ e
  unfolding end_in
  end_stop e i n h = rw (le-ltb (start_in i) place h, end_in)

  -- to go on from the i-th record comes to the same
  pub record Ending (from count e i : ℕ) : Type 0 where
    pub within : i ≤ count
    pub same : end_in list place e i (count - i) ≡ end_in list place from 0 count

  module _ {from count e i : ℕ} (s : Ending from count e i) where
    left : i < count → end_in list place e i (suc (count - (i + 1))) ≡ end_in list place from 0 count
    left h = let y : suc (count - (i + 1)) ≡ count - i = omega arith in rw y s.same

    pub ending_more : i < count → start_in i < place → Ending from count (behind_in i) (i + 1)
    ending_more h l =
        record { within = omega arith; same = ap (λ (j : ℕ). end_in list place (behind_in i) j (count - (i + 1))) (add-one i) ∙ sym (end_more e i (count - (i + 1)) l) ∙ left h }

    pub ending_stop : i < count → place ≤ start_in i → e ≡ end_in list place from 0 count
    ending_stop h l = sym (end_stop e i (count - (i + 1)) l) ∙ left h

    pub ending_end : count ≤ i → e ≡ end_in list place from 0 count
    unfolding end_in
    ending_end h = let z : count - i ≡ 0 = omega arith in rw z at s.same

-- ---- the same of the words of records, with any behind them
module _ (place e : ℕ) (r : Rec) (rs : List Rec) where
  before_more : ltb r.start place ≡ true → end_before place e (r ∷ rs) ≡ end_before place (r.start + r.token.len) rs
  unfolding end_before
  before_more h = rw (h, end_before)

  before_stop : ltb r.start place ≡ false → end_before place e (r ∷ rs) ≡ e
  unfolding end_before
  before_stop h = rw (h, end_before)

end_from : (list t : List ℕ) (place e i : ℕ) (rs : List Rec) → drop (i * record_words) list ≡ words rs ++ t → end_in list place e i (length rs) ≡ end_before place e rs
unfolding words end_in end_before
end_from list t place e i [] h = refl
end_from list t place e i (r ∷ rs) h =
    let k = i * record_words in
    let behind = r.start + r.token.len in
    let a : start_in list place i ≡ r.start = sym (get_or-drop k list 3 0) ∙ rw h in
    let b : behind_in list place i ≡ behind = rw (a, ← get_or-drop k list 1 0, h) in
    let y : suc i * record_words ≡ k + record_words = omega arith in
    let g : drop (suc i * record_words) list ≡ words rs ++ t = ap (λ (n : ℕ). drop n list) y ∙ sym (drop-drop record_words k list) ∙ ap (drop record_words) h in
    by_test (ltb r.start place)
    (λ l. end_more list place e i (length rs) (rw a (ltb-true r.start place l)) ∙ rw b (end_from list t place behind (suc i) rs g) ∙ sym (before_more place e r rs l))
    (λ l. end_stop list place e i (length rs) (rw a (ltb-false r.start place l)) ∙ sym (before_stop place e r rs l))

module _ (place e : ℕ) (rs : List Rec) where
  pub end_in_front : (t : List ℕ) → end_in (words rs ++ t) place e 0 (length rs) ≡ end_before place e rs
  end_in_front t = end_from (words rs ++ t) t place e 0 rs refl

-- ---- bytes copied, as many as there is room for
pub copied_is : (carry bytes : List ℕ) (k n : ℕ) {vs : List ℕ} → k ≤ length carry → n ≡ min (length bytes) (length carry - k) → vs ≡ take n bytes → Copied carry k bytes (k + n) (put_mid k (k + n - k) carry vs)
copied_is carry bytes k n {vs} h e f =
    let l : length vs ≡ n = ap length f ∙ length-take-le n bytes (omega arith) in
    let m : min (length carry - k) (length bytes) ≡ n = omega arith in
    let t : take (length carry - k) bytes ≡ vs = sym (take_min (length carry - k) bytes) ∙ ap (λ (i : ℕ). take i bytes) m ∙ sym f in
    record { next = omega arith; same = rw t (written k (k + n) carry vs (omega arith) (omega arith)) }

-- from a place on, which may lie behind them
pub from_on : (chunk : List ℕ) (back m : ℕ) → m ≡ min back (length chunk) → take (length chunk - m) (drop m chunk) ≡ drop back chunk
from_on chunk back m e =
    take_all (length chunk - m) (drop m chunk) (omega (arith, length-drop m chunk)) ∙ ap (λ (i : ℕ). drop i chunk) e ∙ drop_min back chunk

-- some bytes, and others behind them
copied_then : {carry carry₁ carry₂ a b : List ℕ} {k r r' : ℕ} → k ≤ length carry → Copied carry k a r carry₁ → Copied carry₁ r b r' carry₂ → Copied carry k (a ++ b) r' carry₂
copied_then {carry} {carry₁} {carry₂} {a} {b} {k} {r} {r'} h p q =
    let n = length carry in
    let l : length carry₁ ≡ n = ap length p.same ∙ length-sets carry k (take (n - k) a) in
    let same : carry₂ ≡ sets carry k (take (n - k) (a ++ b)) =
    elim (dec_le (length a) (n - k)) [
      | yes f ↦
          let e : r ≡ k + length a = omega (arith, p.next) in
          let c : carry₁ ≡ sets carry k a = p.same ∙ ap (sets carry k) (take_all (n - k) a f) in
          let y : n - k ≡ length a + (n - r) = omega arith in
          let t : take (n - k) (a ++ b) ≡ a ++ take (n - r) b = ap (λ (m : ℕ). take m (a ++ b)) y ∙ take-append-add a b (n - r) in
          q.same ∙ rw (l, t, c) (ap (λ (m : ℕ). sets (sets carry k a) m (take (n - r) b)) e ∙ sets_append a (take (n - r) b) carry k)
      | no f ↦
          let z : length carry₁ - r ≡ 0 = omega (arith, p.next, l) in
          q.same ∙ rw z (p.same ∙ ap (sets carry k) (sym (take-append-le (n - k) a b (omega arith))))
    ] in
    record { next = omega (arith, p.next, q.next, l, length-append a b); same = same }

-- ---- what is kept
-- some bytes at the front, and others copied behind them
front_kept : {carry carry₁ carry' : List ℕ} (s : List ℕ) {b : List ℕ} {r : ℕ} → length s ≤ length carry → carry₁ ≡ over s carry → Copied carry₁ (length s) b r carry' → Kept (take (length carry) (s ++ b)) carry r carry'
front_kept {carry} {carry₁} {carry'} s {b} {r} h e p =
    let n = length carry in
    let x = take (n - length s) b in
    let c : carry₁ ≡ sets carry 0 s = e ∙ sym (stored_front s carry refl h) in
    let l : length carry₁ ≡ n = ap length c ∙ length-sets carry 0 s in
    let y : n ≡ length s + (n - length s) = omega arith in
    let t : take n (s ++ b) ≡ s ++ x = ap (λ (m : ℕ). take m (s ++ b)) y ∙ take-append-add s b (n - length s) in
    let z : length s ≡ 0 + length s = omega arith in
    let w : length (s ++ x) ≤ n = omega (arith, length-append s x, length-take (n - length s) b) in
    let u : carry' ≡ sets carry 0 (s ++ x) = p.same ∙ rw (l, c) (ap (λ (m : ℕ). sets (sets carry 0 s) m x) z ∙ sets_append s x carry 0) in
    record {
      many = omega (arith, p.next, l, length-take n (s ++ b), length-append s b);
      same = rw t (stored_front (s ++ x) carry u w);
    }

pub there_is : (carry : List ℕ) (old packed kept : ℕ) {a b there : ℕ} → a ≡ min kept (length carry) → b ≡ a - packed → there ≡ min old b → there ≡ there_of carry old packed kept
there_is carry old packed kept p q r = omega arith

module _ (carry chunk : List ℕ) (old packed kept front back : ℕ) {there : ℕ} (e : there ≡ there_of carry old packed kept) where
  abbrev bytes_kept : List ℕ
  bytes_kept = kept_bytes carry chunk old packed kept front back

  moved : length (take there (drop packed carry)) ≡ there
  moved = length-take-le there (drop packed carry) (omega (arith, length-drop packed carry))

  module _ {carry₁ : List ℕ} (m : carry₁ ≡ over (take there (drop packed carry)) carry) where
    pub old_room : old ≤ there → old ≤ length carry₁
    old_room h = rw m (omega (arith, moved, length-append (take there (drop packed carry)) (drop (length (take there (drop packed carry))) carry), length-drop (length (take there (drop packed carry))) carry))

    pub some_kept : there < old → Kept bytes_kept carry there carry₁
    unfolding kept_bytes
    some_kept h = rw (← e, lt-ltb there old h) (record { many = sym moved; same = m })

    pub all_kept : {carry₂ carry₃ : List ℕ} {n r : ℕ} → old ≤ there → Copied carry₁ old (take front chunk) n carry₂ → Copied carry₂ n (drop back chunk) r carry₃ → Kept bytes_kept carry r carry₃
    unfolding kept_bytes
    all_kept {carry₂} {carry₃} {n} {r} h p q =
        let i : there ≡ old = omega arith in
        let j : length (take old (drop packed carry)) ≡ old = rw i at moved in
        let c : Copied carry₁ old (take front chunk ++ drop back chunk) r carry₃ = copied_then (old_room h) p q in
        rw (← e, le-ltb there old h) (front_kept (take old (drop packed carry)) (omega (arith, j)) (rw i at m) (rw j c))

-- ---- of a lexer that runs
module _ (x : Lexer) (last : Bool) (chunk carry : List ℕ) (r : Runs x) (h : (last ≡ true → length (beyond (bytes x last chunk)) ≡ 0)) where
  pub keeps_is : kept_bytes carry chunk (x.fed - x.begun) x.packed x.kept (early x last chunk - x.fed) (next_begun x last chunk - x.fed) ≡ keeps x last chunk carry
  unfolding kept_bytes
  keeps_is =
      let old = x.fed - x.begun in
      let n = stay x carry in
      by_test (ltb n old)
      (λ t. rw t (sym (some_lost x last chunk carry r h (ltb-true n old t))))
      (λ t. rw t (sym (none_lost x last chunk carry r h (ltb-false n old t))))
