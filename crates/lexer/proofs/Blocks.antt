-- Comments: the laws of `block` and `slash`, and of the loop that scans a block comment.
-- Assumes nothing.
use Prim.Native.Nat.{ℕ, zero, suc, ◌+◌, ◌-◌, ◌≤◌, ◌<◌}
use native.Mathlib.Decide.{dec_le, dec_lt}
use native.Mathlib.Omega.{arith}
use native.Mathlib.Numerals.{add-one}
use mathlib.Core.Path.{◌≡◌, refl, ap, sym, ◌∙◌}
use mathlib.Core.Bool.{Bool, true, false, cond, ◌&&◌, false≢true}
use mathlib.Core.List.{List, [], ◌∷◌, tail}
use lib.ListN.{length, drop, get_or, drop_of_length-le}
use lib.Seq.{drop-cons}
use lib.Dec.{eqb}
use borrow.Author.Tests.{eq-eqb, ne_eqb, le-leb, lt-leb, eqb-true}
use Rattle.lists.proofs.Bools.{by_test, both, and_false}
use Rattle.lists.proofs.Cut.{by_length}
use Rattle.characters.specs.Utf8.{first, chars}
use Rattle.characters.specs.Steps.{Place}
use Rattle.characters.specs.Text.{left, skip}
use Rattle.characters.proofs.Text.{chars_nil, chars_first, from_place}
use Rattle.characters.proofs.Ascii.{wide, chars_ascii}
use Rattle.cutters.specs.Digits.{peek}
use Rattle.lexer.specs.Cut.{not_lf, opens, closes, block, slash}
use Rattle.cutters.specs.declared.kinds.Kind.TheVariants.{BlockComment}
use Rattle.cutters.specs.Numbers.{kind_number}
use Rattle.cutters.specs.Kinds.{line_comment, block_comment, unclosed_comment, slash_mark}
use Rattle.lexer.specs.Steps.{Parted}
use Rattle.lexer.proofs.Bytewise.{peek_same, tail_same, tail_less, peek_drop, tail_drop, stands}

-- ---- one turn
block_nil : (d : ℕ) → block d [] ≡ (false, [])
unfolding block
block_nil d = refl

block_open : (d c : ℕ) (t : List ℕ) → opens c (peek t) ≡ true → block d (c ∷ t) ≡ block (suc d) (tail t)
unfolding block
block_open d c [] h = refl
block_open d c (x ∷ t) h = rw h

block_shut : (d c : ℕ) (t : List ℕ) → d ≤ 1 → opens c (peek t) ≡ false → closes c (peek t) ≡ true → block d (c ∷ t) ≡ (true, tail t)
unfolding block
block_shut d c [] l h k = absurd (false≢true (sym (and_false (eqb c 0x2A)) ∙ k))
block_shut d c (x ∷ t) l h k = rw (h, k, le-leb d 1 l)

block_less : (d c : ℕ) (t : List ℕ) → 1 < d → opens c (peek t) ≡ false → closes c (peek t) ≡ true → block d (c ∷ t) ≡ block (d - 1) (tail t)
unfolding block
block_less d c [] l h k = refl
block_less d c (x ∷ t) l h k = rw (h, k, lt-leb d 1 l)

block_on : (d c : ℕ) (t : List ℕ) → opens c (peek t) ≡ false → closes c (peek t) ≡ false → block d (c ∷ t) ≡ block d t
unfolding block
block_on d c [] h k = refl
block_on d c (x ∷ t) h k = rw (h, k)

-- ---- by bytes: only ASCII opens or closes
no_open : (c x : ℕ) → 0x80 ≤ c → opens c x ≡ false
no_open c x h = rw (ne_eqb c 0x2F (λ e. omega arith))

no_close : (c x : ℕ) → 0x80 ≤ c → closes c x ≡ false
no_close c x h = rw (ne_eqb c 0x2A (λ e. omega arith))

block_front : (n : ℕ) (l : List ℕ) (d : ℕ) → ((k : ℕ) → k < n → 0x80 ≤ get_or l k 0) → n ≤ length l → block d (drop n l) ≡ block d l
block_front zero l d h m = refl
block_front (suc n) [] d h m = refl
block_front (suc n) (a ∷ l) d h m =
    let w = h 0 (omega arith) in
    block_front n l d (λ k i. h (suc k) (omega arith)) (omega arith) ∙ sym (block_on d a l (no_open a (peek l) w) (no_close a (peek l) w))

abbrev Bytes : List ℕ → Type 0
Bytes s = (d : ℕ) → block d (chars s) ≡ ((block d s).0, chars (block d s).1)

-- an ASCII byte in front
block_ascii : (a : ℕ) (s : List ℕ) → a < 0x80 → ((l : List ℕ) → length l ≤ length s → Bytes l) → Bytes (a ∷ s)
block_ascii a s h ih d =
    let v : block d (chars (a ∷ s)) ≡ block d (a ∷ chars s) = ap (block d) (chars_ascii a s h) in
    let same : (k : ℕ) → k < 0x80 → eqb (peek (chars s)) k ≡ eqb (peek s) k = peek_same s in
    let o : opens a (peek (chars s)) ≡ opens a (peek s) = ap (λ (b : Bool). eqb a 0x2F && b) (same 0x2A (omega arith)) in
    let c : closes a (peek (chars s)) ≡ closes a (peek s) = ap (λ (b : Bool). eqb a 0x2A && b) (same 0x2F (omega arith)) in
    by_test (opens a (peek s))
    (λ t.
    let e = tail_same s (omega (arith, eqb-true (peek s) 0x2A (both (eqb a 0x2F) (eqb (peek s) 0x2A) t).1)) in
    v ∙ block_open d a (chars s) (o ∙ t) ∙ ap (block (suc d)) e ∙ ih (tail s) (tail_less s) (suc d) ∙ ap (λ (r : Bool × List ℕ). (r.0, chars r.1)) (sym (block_open d a s t)))
    (λ n. by_test (closes a (peek s))
    (λ t.
    let e = tail_same s (omega (arith, eqb-true (peek s) 0x2F (both (eqb a 0x2A) (eqb (peek s) 0x2F) t).1)) in
    elim (dec_le d 1) [
      | yes l ↦ v ∙ block_shut d a (chars s) l (o ∙ n) (c ∙ t) ∙ ap (λ (x : List ℕ). (true, x)) e ∙ ap (λ (r : Bool × List ℕ). (r.0, chars r.1)) (sym (block_shut d a s l n t))
      | no m ↦
          let l : 1 < d = omega arith in
          v ∙ block_less d a (chars s) l (o ∙ n) (c ∙ t) ∙ ap (block (d - 1)) e ∙ ih (tail s) (tail_less s) (d - 1) ∙ ap (λ (r : Bool × List ℕ). (r.0, chars r.1)) (sym (block_less d a s l n t))
    ])
    (λ m. v ∙ block_on d a (chars s) (o ∙ n) (c ∙ m) ∙ ih s (omega arith) d ∙ ap (λ (r : Bool × List ℕ). (r.0, chars r.1)) (sym (block_on d a s n m))))

block_bytes : (s : List ℕ) → Bytes s
block_bytes =
    by_length Bytes (λ d. ap (block d) chars_nil ∙ block_nil d ∙ ap (λ (l : List ℕ). (false, l)) (sym chars_nil) ∙ ap (λ (r : Bool × List ℕ). (r.0, chars r.1)) (sym (block_nil d)))
    (λ a s ih.
    elim (dec_lt a 0x80) [
      | yes h ↦ block_ascii a s h ih
      | no n ↦ λ d.
          let w = wide a s (omega arith) in
          let k = (first (a ∷ s)).1 in
          let t = chars (drop k (a ∷ s)) in
          ap (block d) (chars_first (a ∷ s) (omega arith))
          ∙ block_on d (first (a ∷ s)).0 t (no_open (first (a ∷ s)).0 (peek t) w.code) (no_close (first (a ∷ s)).0 (peek t) w.code)
          ∙ ih (drop k (a ∷ s)) w.less d
          ∙ ap (λ (r : Bool × List ℕ). (r.0, chars r.1)) (block_front k (a ∷ s) d w.bytes w.within)
    ])

-- ---- the loop: to go on from here comes to the same
pub record Blocking (s : List ℕ) (at₀ d at : ℕ) : Type 0 where
  pub after : at₀ ≤ at
  pub within : at ≤ length s
  pub some : 1 ≤ d
  pub deep : d ≤ at + 1
  pub same : block d (drop at s) ≡ block 1 (drop at₀ s)

module _ {s : List ℕ} where
  pub blocking_none : {at : ℕ} → at ≤ length s → Blocking s at 1 at
  blocking_none h = record { after = omega arith; within = h; some = omega arith; deep = omega arith; same = refl }

  flagged : {at₀ at : ℕ} {b : Bool} → at₀ ≤ at → at ≤ length s → block 1 (drop at₀ s) ≡ (b, drop at s) → Parted (block 1) s at₀ b at
  flagged {at₀} {at} {b} a w q =
      let e : block 1 (left s at₀) ≡ (b, left s at) = block_bytes (drop at₀ s) 1 ∙ ap (λ (r : Bool × List ℕ). (r.0, chars r.1)) q in
      record {
        what = ap (λ (r : Bool × List ℕ). r.0) (sym e);
        place = record { after = a; within = w; there = ap (λ (r : Bool × List ℕ). r.1) (sym e) };
      }

  pub block_unclosed : {at₀ d at : ℕ} → Blocking s at₀ d at → length s ≤ at → Parted (block 1) s at₀ false at
  block_unclosed {at₀} {d} {at} e h = flagged e.after e.within (sym e.same ∙ rw (drop_of_length-le s {i = at} h) (block_nil d))

  -- one turn: the bytes at `at` and behind it
  module _ {at₀ d at : ℕ} {b : Bool} (e : Blocking s at₀ d at) (l : at < length s) (o : b ≡ opens (get_or s at 0) (get_or s (at + 1) 0)) where
    here : block d (get_or s at 0 ∷ drop (at + 1) s) ≡ block 1 (drop at₀ s)
    here = rw add-one (ap (block d) (sym (drop-cons s at 0 l)) ∙ e.same)

    opened : {f : Bool} → b ≡ f → opens (get_or s at 0) (peek (drop (at + 1) s)) ≡ f
    opened t = rw (peek_drop (at + 1) s) (sym o ∙ t)

    pub block_deeper : {d' at' : ℕ} → b ≡ true → d' ≡ d + 1 → at' ≡ at + 2 → Blocking s at₀ d' at'
    block_deeper t u v =
        let k : get_or s (at + 1) 0 ≡ 0x2A = eqb-true (get_or s (at + 1) 0) 0x2A (both (eqb (get_or s at 0) 0x2F) (eqb (get_or s (at + 1) 0) 0x2A) (sym o ∙ t)).1 in
        record {
          after = omega arith;
          within = omega (arith, stands (at + 1) s (omega arith));
          some = omega arith;
          deep = omega arith;
          same = rw (u, v, add-one) (ap (block (suc d)) (sym (tail_drop at s)) ∙ sym (block_open d (get_or s at 0) (drop (at + 1) s) (opened t)) ∙ here);
        }

    module _ {b' : Bool} (t : b ≡ false) (o' : b' ≡ closes (get_or s at 0) (get_or s (at + 1) 0)) where
      closing : {f : Bool} → b' ≡ f → closes (get_or s at 0) (peek (drop (at + 1) s)) ≡ f
      closing i = rw (peek_drop (at + 1) s) (sym o' ∙ i)

      shut_within : b' ≡ true → at + 2 ≤ length s
      shut_within i =
          let k : get_or s (at + 1) 0 ≡ 0x2F = eqb-true (get_or s (at + 1) 0) 0x2F (both (eqb (get_or s at 0) 0x2A) (eqb (get_or s (at + 1) 0) 0x2F) (sym o' ∙ i)).1 in
          omega (arith, stands (at + 1) s (omega arith))

      pub block_closed : {d' at' : ℕ} → b' ≡ true → d' ≡ d - 1 → d' ≡ 0 → at' ≡ at + 2 → Parted (block 1) s at₀ true at'
      block_closed i v z u =
          flagged (omega (arith, e.after)) (omega (arith, shut_within i))
          (sym here ∙ block_shut d (get_or s at 0) (drop (at + 1) s) (omega arith) (opened t) (closing i) ∙ rw u (ap (λ (x : List ℕ). (true, x)) (tail_drop at s)))

      pub block_shallower : {d' at' : ℕ} → b' ≡ true → d' ≡ d - 1 → (d' ≡ 0 → ⊥) → at' ≡ at + 2 → Blocking s at₀ d' at'
      block_shallower i v z u =
          record {
            after = omega (arith, e.after);
            within = omega (arith, shut_within i);
            some = omega arith;
            deep = omega (arith, e.deep);
            same = rw (v, u) (ap (block (d - 1)) (sym (tail_drop at s)) ∙ sym (block_less d (get_or s at 0) (drop (at + 1) s) (omega arith) (opened t) (closing i)) ∙ here);
          }

      pub block_onward : {at' : ℕ} → b' ≡ false → at' ≡ at + 1 → Blocking s at₀ d at'
      block_onward i u =
          record {
            after = omega (arith, e.after);
            within = omega arith;
            some = e.some;
            deep = omega (arith, e.deep);
            same = rw u (sym (block_on d (get_or s at 0) (drop (at + 1) s) (opened t) (closing i)) ∙ here);
          }

pub ruleset blocking = (blocking_none, block_unclosed, block_deeper, block_closed, block_shallower, block_onward)

-- ---- behind a slash
pub comment_kind : (b : Bool) → kind_number (BlockComment b) ≡ cond b block_comment unclosed_comment
comment_kind true = refl
comment_kind false = refl

module _ {s : List ℕ} {at x : ℕ} (f : x ≡ peek (left s at)) where
  pub slash_line : {a end kind : ℕ} → x ≡ 0x2F → Place s at a (tail (left s at)) → Place s a end (skip not_lf (left s a)) → kind ≡ line_comment → Parted slash s at kind end
  unfolding slash
  slash_line e p q k =
      let h : eqb (peek (left s at)) 0x2F ≡ true = eq-eqb _ _ (sym f ∙ e) in
      record { what = rw h k; place = rw h (from_place p q (ap (skip not_lf) p.there)) }

  pub slash_block : {a end kind : ℕ} {b : Bool} → (x ≡ 0x2F → ⊥) → x ≡ 0x2A → Place s at a (tail (left s at)) → Parted (block 1) s a b end → kind ≡ cond b block_comment unclosed_comment → Parted slash s at kind end
  unfolding slash
  slash_block {a} n e p q k =
      let h : eqb (peek (left s at)) 0x2F ≡ false = ne_eqb _ _ (λ z. n (f ∙ z)) in
      let j : eqb (peek (left s at)) 0x2A ≡ true = eq-eqb _ _ (sym f ∙ e) in
      let u : block 1 (left s a) ≡ block 1 (tail (left s at)) = ap (block 1) p.there in
      record {
        what = rw (h, j, ← u, ← q.what) k;
        place = rw (h, j) (from_place p q.place (ap (λ (r : Bool × List ℕ). r.1) u));
      }

  pub slash_alone : {kind : ℕ} → (x ≡ 0x2F → ⊥) → (x ≡ 0x2A → ⊥) → at ≤ length s → kind ≡ slash_mark → Parted slash s at kind at
  unfolding slash
  slash_alone n m w k =
      let h : eqb (peek (left s at)) 0x2F ≡ false = ne_eqb _ _ (λ z. n (f ∙ z)) in
      let j : eqb (peek (left s at)) 0x2A ≡ false = ne_eqb _ _ (λ z. m (f ∙ z)) in
      record { what = rw (h, j) k; place = record { after = omega arith; within = w; there = rw (h, j) } }
