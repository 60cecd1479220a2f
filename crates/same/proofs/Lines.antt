-- The walk that counts lines and columns.
-- Assumes nothing.
use Prim.Native.Nat.{ℕ, suc, ◌+◌, ◌≤◌, ◌<◌, min}
use native.Mathlib.Decide.{dec_lt}
use native.Mathlib.Omega.{arith}
use native.Mathlib.Numerals.{add-one}
use mathlib.Core.Path.{◌≡◌, refl, ap, sym, ◌∙◌}
use mathlib.Core.List.{List, ◌∷◌, foldl}
use lib.Dec.{eqb}
use lib.ListN.{length, take, drop, get_or, drop_of_length-le}
use lib.Seq.{drop-cons, take_all}
use borrow.Author.Tests.{eq-eqb, ne_eqb, le-leb, lt-leb}
use Rattle.lists.proofs.Bools.{on_cond}
use Rattle.characters.specs.Utf8.{follows}
use Rattle.same.specs.Places.{next, place_of, Placed}

-- ---- ONE OUTCOME
pub placed_unique : {is : ℕ × ℕ} {l c l' c' : ℕ} → Placed is l c → Placed is l' c' → (l ≡ l') × (c ≡ c')
placed_unique p q = (p.line_is ∙ sym q.line_is, p.column_is ∙ sym q.column_is)

-- ---- one byte
module _ (line column b : ℕ) where
  pub next_line : b ≡ 0x0A → Placed (next (line, column) b) (line + 1) 1
  unfolding next
  next_line e = rw (eq-eqb b 0x0A e) (record { line_is = omega arith; column_is = refl })

  pub next_stays : 0x80 ≤ b → b ≤ 0xBF → Placed (next (line, column) b) line column
  unfolding next
  next_stays h k =
      rw (ne_eqb b 0x0A (λ e. omega arith), le-leb 0x80 b h, le-leb b 0xBF k) (record { line_is = refl; column_is = refl })

  -- what begins a character, of one byte or of more
  pub next_low : (b ≡ 0x0A → ⊥) → b < 0x80 → Placed (next (line, column) b) line (column + 1)
  unfolding next
  next_low n h = rw (ne_eqb b 0x0A n, lt-leb 0x80 b h) (record { line_is = refl; column_is = omega arith })

  pub next_high : 0xBF < b → Placed (next (line, column) b) line (column + 1)
  unfolding next
  next_high h =
      rw (ne_eqb b 0x0A (λ e. omega arith), le-leb 0x80 b (omega arith), lt-leb b 0xBF h) (record { line_is = refl; column_is = omega arith })

-- ---- the walk over the bytes before the place: to go on from here comes to the same
pub record Counting (s : List ℕ) (at : ℕ) (items : List ℕ) (i line column : ℕ) : Type 0 where
  pub within : i ≤ length items
  pub few : line ≤ i + 1
  pub short : column ≤ i + 1
  pub same : foldl next (line, column) (drop i items) ≡ place_of s at

pub counting_none : (s : List ℕ) (at : ℕ) {end : ℕ} → end ≡ min at (length s) → Counting s at (take end s) 0 1 1
unfolding place_of
counting_none s at {end} e =
    let t : take end s ≡ take at s =
    elim (dec_lt (length s) at) [
      | yes h ↦ take_all end s (omega arith) ∙ sym (take_all at s (omega arith))
      | no n ↦ let k : end ≡ at = omega arith in ap (λ (m : ℕ). take m s) k
    ]
    in
    record { within = omega arith; few = omega arith; short = omega arith; same = ap (foldl next (1, 1)) t }

next_few : (p : ℕ × ℕ) (b : ℕ) → ((next p b).0 ≤ p.0 + 1) × ((next p b).1 ≤ p.1 + 1)
unfolding next
next_few p b =
    on_cond (λ (r : ℕ × ℕ). (r.0 ≤ p.0 + 1) × (r.1 ≤ p.1 + 1)) (eqb b 0x0A) (omega arith, omega arith)
    (on_cond (λ (r : ℕ × ℕ). (r.0 ≤ p.0 + 1) × (r.1 ≤ p.1 + 1)) (follows b) (omega arith, omega arith) (omega arith, omega arith))

module _ {s items : List ℕ} {at i line column : ℕ} (w : Counting s at items i line column) where
  pub counting_on : {line' column' : ℕ} → i < length items → Placed (next (line, column) (get_or items i 0)) line' column' → Counting s at items (i + 1) line' column'
  counting_on h p =
      let f = next_few (line, column) (get_or items i 0) in
      let v : drop i items ≡ get_or items i 0 ∷ drop (suc i) items = drop-cons items i 0 h in
      let y = w.same in
      record {
        within = omega arith;
        few = omega (arith, f.0, p.line_is, w.few);
        short = omega (arith, f.1, p.column_is, w.short);
        same = rw (p.line_is, p.column_is, add-one) (rw v at y);
      }

  pub counting_end : length items ≤ i → Placed (place_of s at) line column
  counting_end h =
      let y = w.same in
      let z : (line, column) ≡ place_of s at = rw (drop_of_length-le items {i = i} h) at y in
      record { line_is = ap (λ (r : ℕ × ℕ). r.0) z; column_is = ap (λ (r : ℕ × ℕ). r.1) z }
