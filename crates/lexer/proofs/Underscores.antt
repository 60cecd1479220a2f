-- Misplaced underscores, as `search` takes the laws: what the digit readers find, and what is found behind one another.
-- Assumes nothing.
use Rattle.std.specs.Prelude.{Option, Some, None}
use Rattle.std.specs.Option.{option_or}
use Rattle.std.specs.declared.num.NonZeroUsize.{NonZeroUsize}
use Prim.Native.Nat.{ℕ, suc, ◌+◌, ◌-◌, ◌≤◌, ◌<◌}
use native.Mathlib.Decide.{dec_lt}
use native.Mathlib.Omega.{arith}
use mathlib.Core.Path.{◌≡◌, refl, ap, sym, ◌∙◌}
use mathlib.Core.Bool.{Bool, true, false, not, cond, ◌&&◌, ◌||◌, false≢true}
use mathlib.Core.List.{List, ◌∷◌, tail}
use lib.ListN.{length, drop, get_or, length-drop, get_or-eq_default}
use lib.Dec.{eqb}
use borrow.Author.Tests.{eq-eqb, ne_eqb, eqb-true, lt-leb}
use Rattle.lists.proofs.Bools.{by_test, and_false, or_false, or_true}
use Rattle.characters.specs.Steps.{Place}
use Rattle.characters.specs.Text.{byte_length, left}
use Rattle.characters.proofs.Text.{decoded_point, bytes_chars}
use Rattle.characters.proofs.Ascii.{Going, going_none, going_on, going_halt, going_end, ascii_decoded}
use Rattle.cutters.specs.Digits.{peek, is_digit, is_hex_digit, digit_by}
use Rattle.cutters.specs.Underscores.{misplaced, misplaced_in}
use Rattle.cutters.specs.Steps.{first_of}
use Rattle.cutters.proofs.Underscores.{Stays, in_other, in_join}
use Rattle.lexer.specs.Cut.{is_e, or_underscore, met}
use Rattle.lexer.specs.Steps.{Misplaced, Run, place_of}
use Rattle.lexer.proofs.Bytewise.{peek_same, peek_drop, stands}

-- ---- one place behind another
pub first_then : (x y z : ℕ) → first_of (first_of x y) z ≡ first_of x (first_of y z)
first_then x y z =
    by_test (eqb x 0) (λ t. rw t) (λ t. rw (t, t))

pub first_none : (x : ℕ) → first_of x 0 ≡ x
first_none x = by_test (eqb x 0) (λ t. rw (t, eqb-true x 0 t)) (λ t. rw t)

-- the first of two places that code may hold
pub or_placed : (x y z : Option NonZeroUsize) → z ≡ option_or x y → place_of z ≡ first_of (place_of x) (place_of y)
or_placed None y z e = ap place_of e
or_placed (Some p) y z e = rw (e, ne_eqb p.value 0 (λ n. omega (arith, p.ok)))

-- over bytes with no point among them the digits stay the same
pub stays : (hex : Bool) (s : List ℕ) (at n : ℕ) → ((k : ℕ) → at ≤ k → k < at + n → get_or s k 0 ≡ 0x2E → ⊥) → Stays hex s at n
stays false s at n h k a b = refl
stays true s at n h k a b = rw (ne_eqb (get_or s k 0) 0x2E (h k a b))

module _ {hex : Bool} {s : List ℕ} {at mid end : ℕ} where
  pub misplaced_then : {x y z : ℕ} → ((k : ℕ) → at ≤ k → k < mid → get_or s k 0 ≡ 0x2E → ⊥) → Misplaced hex s at mid x y → Misplaced hex s mid end y z → Misplaced hex s at end x z
  misplaced_then {x} {y} {z} h p q =
      let a = p.after in
      let b = q.after in
      let n : end - at ≡ (mid - at) + (end - mid) = omega arith in
      let m : at + (mid - at) ≡ mid = omega arith in
      record {
        after = omega arith;
        first = λ l.
            let j : misplaced_in hex s at (end - at) ≡ first_of (misplaced_in hex s at (mid - at)) (misplaced_in hex s mid (end - mid)) =
            ap (misplaced_in hex s at) n ∙ in_join hex s (mid - at) (end - mid) at l (stays hex s at (mid - at) (λ k c d. h k c (omega arith))) ∙ rw m in
            q.first (omega arith) ∙ rw (p.first l, j, first_then);
      }

pub misplaced_none : {hex : Bool} {s : List ℕ} {at x : ℕ} → Misplaced hex s at at x x
unfolding misplaced_in
misplaced_none {hex} {s} {at} {x} =
    let e : at - at ≡ 0 = omega arith in
    record { after = omega arith; first = λ l. rw (e, first_none x) }

-- ---- a digit reader goes on
pub record Digital (digit : ℕ → Bool) : Type 0 where
  pub end : digit 0 ≡ false
  pub point : digit 0x2E ≡ false
  pub underscore : digit 0x5F ≡ false
  pub wide : (c : ℕ) → 0x80 ≤ c → or_underscore digit c ≡ false

pub digital : (hex : Bool) → Digital (digit_by hex)
unfolding is_hex_digit is_digit
digital hex =
    record {
      end = by_test hex (λ t. rw t) (λ t. rw t);
      point = by_test hex (λ t. rw t) (λ t. rw t);
      underscore = by_test hex (λ t. rw t) (λ t. rw t);
      wide = λ c h. by_test hex (λ t. rw t (simp (ne_eqb c 0x5F (λ e. omega arith), lt-leb c 0x39 (omega arith), lt-leb c 0x46 (omega arith), lt-leb c 0x66 (omega arith), and_false))) (λ t. rw t (simp (ne_eqb c 0x5F (λ e. omega arith), lt-leb c 0x39 (omega arith), and_false)));
    }

pub record Reading (digit : ℕ → Bool) (hex : Bool) (s : List ℕ) (at₀ : ℕ) (any₀ : Bool) (found₀ at : ℕ) (any : Bool) (found : ℕ) : Type 0 where
  pub going : Going (or_underscore digit) (met digit) s at₀ any₀ at any
  pub first : Misplaced hex s at₀ at found₀ found
  pub no_point : (k : ℕ) → at₀ ≤ k → k < at → get_or s k 0 ≡ 0x2E → ⊥

pub reading_none : {digit : ℕ → Bool} {hex : Bool} {s : List ℕ} {at : ℕ} {any : Bool} {found : ℕ} → at ≤ length s → Reading digit hex s at any found at any found
reading_none l = record { going = going_none l; first = misplaced_none; no_point = λ k a b. absurd (omega arith) }

misplaced_one : {hex : Bool} {s : List ℕ} {at at' x y : ℕ} → at' ≡ at + 1 → y ≡ first_of x (cond (misplaced (digit_by hex) s at) at 0) → Misplaced hex s at at' x y
unfolding misplaced_in
misplaced_one {hex} {s} {at} {at'} e f =
    let n : at' - at ≡ 1 = omega arith in
    record { after = omega arith; first = λ l. rw n f }

module _ {digit : ℕ → Bool} {hex : Bool} (q : Digital digit) {s : List ℕ} {at₀ : ℕ} {any₀ : Bool} {found₀ at : ℕ} {any : Bool} {found b : ℕ} (e : Reading digit hex s at₀ any₀ found₀ at any found) (v : b ≡ get_or s at 0) (l : at < length s) where
  -- one byte more, which is no point
  further : {any' : Bool} {at' found' : ℕ} → (b ≡ 0x2E → ⊥) → or_underscore digit b ≡ true → at' ≡ at + 1 → any' ≡ met digit any b → found' ≡ first_of found (cond (misplaced (digit_by hex) s at) at 0) → Reading digit hex s at₀ any₀ found₀ at' any' found'
  further n t u w f =
      record {
        going = going_on e.going v l (sym t) refl u w;
        first = misplaced_then e.no_point e.first (misplaced_one u f);
        no_point = λ k a h z. elim (dec_lt k at) [ yes i ↦ e.no_point k a i z | no i ↦ n (v ∙ ap (λ (j : ℕ). get_or s j 0) (here k (omega arith) (omega arith)) ∙ z) ];
      }
    where
      here : (k : ℕ) → at ≤ k → k < at + 1 → at ≡ k
      here k a h = omega arith

  pub reading_underscore : {any' : Bool} {at' m found' : ℕ} → b ≡ 0x5F → m ≡ first_of found (cond (misplaced (digit_by hex) s at) at 0) → found' ≡ m → any' ≡ any → at' ≡ at + 1 → Reading digit hex s at₀ any₀ found₀ at' any' found'
  reading_underscore z f g w u =
      let n : b ≡ 0x2E → ⊥ = λ y. omega arith in
      let o : any ≡ met digit any b = rw (z, q.underscore, or_false) in
      further n (rw z) u (w ∙ o) (g ∙ f)

  pub reading_digit : {f any' : Bool} {at' found' : ℕ} → (b ≡ 0x5F → ⊥) → f ≡ digit b → f ≡ true → any' ≡ true → found' ≡ found → at' ≡ at + 1 → Reading digit hex s at₀ any₀ found₀ at' any' found'
  reading_digit {f} n g t w i u =
      let d : digit b ≡ true = sym g ∙ t in
      let m : b ≡ 0x2E → ⊥ = λ y. false≢true (sym q.point ∙ ap digit (sym y) ∙ d) in
      let o : misplaced (digit_by hex) s at ≡ false = rw (← v, ne_eqb b 0x5F n) in
      further m (rw (d, or_true)) u (w ∙ rw (d, or_true)) (i ∙ rw (o, first_none))

-- where it stops
module _ {digit : ℕ → Bool} {hex : Bool} {s : List ℕ} {at₀ at : ℕ} {any : Bool} {found : ℕ} (q : Digital digit) (e : Reading digit hex s at₀ false 0 at any found) where
  pub reading_halt : {b : ℕ} {f : Bool} → b ≡ get_or s at 0 → at < length s → (b ≡ 0x5F → ⊥) → f ≡ digit b → f ≡ false → Run digit hex s at₀ any found at
  reading_halt {b} {f} v l n g t =
      let o : f ≡ or_underscore digit b = rw (ne_eqb b 0x5F n) g in
      record {
        ate = going_halt q.wide e.going v l o t;
        first = e.first;
        no_point = e.no_point;
        stop = rw v at (sym g ∙ t);
      }

  pub reading_end : length s ≤ at → Run digit hex s at₀ any found at
  reading_end l =
      record {
        ate = going_end q.wide e.going l;
        first = e.first;
        no_point = e.no_point;
        stop = ap digit (get_or-eq_default s 0 {n = at} l) ∙ q.end;
      }

-- the place that code holds in the next turn is the one that it stored
pub placed : (x y : Option NonZeroUsize) → x ≡ y → place_of x ≡ place_of y
placed x y = ap place_of

pub ruleset reading = (placed, reading_none, reading_underscore, reading_digit, reading_halt, reading_end, digital)

-- ---- what stands between the runs
-- what is peeked and the byte there pass the same tests for ASCII
pub peek_byte : (s : List ℕ) (at k : ℕ) → k < 0x80 → eqb (peek (left s at)) k ≡ eqb (get_or s at 0) k
peek_byte s at k h = peek_same (drop at s) k h ∙ ap (λ (b : ℕ). eqb b k) (peek_drop at s)

-- a character of ASCII that was passed over: its byte, and the place behind it
pub passed : {s : List ℕ} {at a x : ℕ} → x ≡ peek (left s at) → 1 ≤ x → x < 0x80 → Place s at a (tail (left s at)) → (a ≡ at + 1) × (get_or s at 0 ≡ x)
passed {s} {at} {a} {x} f l h p =
    let b : get_or s at 0 ≡ x = eqb-true (get_or s at 0) x (sym (peek_byte s at x h) ∙ eq-eqb (peek (left s at)) x (sym f)) in
    let n : at < length s = stands at s (omega arith) in
    let k : get_or s at 0 < 0x80 = omega arith in
    let v : left s at ≡ get_or s at 0 ∷ left s (at + 1) = (decoded_point (ascii_decoded refl n k) n).view in
    let e : left s a ≡ left s (at + 1) = p.there ∙ ap tail v in
    (omega (arith, ap byte_length e, bytes_chars (drop a s), bytes_chars (drop (at + 1) s), length-drop a s, length-drop (at + 1) s, p.within), b)

-- one that is no underscore and does not change the digits
pub over : {hex : Bool} {s : List ℕ} {at a end x y z : ℕ} → x ≡ peek (left s at) → 1 ≤ x → x < 0x80 → (x ≡ 0x5F → ⊥) → (hex && not (eqb x 0x2E)) ≡ hex → Place s at a (tail (left s at)) → Misplaced hex s a end y z → Misplaced hex s at end y z
over {hex} {s} {at} {a} {end} {x} {y} {z} f l h n g p m =
    let q = passed f l h p in
    let o = m.after in
    let e : end - at ≡ suc (end - a) = omega (arith, q.0) in
    let b : suc at ≡ a = omega (arith, q.0) in
    let i : misplaced_in hex s at (end - at) ≡ misplaced_in hex s a (end - a) =
    ap (misplaced_in hex s at) e ∙ in_other hex s at (end - a) (λ k. n (sym q.1 ∙ k)) ∙ rw (q.1, g, b) in
    record { after = omega (arith, q.0); first = λ k. m.first (omega (arith, q.0)) ∙ rw i }

module _ {s : List ℕ} {at a end x y z : ℕ} (f : x ≡ peek (left s at)) where
  -- one that is known
  over_one : (k : ℕ) → 1 ≤ k → k < 0x80 → (k ≡ 0x5F → ⊥) → x ≡ k → Place s at a (tail (left s at)) → Misplaced false s a end y z → Misplaced false s at end y z
  over_one k l h n e = over f (omega arith) (omega arith) (λ j. n (sym e ∙ j)) refl

  pub over_point : x ≡ 0x2E → Place s at a (tail (left s at)) → Misplaced false s a end y z → Misplaced false s at end y z
  over_point = over_one 0x2E (omega arith) (omega arith) (λ j. omega arith)

  pub over_e : {b : Bool} → b ≡ is_e x → b ≡ true → Place s at a (tail (left s at)) → Misplaced false s a end y z → Misplaced false s at end y z
  over_e o t =
      by_test (eqb x 0x65) (λ k. over_one 0x65 (omega arith) (omega arith) (λ j. omega arith) (eqb-true x 0x65 k))
      (λ k. over_one 0x45 (omega arith) (omega arith) (λ j. omega arith) (eqb-true x 0x45 (rw k at (sym o ∙ t))))

  pub over_sign : {b : Bool} → b ≡ (eqb x 0x2D || eqb x 0x2B) → b ≡ true → Place s at a (tail (left s at)) → Misplaced false s a end y z → Misplaced false s at end y z
  over_sign o t =
      by_test (eqb x 0x2D) (λ k. over_one 0x2D (omega arith) (omega arith) (λ j. omega arith) (eqb-true x 0x2D k))
      (λ k. over_one 0x2B (omega arith) (omega arith) (λ j. omega arith) (eqb-true x 0x2B (rw k at (sym o ∙ t))))

-- behind what was found before
pub found_after : {hex : Bool} {s : List ℕ} {at end x y z : ℕ} → Misplaced hex s at end 0 y → z ≡ first_of x y → Misplaced hex s at end x z
found_after m e = record { after = m.after; first = λ l. e ∙ rw (m.first l) }
