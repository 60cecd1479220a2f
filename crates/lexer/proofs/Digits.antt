-- Numbers and their suffixes, as `search` takes the laws.
-- Assumes nothing.
use Prim.Native.Nat.{ℕ, ◌≤◌, ◌<◌}
use native.Mathlib.Decide.{dec_lt}
use native.Mathlib.Omega.{arith}
use mathlib.Core.Path.{◌≡◌, refl, ap, sym, ◌∙◌}
use mathlib.Core.Bool.{Bool, true, false, not, ◌||◌, false≢true}
use mathlib.Core.List.{List, tail}
use lib.ListN.{length, drop, get_or, length-drop}
use lib.Dec.{eqb}
use borrow.Author.Tests.{eq-eqb, ne_eqb, eqb-true}
use Rattle.lists.proofs.Bools.{by_test}
use Rattle.characters.specs.Steps.{Place, Ate}
use Rattle.characters.specs.Text.{byte_length, left, skip}
use Rattle.characters.proofs.Text.{from_place, bytes_chars}
use Rattle.cutters.specs.Digits.{peek, is_digit, is_hex_digit}
use Rattle.lexer.specs.Cut.{is_e, or_underscore, met, digits, exponent, exponent_of, point, fraction, based, number, is_unit, identifier, number_suffix}
use Rattle.cutters.specs.Kinds.{int, float}
use Rattle.lexer.specs.Unicode.{start_in, more_in}
use Rattle.cutters.specs.Steps.{first_of}
use Rattle.lexer.specs.Steps.{Parted, Misplaced, Run, Read, Numbered, hex_behind}
use Rattle.lexer.proofs.Underscores.{or_placed, misplaced_then, misplaced_none, peek_byte, passed, over, over_point, over_e, over_sign, found_after}
use Rattle.lexer.proofs.Numerals.{number_stop, own_decimal, own_hex}

-- the place itself
pub stay : {s : List ℕ} {at : ℕ} → at ≤ length s → Place s at at (left s at)
stay h = record { after = omega arith; within = h; there = refl }

-- what a definition says of a place, from what the code found there
pub parted : (f : List ℕ → ℕ × List ℕ) (s : List ℕ) (at : ℕ) {kind end : ℕ} (x : ℕ × List ℕ) → f (left s at) ≡ x → kind ≡ x.0 → Place s at end x.1 → Parted f s at kind end
parted f s at x e k p = record { what = rw e k; place = rw e p }

-- digits, as a definition and as the loop that eats them
pub ate_digits : (q : ℕ → Bool) {s : List ℕ} {at end : ℕ} {any : Bool} → Ate (or_underscore q) (met q) s at false end any → Parted (digits q) s at any end
unfolding digits
ate_digits q a = record { what = a.state; place = a.place }

-- ---- the exponent
module _ (s : List ℕ) (at : ℕ) {x : ℕ} {b : Bool} (f : x ≡ peek (left s at)) (o : b ≡ (eqb x 0x2D || eqb x 0x2B)) where
  pub exponent_signed : {a found end : ℕ} {any : Bool} → b ≡ true → Place s at a (tail (left s at)) → Run is_digit false s a any found end → Read exponent s at 0 any found end
  unfolding exponent
  exponent_signed t p q =
      let h : (eqb (peek (left s at)) 0x2D || eqb (peek (left s at)) 0x2B) ≡ true = rw f at (sym o ∙ t) in
      let d = ate_digits is_digit q.ate in
      record {
        part = record {
          what = rw h (d.what ∙ ap (λ (l : List ℕ). (digits is_digit l).0) p.there);
          place = rw h (from_place p d.place (ap (λ (l : List ℕ). (digits is_digit l).1) p.there));
        };
        first = over_sign f o t p q.first;
      }

  pub exponent_plain : {found end : ℕ} {any : Bool} → b ≡ false → Run is_digit false s at any found end → Read exponent s at 0 any found end
  unfolding exponent
  exponent_plain t q =
      let h : (eqb (peek (left s at)) 0x2D || eqb (peek (left s at)) 0x2B) ≡ false = rw f at (sym o ∙ t) in
      let d = ate_digits is_digit q.ate in
      record { part = record { what = rw h d.what; place = rw h d.place }; first = q.first }

module _ (base : ℕ) {s : List ℕ} {at end kind before own found : ℕ} {any : Bool} where
  pub exponent_read : Read exponent s at 0 any own end → found ≡ first_of before own → kind ≡ float base (not any) → Read (exponent_of base) s at before kind found end
  unfolding exponent_of
  exponent_read q w k =
      record { part = record { what = k ∙ ap (λ b. float base (not b)) q.part.what; place = q.part.place }; first = found_after q.first w }

-- ---- behind a point
module _ (base : ℕ) (s : List ℕ) (at : ℕ) {x before : ℕ} {b : Bool} (f : x ≡ peek (left s at)) (o : b ≡ is_digit x) where
  pub point_none : {kind : ℕ} → b ≡ false → at ≤ length s → kind ≡ float base false → Read (point base) s at before kind before at
  unfolding point
  point_none t l k =
      let h : is_digit (peek (left s at)) ≡ false = rw f at (sym o ∙ t) in
      record { part = parted (point base) s at (float base false, left s at) (rw h) k (stay l); first = misplaced_none }

  module _ {e y own found : ℕ} {any c : Bool} (t : b ≡ true) (q : Run is_digit false s at any own e) (w : found ≡ first_of before own) (g : y ≡ peek (left s e)) (o' : c ≡ is_e y) where
    pub point_digits : {kind : ℕ} → c ≡ false → kind ≡ float base false → Read (point base) s at before kind found e
    unfolding point
    point_digits u k =
        let h : is_digit (peek (left s at)) ≡ true = rw f at (sym o ∙ t) in
        let d = ate_digits is_digit q.ate in
        let j : is_e (peek (digits is_digit (left s at)).1) ≡ false = rw (g, d.place.there) at (sym o' ∙ u) in
        record { part = parted (point base) s at (float base false, (digits is_digit (left s at)).1) (rw (h, j)) k d.place; first = found_after q.first w }

    pub point_exponent : {a end kind last : ℕ} → c ≡ true → Place s e a (tail (left s e)) → Read (exponent_of base) s a found kind last end → Read (point base) s at before kind last end
    unfolding point
    point_exponent u p r =
        let h : is_digit (peek (left s at)) ≡ true = rw f at (sym o ∙ t) in
        let d = ate_digits is_digit q.ate in
        let j : is_e (peek (digits is_digit (left s at)).1) ≡ true = rw (g, d.place.there) at (sym o' ∙ u) in
        let i = p.there ∙ ap tail d.place.there in
        record {
          part = parted (point base) s at (exponent_of base (tail (digits is_digit (left s at)).1)) (rw (h, j))
              (r.part.what ∙ ap (λ (l : List ℕ). (exponent_of base l).0) i)
              (from_place d.place (from_place p r.part.place refl) (ap (λ (l : List ℕ). (exponent_of base l).1) i));
          first = misplaced_then q.no_point (found_after q.first w) (over_e g o' u p r.first);
        }

-- ---- behind the digits
module _ (base : ℕ) (s : List ℕ) (at : ℕ) {x before : ℕ} (f : x ≡ peek (left s at)) where
  pub fraction_point : {a end kind found : ℕ} → x ≡ 0x2E → Place s at a (tail (left s at)) → Read (point base) s a before kind found end → Read (fraction base) s at before kind found end
  unfolding fraction
  fraction_point e p r =
      record {
        part = parted (fraction base) s at (point base (tail (left s at))) (rw (eq-eqb _ 0x2E (sym f ∙ e)))
            (r.part.what ∙ ap (λ (l : List ℕ). (point base l).0) p.there)
            (from_place p r.part.place (ap (λ (l : List ℕ). (point base l).1) p.there));
        first = over_point f e p r.first;
      }

  pub fraction_exponent : {a end kind found : ℕ} {b : Bool} → (x ≡ 0x2E → ⊥) → b ≡ is_e x → b ≡ true → Place s at a (tail (left s at)) → Read (exponent_of base) s a before kind found end → Read (fraction base) s at before kind found end
  unfolding fraction
  fraction_exponent n o t p r =
      let h : is_e (peek (left s at)) ≡ true = rw f at (sym o ∙ t) in
      record {
        part = parted (fraction base) s at (exponent_of base (tail (left s at))) (rw (ne_eqb _ 0x2E (λ z. n (f ∙ z)), h))
            (r.part.what ∙ ap (λ (l : List ℕ). (exponent_of base l).0) p.there)
            (from_place p r.part.place (ap (λ (l : List ℕ). (exponent_of base l).1) p.there));
        first = over_e f o t p r.first;
      }

  pub fraction_none : {kind : ℕ} {b : Bool} → (x ≡ 0x2E → ⊥) → b ≡ is_e x → b ≡ false → at ≤ length s → kind ≡ int base false → Read (fraction base) s at before kind before at
  unfolding fraction
  fraction_none n o t l k =
      let h : is_e (peek (left s at)) ≡ false = rw f at (sym o ∙ t) in
      record { part = parted (fraction base) s at (int base false, left s at) (rw (ne_eqb _ 0x2E (λ z. n (f ∙ z)), h)) k (stay l); first = misplaced_none }

module _ (base : ℕ) (any : Bool) (s : List ℕ) (at : ℕ) {before : ℕ} where
  pub based_some : {end kind found : ℕ} → any ≡ true → Read (fraction base) s at before kind found end → Read (based base any) s at before kind found end
  unfolding based
  based_some t r = record { part = parted (based base any) s at (fraction base (left s at)) (rw t) r.part.what r.part.place; first = r.first }

  pub based_none : {kind : ℕ} → any ≡ false → at ≤ length s → kind ≡ int base true → Read (based base any) s at before kind before at
  unfolding based
  based_none t l k = record { part = parted (based base any) s at (int base true, left s at) (rw t) k (stay l); first = misplaced_none }

pub ruleset numbering = (or_placed, exponent_signed, exponent_plain, exponent_read, point_none, point_digits, point_exponent, fraction_point, fraction_exponent, fraction_none, based_some, based_none)

-- ---- behind hexadecimal digits a point stands, or nothing: their run takes every e
e_hex : (b : ℕ) → is_e b ≡ true → is_hex_digit b ≡ true
unfolding is_hex_digit is_digit
e_hex b t =
    by_test (eqb b 0x65) (λ k. rw (eqb-true b 0x65 k)) (λ k. rw (eqb-true b 0x45 (rw k at t)))

module _ (base : ℕ) {s : List ℕ} {at e end own kind : ℕ} {any : Bool} (d : Run is_hex_digit true s at any own e) (r : Parted (based base any) s e kind end) where
  no_e : is_e (peek (left s e)) ≡ false
  no_e =
      let g : is_e (peek (left s e)) ≡ is_e (get_or s e 0) = rw (peek_byte s e 0x65 (omega arith), peek_byte s e 0x45 (omega arith)) in
      g ∙ by_test (is_e (get_or s e 0)) (λ t. absurd (false≢true (sym d.stop ∙ e_hex (get_or s e 0) t))) (λ t. t)

  none_behind : eqb (peek (left s e)) 0x2E ≡ false → end ≡ e
  unfolding based fraction
  none_behind n =
      let g : (based base any (left s e)).1 ≡ left s e = by_test any (λ t. rw (t, n, no_e)) (λ t. rw t) in
      omega (arith, ap byte_length (r.place.there ∙ g), bytes_chars (drop end s), bytes_chars (drop e s), length-drop end s, length-drop e s, r.place.within, r.place.after)

  pub point_behind : e < end → get_or s e 0 ≡ 0x2E
  point_behind l =
      by_test (eqb (peek (left s e)) 0x2E) (λ t. eqb-true (get_or s e 0) 0x2E (sym (peek_byte s e 0x2E (omega arith)) ∙ t)) (λ t. absurd (omega (arith, none_behind t)))

-- ---- behind a first digit
module _ (c : ℕ) (s : List ℕ) (at : ℕ) where
  from_digits : {a e end kind : ℕ} {any : Bool} (base : ℕ) (q : ℕ → Bool) (l : List ℕ) → Place s at a l → Ate (or_underscore q) (met q) s a false e any → Parted (based base any) s e kind end →
      number c (left s at) ≡ based base (digits q l).0 (digits q l).1 → Parted (number c) s at kind end
  from_digits {any = any} base q l p d r e =
      let g = ate_digits q d in
      let u = g.what ∙ ap (λ (m : List ℕ). (digits q m).0) p.there in
      let v = g.place.there ∙ ap (λ (m : List ℕ). (digits q m).1) p.there in
      parted (number c) s at (based base (digits q l).0 (digits q l).1) e
      (r.what ∙ rw (u, v))
      (from_place p (from_place g.place r.place refl) (rw (u, v)))

  -- in its own bytes, where the digits are decimal
  numbered : {kind found end : ℕ} → hex_behind c (left s at) ≡ false → Parted (number c) s at kind end → Misplaced false s at end 0 found → Numbered c s at kind found end
  numbered {end = end} h p m =
      record { part = p; first = λ start e. rw h (own_decimal m (number_stop c (left s at) s end p.place.there) start e) }

  module _ {x : ℕ} (z : c ≡ 0x30) (f : x ≡ peek (left s at)) where
    zero : eqb c 0x30 ≡ true
    zero = eq-eqb c 0x30 z

    no_x : (x ≡ 0x78 → ⊥) → hex_behind c (left s at) ≡ false
    no_x n = rw (zero, ne_eqb _ 0x78 (λ w. n (f ∙ w)))

    pub number_binary : {a own e end kind found : ℕ} {any : Bool} → x ≡ 0x62 → Place s at a (tail (left s at)) → Run is_digit false s a any own e → Read (based 0 any) s e own kind found end → Numbered c s at kind found end
    unfolding number
    number_binary i p d r =
        numbered (no_x (λ w. omega arith)) (from_digits 0 is_digit (tail (left s at)) p d.ate r.part (rw (zero, eq-eqb _ 0x62 (sym f ∙ i))))
        (over f (omega arith) (omega arith) (λ w. omega arith) refl p (misplaced_then d.no_point d.first r.first))

    pub number_octal : {a own e end kind found : ℕ} {any : Bool} → (x ≡ 0x62 → ⊥) → x ≡ 0x6F → Place s at a (tail (left s at)) → Run is_digit false s a any own e → Read (based 1 any) s e own kind found end → Numbered c s at kind found end
    unfolding number
    number_octal n i p d r =
        numbered (no_x (λ w. omega arith)) (from_digits 1 is_digit (tail (left s at)) p d.ate r.part (rw (zero, ne_eqb _ 0x62 (λ w. n (f ∙ w)), eq-eqb _ 0x6F (sym f ∙ i))))
        (over f (omega arith) (omega arith) (λ w. omega arith) refl p (misplaced_then d.no_point d.first r.first))

    -- from the x on there is no point before the end of the digits
    from_x : {a own e : ℕ} {any : Bool} → x ≡ 0x78 → Place s at a (tail (left s at)) → Run is_hex_digit true s a any own e → (k : ℕ) → at ≤ k → k < e → get_or s k 0 ≡ 0x2E → ⊥
    from_x {a} i p d k l h w =
        let b = passed f (omega arith) (omega arith) p in
        elim (dec_lt k a) [
          | yes j ↦ let y : k ≡ at = omega (arith, b.0) in absurd (omega (arith, rw y at w, b.1))
          | no j ↦ d.no_point k (omega arith) h w
        ]

    pub number_hex : {a own e end kind found : ℕ} {any : Bool} → (x ≡ 0x62 → ⊥) → (x ≡ 0x6F → ⊥) → x ≡ 0x78 → Place s at a (tail (left s at)) → Run is_hex_digit true s a any own e → Read (based 3 any) s e own kind found end → Numbered c s at kind found end
    unfolding number
    number_hex {end = end} n m i p d r =
        let h : hex_behind c (left s at) ≡ true = rw (zero, eq-eqb _ 0x78 (sym f ∙ i)) in
        let w : Parted (number c) s at _ end = from_digits 3 is_hex_digit (tail (left s at)) p d.ate r.part (rw (zero, ne_eqb _ 0x62 (λ v. n (f ∙ v)), ne_eqb _ 0x6F (λ v. m (f ∙ v)), eq-eqb _ 0x78 (sym f ∙ i))) in
        record {
          part = w;
          first = λ start e. rw h (own_hex (from_x i p d) (over f (omega arith) (omega arith) (λ v. omega arith) (rw i) p d.first) d.stop r.first (point_behind 3 d r.part) (number_stop c (left s at) s end w.place.there) start e);
        }

  plainly : {own e end kind found : ℕ} {any : Bool} → number c (left s at) ≡ fraction 2 (digits is_digit (left s at)).1 → hex_behind c (left s at) ≡ false → Run is_digit false s at any own e → Read (fraction 2) s e own kind found end → Numbered c s at kind found end
  plainly h b d r =
      let g = ate_digits is_digit d.ate in
      let v = g.place.there in
      numbered b
      (parted (number c) s at (fraction 2 (digits is_digit (left s at)).1) h
      (r.part.what ∙ ap (λ (m : List ℕ). (fraction 2 m).0) v)
      (from_place g.place r.part.place (ap (λ (m : List ℕ). (fraction 2 m).1) v)))
      (misplaced_then d.no_point d.first r.first)

  pub number_zero : {x own e end kind found : ℕ} {any : Bool} → c ≡ 0x30 → x ≡ peek (left s at) → (x ≡ 0x62 → ⊥) → (x ≡ 0x6F → ⊥) → (x ≡ 0x78 → ⊥) → Run is_digit false s at any own e → Read (fraction 2) s e own kind found end → Numbered c s at kind found end
  unfolding number
  number_zero z f n m k d r =
      plainly (rw (eq-eqb c 0x30 z, ne_eqb _ 0x62 (λ w. n (f ∙ w)), ne_eqb _ 0x6F (λ w. m (f ∙ w)), ne_eqb _ 0x78 (λ w. k (f ∙ w)))) (no_x z f k) d r

  pub number_other : {own e end kind found : ℕ} {any : Bool} → (c ≡ 0x30 → ⊥) → Run is_digit false s at any own e → Read (fraction 2) s e own kind found end → Numbered c s at kind found end
  unfolding number
  number_other z d r = plainly (rw (ne_eqb c 0x30 z)) (rw (ne_eqb c 0x30 z)) d r

-- ---- suffixes
module _ (start more s : List ℕ) (at : ℕ) {x : ℕ} {b : Bool} (f : x ≡ peek (left s at)) (o : b ≡ start_in start x) where
  pub identifier_none : b ≡ false → at ≤ length s → Place s at at (identifier (start_in start) (more_in more) (left s at))
  unfolding identifier
  identifier_none t l =
      let h : start_in start (peek (left s at)) ≡ false = rw f at (sym o ∙ t) in
      record { after = omega arith; within = l; there = rw h }

  pub identifier_eaten : {a end : ℕ} → b ≡ true → Place s at a (tail (left s at)) → Place s a end (skip (more_in more) (left s a)) → Place s at end (identifier (start_in start) (more_in more) (left s at))
  unfolding identifier
  identifier_eaten t p q =
      let h : start_in start (peek (left s at)) ≡ true = rw f at (sym o ∙ t) in
      rw h (from_place p q (ap (skip (more_in more)) p.there))

module _ (start more s : List ℕ) (at : ℕ) {b : Bool} (o : b ≡ is_unit (peek (left s at)) (peek (tail (left s at)))) where
  pub suffix_unit : b ≡ true → at ≤ length s → Place s at at (number_suffix (start_in start) (more_in more) (left s at))
  unfolding number_suffix
  suffix_unit t l = record { after = omega arith; within = l; there = rw (sym o ∙ t) }

  pub suffix_eaten : {end : ℕ} → b ≡ false → Place s at end (identifier (start_in start) (more_in more) (left s at)) → Place s at end (number_suffix (start_in start) (more_in more) (left s at))
  unfolding number_suffix
  suffix_eaten t p = rw (sym o ∙ t) p

pub ruleset suffixes = (identifier_none, identifier_eaten)
