-- What each scanner answers at each of its returns, as `search` takes the laws.
-- Assumes nothing.
use Prim.Native.Nat.{ℕ, ◌+◌, ◌*◌, ◌<◌}
use native.Mathlib.Omega.{arith}
use mathlib.Core.Path.{◌≡◌, refl, ap}
use mathlib.Core.Bool.{Bool}
use mathlib.Core.List.{List}
use borrow.Author.Tests.{lt-ltb, le-ltb, ne_eqb}
use Rattle.std.specs.Prelude.{Option, Some, None, Result, Ok, Err, IfOk}
use Rattle.std.specs.Option.{ok_or}
use Rattle.modes.specs.declared.errors.EscapeError.{EscapeError}
use Rattle.modes.specs.declared.errors.EscapeError.TheVariants as bad
use Rattle.modes.specs.Errors.{Outcome, char, error}
use Rattle.unescape.specs.Chars.{Next}
use Rattle.unescape.specs.Escapes.{◌then◌, to_digit, hex_digit, hex_escape, first_digit, or_underscore, add_digit, more_digits, code_point, closing, braced, unicode_escape, simple, escape}
use Rattle.unescape.specs.Steps.{is_digit, Scanned, AteOn}
use Rattle.modes.specs.Numbers.{outcome_of}
use Rattle.unescape.proofs.Scans.{scanned_end, scanned_char, scanned_on, then_error, then_value}

module _ {s s' : List ℕ} {at end : ℕ} {x : Option ℕ} (n : Next s at x s' end) {r : Result ℕ EscapeError} where
  -- ---- at the end
  module _ (k : x ≡ None) where
    pub hex_none : r ≡ Err bad.TooShortHexEscape → Scanned hex_digit s at r s' end
    unfolding hex_digit
    hex_none e = scanned_end n hex_digit k refl e

    pub first_none : r ≡ Err bad.UnclosedUnicodeEscape → Scanned first_digit s at r s' end
    unfolding first_digit
    first_none e = scanned_end n first_digit k refl e

    pub closing_none : (ascii_only : Bool) (d : ℕ × ℕ) → r ≡ Err bad.UnclosedUnicodeEscape → Scanned (closing ascii_only d) s at r s' end
    unfolding closing
    closing_none ascii_only d e = scanned_end n (closing ascii_only d) k refl e

    pub unicode_none : (ascii_only : Bool) → r ≡ Err bad.NoBraceInUnicodeEscape → Scanned (unicode_escape ascii_only) s at r s' end
    unfolding unicode_escape
    unicode_none ascii_only e = scanned_end n (unicode_escape ascii_only) k refl e

    pub escape_none : (ascii_only : Bool) → r ≡ Err bad.LoneSlash → Scanned (escape ascii_only) s at r s' end
    unfolding escape
    escape_none ascii_only e = scanned_end n (escape ascii_only) k refl e

  -- ---- by one character
  module _ {c : ℕ} (k : x ≡ Some c) where
    pub hex_read : (d : Option ℕ) → is_digit c d → r ≡ ok_or d bad.InvalidCharInHexEscape → (Scanned hex_digit s at r s' end) × IfOk r (λ v. v < 16)
    unfolding hex_digit
    hex_read None e w =
        (scanned_char n hex_digit k (error 9) (λ t. rw (le-ltb (to_digit c) 16 (omega (arith, e)))) (ap outcome_of w), rw w tt)
    hex_read (Some v) e w =
        (scanned_char n hex_digit k (char v) (λ t. rw (lt-ltb (to_digit c) 16 (omega (arith, e.0, e.1)), ← e.0)) (ap outcome_of w), rw w e.1)

    pub first_underscore : c ≡ 0x5F → r ≡ Err bad.LeadingUnderscoreUnicodeEscape → Scanned first_digit s at r s' end
    unfolding first_digit
    first_underscore h w = scanned_char n first_digit k (error 15) (λ t. rw h) (ap outcome_of w)

    pub first_brace : c ≡ 0x7D → r ≡ Err bad.EmptyUnicodeEscape → Scanned first_digit s at r s' end
    unfolding first_digit
    first_brace h w = scanned_char n first_digit k (error 13) (λ t. rw h) (ap outcome_of w)

    pub first_read : (c ≡ 0x5F → ⊥) → (c ≡ 0x7D → ⊥) → (d : Option ℕ) → is_digit c d → r ≡ ok_or d bad.InvalidCharInUnicodeEscape → (Scanned first_digit s at r s' end) × IfOk r (λ v. v < 16)
    unfolding first_digit
    first_read g h None e w =
        (scanned_char n first_digit k (error 12) (λ t. rw (ne_eqb c 0x5F g, ne_eqb c 0x7D h, le-ltb (to_digit c) 16 (omega (arith, e)))) (ap outcome_of w), rw w tt)
    first_read g h (Some v) e w =
        (scanned_char n first_digit k (char v) (λ t. rw (ne_eqb c 0x5F g, ne_eqb c 0x7D h, lt-ltb (to_digit c) 16 (omega (arith, e.0, e.1)), ← e.0)) (ap outcome_of w), rw w e.1)

    module _ (ascii_only : Bool) where
      pub closing_bad : (d : ℕ × ℕ) → (c ≡ 0x7D → ⊥) → r ≡ Err bad.InvalidCharInUnicodeEscape → Scanned (closing ascii_only d) s at r s' end
      unfolding closing
      closing_bad d h w = scanned_char n (closing ascii_only d) k (error 12) (λ t. rw (ne_eqb c 0x7D h)) (ap outcome_of w)

      pub closing_fine : (count value : ℕ) → c ≡ 0x7D → outcome_of r ≡ code_point ascii_only count value → Scanned (closing ascii_only (count, value)) s at r s' end
      unfolding closing
      closing_fine count value h w = scanned_char n (closing ascii_only (count, value)) k (code_point ascii_only count value) (λ t. rw h) w

      pub escape_simple : (c ≡ 0x78 → ⊥) → (c ≡ 0x75 → ⊥) → outcome_of r ≡ simple c → Scanned (escape ascii_only) s at r s' end
      unfolding escape
      escape_simple g h w = scanned_char n (escape ascii_only) k (simple c) (λ t. rw (ne_eqb c 0x78 g, ne_eqb c 0x75 h)) w

      pub unicode_bad : (c ≡ 0x7B → ⊥) → r ≡ Err bad.NoBraceInUnicodeEscape → Scanned (unicode_escape ascii_only) s at r s' end
      unfolding unicode_escape
      unicode_bad h w = scanned_char n (unicode_escape ascii_only) k (error 11) (λ t. rw (ne_eqb c 0x7B h)) (ap outcome_of w)

      -- and what is behind it
      module _ {s'' : List ℕ} {end' : ℕ} where
        pub escape_hex : c ≡ 0x78 → Scanned hex_escape s' end r s'' end' → Scanned (escape ascii_only) s at r s'' end'
        unfolding escape
        escape_hex h q = scanned_on n (escape ascii_only) k hex_escape (λ t. rw h) q

        pub escape_unicode : c ≡ 0x75 → Scanned (unicode_escape ascii_only) s' end r s'' end' → Scanned (escape ascii_only) s at r s'' end'
        unfolding escape
        escape_unicode h q = scanned_on n (escape ascii_only) k (unicode_escape ascii_only) (λ t. rw h) q

        pub unicode_open : c ≡ 0x7B → Scanned (braced ascii_only) s' end r s'' end' → Scanned (unicode_escape ascii_only) s at r s'' end'
        unfolding unicode_escape
        unicode_open h q = scanned_on n (unicode_escape ascii_only) k (braced ascii_only) (λ t. rw h) q

-- ---- two digits of \x
second : ℕ → List ℕ → Outcome × List ℕ
second hi t = hex_digit t then (λ lo u. (char (hi * 16 + lo), u))

module _ {s s' : List ℕ} {at end : ℕ} {r : Result ℕ EscapeError} (q : Scanned hex_digit s at r s' end) {r'' : Result ℕ EscapeError} where
  pub hex_error : {e : EscapeError} → r ≡ Err e → r'' ≡ Err e → Scanned hex_escape s at r'' s' end
  unfolding hex_escape second
  hex_error k w = then_error hex_escape hex_digit second (λ l. refl) q k w

  module _ {hi : ℕ} (k : r ≡ Ok hi) {s'' : List ℕ} {end' : ℕ} {r' : Result ℕ EscapeError} (q' : Scanned hex_digit s' end r' s'' end') where
    pub hex_short : {e : EscapeError} → r' ≡ Err e → r'' ≡ Err e → Scanned hex_escape s at r'' s'' end'
    unfolding hex_escape second
    hex_short k' w =
        then_value hex_escape hex_digit second (λ l. refl) q k
        (then_error (second hi) hex_digit (λ lo u. (char (hi * 16 + lo), u)) (λ l. refl) q' k' w)

    pub hex_pair : {lo : ℕ} → r' ≡ Ok lo → r'' ≡ Ok (hi * 16 + lo) → Scanned hex_escape s at r'' s'' end'
    unfolding hex_escape second
    hex_pair {lo} k' w =
        let p = q'.place in
        then_value hex_escape hex_digit second (λ l. refl) q k
        (then_value (second hi) hex_digit (λ lo u. (char (hi * 16 + lo), u)) (λ l. refl) q' k'
        (record { same = refl; what = ap outcome_of w; place = record { after = omega arith; within = rw q'.same p.within; there = refl } }))

-- ---- \u{..}
behind : Bool → ℕ → List ℕ → Outcome × List ℕ
behind ascii_only v t = closing ascii_only (more_digits v t).0 (more_digits v t).1

module _ (ascii_only : Bool) {s s' : List ℕ} {at end : ℕ} {r : Result ℕ EscapeError} (q : Scanned first_digit s at r s' end) {r' : Result ℕ EscapeError} where
  pub braced_error : {e : EscapeError} → r ≡ Err e → r' ≡ Err e → Scanned (braced ascii_only) s at r' s' end
  unfolding braced behind
  braced_error k w = then_error (braced ascii_only) first_digit (behind ascii_only) (λ l. refl) q k w

  pub braced_value : {v next count value end' : ℕ} {t t' : List ℕ} → r ≡ Ok v → AteOn or_underscore add_digit s' end (1, v) t next (count, value) → Scanned (closing ascii_only (count, value)) t next r' t' end' → Scanned (braced ascii_only) s at r' t' end'
  unfolding braced behind more_digits
  braced_value {v} k a z' =
      let z = rw a.same at z' in
      let p = a.ate.place in
      then_value (braced ascii_only) first_digit (behind ascii_only) (λ l. refl) q k
      (record {
        same = z.same;
        what = rw (← a.ate.state, ← p.there) z.what;
        place = rw (← a.ate.state, ← p.there) (record { after = omega (arith, p.after, z.place.after); within = z.place.within; there = z.place.there });
      })

pub ruleset scanning = (hex_none, first_none, closing_none, unicode_none, escape_none, hex_read, first_underscore, first_brace, first_read, closing_bad, closing_fine, escape_simple, unicode_bad, escape_hex, escape_unicode, unicode_open, hex_error, hex_short, hex_pair, braced_error, braced_value)
