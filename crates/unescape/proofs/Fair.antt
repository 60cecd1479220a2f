-- What every scan gives: a character or an error, and an end of the list that it was handed. One law, over what is asked of the
-- characters: that they are scalar values, that they are below 256, or nothing.
-- Assumes nothing.
use Prim.Native.Nat.{ℕ, ◌*◌, ◌+◌, ◌<◌}
use native.Mathlib.Omega.{arith}
use mathlib.Core.Path.{◌≡◌, refl, sym}
use mathlib.Core.Bool.{Bool, true, false, cond, not, ◌&&◌, false≢true}
use mathlib.Core.List.{List, [], ◌∷◌}
use lib.Dec.{eqb, leb, ltb}
use borrow.Author.Tests.{lt-ltb, ltb-true, leb-false}
use Rattle.lists.specs.Steps.{Ends}
use Rattle.lists.proofs.Bools.{by_test, on_cond, both}
use Rattle.lists.proofs.Ends.{ends_all, ends_cons, ends_then, ends_eat}
use Rattle.characters.specs.Utf8.{is_scalar}
use Rattle.modes.specs.Errors.{Outcome, char, error, zero_chars, out_of_range_hex_escape, unskipped_whitespace_warning}
use Rattle.unescape.specs.Escapes.{◌then◌, to_digit, is_hex, hex_digit, hex_escape, first_digit, more_digits, or_underscore, add_digit, code_point, closing, braced, unicode_escape, simple, escape, ascii_check}
use Rattle.unescape.specs.Bodies.{alone, is_escape_only, one_char, char_or_byte, str_char, raw_char}

-- ---- what is told
-- an error that a scan gives: any but OutOfRangeHexEscape and the two warnings
abbrev pub is_fault : ℕ → Bool
is_fault e = leb zero_chars e && (ltb e unskipped_whitespace_warning && not (eqb e out_of_range_hex_escape))

pub record Fault (e : ℕ) : Type 0 where
  pub some : leb zero_chars e ≡ true
  pub few : e < unskipped_whitespace_warning
  pub not_ten : not (eqb e out_of_range_hex_escape) ≡ true

pub fault : (e : ℕ) → is_fault e ≡ true → Fault e
fault e h =
    let p = both (leb zero_chars e) (ltb e unskipped_whitespace_warning && not (eqb e out_of_range_hex_escape)) h in
    let q = both (ltb e unskipped_whitespace_warning) (not (eqb e out_of_range_hex_escape)) p.1 in
    record { some = p.0; few = ltb-true e unskipped_whitespace_warning q.0; not_ten = q.1 }

-- a character of which Q holds, or such an error
abbrev pub Told : (ℕ → Type 0) → Outcome → Type 0
Told Q (char c) = Q c
Told Q (error e) = is_fault e ≡ true

pub record Fair (Q : ℕ → Type 0) (l : List ℕ) (x : Outcome × List ℕ) : Type 0 where
  pub told : Told Q x.0
  pub ends : Ends x.1 l

-- Q holds of what escapes give: \x.. and the simple ones below 256, \u{..} a scalar value, and that not in bytes
pub record Allows (ascii_only : Bool) (Q : ℕ → Type 0) : Type 0 where
  pub low : (c : ℕ) → c < 256 → Q c
  pub point : ascii_only ≡ false → (c : ℕ) → is_scalar c ≡ true → Q c

fair_cons : {Q : ℕ → Type 0} {l : List ℕ} {x : Outcome × List ℕ} (c : ℕ) → Fair Q l x → Fair Q (c ∷ l) x
fair_cons c f = record { told = f.told; ends = ends_cons c f.ends }

then_fair : {W Q : ℕ → Type 0} {l : List ℕ} (x : Outcome × List ℕ) (f : ℕ → List ℕ → Outcome × List ℕ) → Fair W l x → ((v : ℕ) (t : List ℕ) → W v → Fair Q t (f v t)) → Fair Q l (x then f)
then_fair (char v, t) f a h =
    let b = h v t a.told in
    record { told = b.told; ends = ends_then a.ends b.ends }
then_fair (error e, t) f a h = record { told = a.told; ends = a.ends }

-- ---- digits are below 16
digit_told : (c e : ℕ) → is_fault e ≡ true → Told (λ v. v < 16) (cond (is_hex c) (char (to_digit c)) (error e))
digit_told c e k = by_test (is_hex c) (λ h. rw h (ltb-true (to_digit c) 16 h)) (λ h. rw h k)

hex_digit_fair : (l : List ℕ) → Fair (λ v. v < 16) l (hex_digit l)
unfolding hex_digit
hex_digit_fair [] = record { told = refl; ends = ends_all _ }
hex_digit_fair (c ∷ t) = record { told = digit_told c 9 refl; ends = ends_cons _ (ends_all _) }

first_digit_fair : (l : List ℕ) → Fair (λ v. v < 16) l (first_digit l)
unfolding first_digit
first_digit_fair [] = record { told = refl; ends = ends_all _ }
first_digit_fair (c ∷ t) =
    record {
      told = by_test (eqb c 0x5F) (λ h. rw h refl) (λ h. by_test (eqb c 0x7D) (λ k. rw (h, k) refl) (λ k. rw (h, k) (digit_told c 12 refl)));
      ends = ends_cons _ (ends_all _);
    }

module _ {ascii_only : Bool} {Q : ℕ → Type 0} (a : Allows ascii_only Q) where
  -- ---- escapes
  pub hex_escape_fair : (l : List ℕ) → Fair Q l (hex_escape l)
  unfolding hex_escape
  hex_escape_fair l =
      then_fair (hex_digit l) _ (hex_digit_fair l)
      (λ hi t h. then_fair (hex_digit t) _ (hex_digit_fair t) (λ lo u k. record { told = a.low (hi * 16 + lo) (omega arith); ends = ends_all _ }))

  code_point_told : (n v : ℕ) → Told Q (code_point ascii_only n v)
  unfolding code_point
  code_point_told n v =
      on_cond (Told Q) (ltb 6 n) refl
      (by_test ascii_only (λ h. rw h refl)
      (λ h. rw h (on_cond (Told Q) (ltb 0x10FFFF v) refl
      (by_test (is_scalar v) (λ k. rw k (a.point h v k)) (λ k. rw k refl)))))

  closing_fair : (d : ℕ × ℕ) (l : List ℕ) → Fair Q l (closing ascii_only d l)
  unfolding closing
  closing_fair d [] = record { told = refl; ends = ends_all _ }
  closing_fair d (c ∷ t) =
      record { told = on_cond (Told Q) (eqb c 0x7D) (code_point_told d.0 d.1) refl; ends = ends_cons _ (ends_all _) }

  braced_fair : (l : List ℕ) → Fair Q l (braced ascii_only l)
  unfolding braced more_digits
  braced_fair l =
      then_fair (first_digit l) _ (first_digit_fair l)
      (λ v t h.
      let d = more_digits v t in
      let f = closing_fair d.0 d.1 in
      record { told = f.told; ends = ends_then (ends_eat or_underscore add_digit (1, v) t) f.ends })

  pub unicode_escape_fair : (l : List ℕ) → Fair Q l (unicode_escape ascii_only l)
  unfolding unicode_escape
  unicode_escape_fair [] = record { told = refl; ends = ends_all _ }
  unicode_escape_fair (c ∷ t) =
      on_cond (Fair Q (c ∷ t)) (eqb c 0x7B) (fair_cons c (braced_fair t)) (record { told = refl; ends = ends_cons _ (ends_all _) })

  pub simple_told : (c : ℕ) → Told Q (simple c)
  unfolding simple
  simple_told c =
      let P : Outcome → Type 0 = Told Q in
      let v : (n : ℕ) → n < 256 → Q n = a.low in
      on_cond P (eqb c 0x22) (v 0x22 (omega arith)) (on_cond P (eqb c 0x6E) (v 0x0A (omega arith))
      (on_cond P (eqb c 0x72) (v 0x0D (omega arith)) (on_cond P (eqb c 0x74) (v 0x09 (omega arith))
      (on_cond P (eqb c 0x5C) (v 0x5C (omega arith)) (on_cond P (eqb c 0x27) (v 0x27 (omega arith))
      (on_cond P (eqb c 0x30) (v 0x00 (omega arith)) refl))))))

  pub escape_fair : (l : List ℕ) → Fair Q l (escape ascii_only l)
  unfolding escape
  escape_fair [] = record { told = refl; ends = ends_all _ }
  escape_fair (c ∷ t) =
      on_cond (Fair Q (c ∷ t)) (eqb c 0x78) (fair_cons c (hex_escape_fair t))
      (on_cond (Fair Q (c ∷ t)) (eqb c 0x75) (fair_cons c (unicode_escape_fair t))
      (record { told = simple_told c; ends = ends_cons _ (ends_all _) }))

  -- ---- a character c that stands for itself
  module _ (c : ℕ) (h : ascii_only ≡ false → Q c) where
    pub ascii_told : Told Q (ascii_check ascii_only c)
    unfolding ascii_check
    ascii_told =
        by_test ascii_only
        (λ e. rw e (by_test (leb 0x80 c) (λ k. rw k refl) (λ k. rw k (a.low c (omega (arith, leb-false 0x80 c k))))))
        (λ e. rw e (h e))

    pub raw_told : Told Q (raw_char ascii_only c)
    unfolding raw_char
    raw_told = on_cond (Told Q) (eqb c 0x0D) refl ascii_told

    pub str_told : Told Q (str_char ascii_only c)
    unfolding str_char
    str_told = on_cond (Told Q) (eqb c 0x22) refl (on_cond (Told Q) (eqb c 0x0D) refl ascii_told)

    one_char_fair : (t : List ℕ) → Fair Q t (one_char ascii_only c t)
    unfolding one_char
    one_char_fair t =
        on_cond (Fair Q t) (eqb c 0x5C) (escape_fair t)
        (on_cond (Fair Q t) (is_escape_only c) (record { told = refl; ends = ends_all _ })
        (on_cond (Fair Q t) (eqb c 0x0D) (record { told = refl; ends = ends_all _ })
        (record { told = ascii_told; ends = ends_all _ })))

  alone_fair : {l : List ℕ} (x : Outcome × List ℕ) → Fair Q l x → Fair Q l (alone x)
  unfolding alone
  alone_fair (error e, t) f = f
  alone_fair (char c, []) f = f
  alone_fair (char c, x ∷ t) f = record { told = refl; ends = ends_then f.ends (ends_cons _ (ends_all _)) }

  -- Char and Byte: the first character is read
  pub char_read : (c : ℕ) (t : List ℕ) → (ascii_only ≡ false → Q c) → Fair Q t (char_or_byte ascii_only (c ∷ t))
  unfolding char_or_byte
  char_read c t h = alone_fair (one_char ascii_only c t) (one_char_fair c h t)

  pub char_told : (l : List ℕ) → (ascii_only ≡ false → (c : ℕ) → Q c) → Told Q (char_or_byte ascii_only l).0
  unfolding char_or_byte
  char_told [] h = refl
  char_told (c ∷ t) h = (char_read c t (λ e. h e c)).told

-- ---- what is asked of the characters
-- nothing
abbrev pub Any : ℕ → Type 0
Any c = Unit {0}

pub allows_any : (ascii_only : Bool) → Allows ascii_only Any
allows_any ascii_only = record { low = λ c h. tt; point = λ e c h. tt }

-- that they are scalar values
abbrev pub IsScalar : ℕ → Type 0
IsScalar c = is_scalar c ≡ true

pub allows_scalars : (ascii_only : Bool) → Allows ascii_only IsScalar
unfolding is_scalar
allows_scalars ascii_only = record { low = λ c h. rw (lt-ltb c 0xD800 (omega arith)); point = λ e c h. h }

-- that they are below 256, in bytes
allows_bytes : Allows true (λ c. c < 256)
allows_bytes = record { low = λ c h. h; point = λ e. absurd (false≢true (sym e)) }

-- in Byte mode a character that is given is below 256: the Rust's `unescape_byte` hands it to `byte_from_char`, which keeps it
pub byte_below : (l : List ℕ) (c : ℕ) → (char_or_byte true l).0 ≡ char c → c < 256
byte_below l c e = rw e at (char_told allows_bytes l (λ z. absurd (false≢true (sym z))))
