-- One turn over a body, and the one character of Char and Byte, as `search` takes the laws.
-- Assumes nothing.
use Prim.Native.Nat.{ℕ, ◌-◌, ◌≤◌, ◌<◌}
use native.Mathlib.Omega.{arith}
use mathlib.Core.Path.{◌≡◌, refl, ap, sym, ◌∙◌}
use mathlib.Core.Bool.{Bool, true, false, false≢true}
use mathlib.Core.List.{List, [], ◌∷◌}
use lib.ListN.{length, length-drop, drop}
use borrow.Author.Tests.{eq-eqb, ne_eqb}
use Rattle.std.specs.Prelude.{Option, Some, None, Result, Ok, Err}
use Rattle.std.specs.Bool.{then_some}
use Rattle.std.specs.Option.{is_some}
use Rattle.lists.specs.Eat.{eat}
use Rattle.lists.proofs.Bools.{by_test}
use Rattle.ucd.specs.Properties.{is_white_space}
use Rattle.characters.specs.Text.{byte_length, left}
use Rattle.characters.specs.Steps.{Place}
use Rattle.characters.proofs.Text.{bytes_chars}
use Rattle.unescape.specs.declared.bodies.Step.{Step}
use Rattle.modes.specs.declared.errors.EscapeError.{EscapeError}
use Rattle.modes.specs.declared.errors.EscapeError.TheVariants as bad
use Rattle.modes.specs.Numbers.{error_number, outcome_of}
use Rattle.modes.specs.Modes.{is_raw, characters_should_be_ascii}
use Rattle.modes.specs.Errors.{Outcome, char, error, number, multiple_skipped_lines_warning}
use Rattle.unescape.specs.Chars.{rest_of, Next}
use Rattle.unescape.specs.Escapes.{hex_escape, unicode_escape, simple, escape, ascii_check}
use Rattle.unescape.specs.Bodies.{given, alone, is_escape_only, one_char, char_or_byte, str_char, raw_char, is_skipped, saw_lf, one, unskipped, skipped, slashed, str_common, raw_str, turn}
use Rattle.unescape.specs.Steps.{step_of, item_from, space_from, Scanned, AteOn, Stepped, Behind, From}
use Rattle.unescape.proofs.Scans.{next_none, next_some, next_onward, scanned_end, scanned_same, scanned_stay}
use Rattle.unescape.proofs.Escaping.{escape_none, escape_hex, escape_unicode, escape_simple}

-- ---- the place of what is left
pub place_of : (s : List ℕ) (at : ℕ) → at ≤ length s → length s - byte_length (left s at) ≡ at
place_of s at h = omega (arith, bytes_chars (drop at s), length-drop at s)

-- a turn of one item
one_step : {s s' : List ℕ} {start end : ℕ} (read : Result ℕ EscapeError) {x : Outcome × List ℕ} → s' ≡ s → outcome_of read ≡ x.0 → Place s start end x.1 → start < end → Stepped (one (length s) (left s start) x) s start (step_of read) s' end
one_step {s} {start = start} {end = end} read {x} e w p l =
    record {
      same = e;
      gives = rw (← w, ← p.there, place_of s start (omega (arith, p.within)), place_of s end p.within);
      place = p;
      onward = l;
      inside = tt;
    }

pub scan_step : (f : List ℕ → Outcome × List ℕ) {s s' : List ℕ} {at end : ℕ} {read : Result ℕ EscapeError} {r : Step} → Scanned f s at read s' end → r ≡ step_of read → Behind (λ from. one (length s) from (f (left s at))) s at r s' end
scan_step f {read = read} q e start l =
    let p = q.place in
    rw e (one_step read q.same q.what (record { after = omega (arith, p.after); within = p.within; there = p.there }) (omega (arith, p.after)))

-- ---- by the first character
module _ {s : List ℕ} {at : ℕ} (c : ℕ) (k : at ≤ length s) (ascii_only : Bool) {r : Step} where
  char_step : (o : Outcome) {read : Result ℕ EscapeError} → outcome_of read ≡ o → r ≡ step_of read → (start : ℕ) → start < at → left s start ≡ c ∷ left s at → Stepped (one (length s) (c ∷ left s at) (o, left s at)) s start r s at
  char_step o {read} e f start l v =
      rw f (rw v at (one_step {start = start} read {x = (o, left s at)} refl e (record { after = omega arith; within = k; there = refl }) l))

  pub raw_step : {read : Result ℕ EscapeError} → outcome_of read ≡ raw_char ascii_only c → r ≡ step_of read → From (raw_str (length s) ascii_only) c s at r s at
  unfolding raw_str
  raw_step e f = char_step (raw_char ascii_only c) e f

  pub str_step : {read : Result ℕ EscapeError} → (c ≡ 0x5C → ⊥) → outcome_of read ≡ str_char ascii_only c → r ≡ step_of read → From (str_common (length s) ascii_only) c s at r s at
  unfolding str_common
  str_step n e f start l v = rw (ne_eqb c 0x5C n) (char_step (str_char ascii_only c) e f start l v)

pub str_slash : {s s' : List ℕ} {at end : ℕ} (c : ℕ) (ascii_only : Bool) {r : Step} → c ≡ 0x5C → Behind (λ from. slashed (length s) ascii_only from (left s at)) s at r s' end → From (str_common (length s) ascii_only) c s at r s' end
unfolding str_common
str_slash c ascii_only h b start l v = rw (eq-eqb c 0x5C h) (rw v at (b start l))

-- ---- behind a backslash
module _ {s s₁ : List ℕ} {at at₁ : ℕ} {x : Option ℕ} (ascii_only : Bool) (n : Next s at x s₁ at₁) {r : Step} where
  pub slash_none : x ≡ None → r ≡ step_of (Err bad.LoneSlash) → Behind (λ from. slashed (length s) ascii_only from (left s at)) s at r s₁ at₁
  unfolding slashed
  slash_none k e start l =
      let v = next_none n k in
      rw v (rw v at (scan_step (escape ascii_only) (escape_none n k ascii_only refl) e start l))

  module _ {c : ℕ} (k : x ≡ Some c) {s₂ : List ℕ} {at₂ : ℕ} where
    pub slash_skip : c ≡ 0x0A → Behind (λ from. skipped (length s₁) from (eat is_skipped saw_lf false (left s₁ at₁))) s₁ at₁ r s₂ at₂ → Behind (λ from. slashed (length s) ascii_only from (left s at)) s at r s₂ at₂
    unfolding slashed
    slash_skip h b' start l =
        let b = rw n.same at (b' start (omega (arith, n.place.after))) in
        rw (next_some n k, eq-eqb c 0x0A h) b

    pub slash_escape : {read : Result ℕ EscapeError} → (c ≡ 0x0A → ⊥) → Scanned (escape ascii_only) s at read s₂ at₂ → r ≡ step_of read → Behind (λ from. slashed (length s) ascii_only from (left s at)) s at r s₂ at₂
    unfolding slashed
    slash_escape h q e start l =
        let v = next_some n k in
        rw (v, ne_eqb c 0x0A h) (rw v at (scan_step (escape ascii_only) q e start l))

    pub slash_hex : {read : Result ℕ EscapeError} → c ≡ 0x78 → Scanned hex_escape s₁ at₁ read s₂ at₂ → r ≡ step_of read → Behind (λ from. slashed (length s) ascii_only from (left s at)) s at r s₂ at₂
    slash_hex h q e = slash_escape (λ z. omega arith) (escape_hex n k ascii_only h q) e

    pub slash_unicode : {read : Result ℕ EscapeError} → c ≡ 0x75 → Scanned (unicode_escape ascii_only) s₁ at₁ read s₂ at₂ → r ≡ step_of read → Behind (λ from. slashed (length s) ascii_only from (left s at)) s at r s₂ at₂
    slash_unicode h q e = slash_escape (λ z. omega arith) (escape_unicode n k ascii_only h q) e

  pub slash_simple : {c : ℕ} {read : Result ℕ EscapeError} → x ≡ Some c → (c ≡ 0x0A → ⊥) → (c ≡ 0x78 → ⊥) → (c ≡ 0x75 → ⊥) → outcome_of read ≡ simple c → r ≡ step_of read → Behind (λ from. slashed (length s) ascii_only from (left s at)) s at r s₁ at₁
  slash_simple k h g m q e = slash_escape k h (escape_simple n k ascii_only g m q) e

-- ---- behind a backslash and a newline
-- whether the next character is white space
abbrev pub white_next : Option ℕ → Bool
white_next None = false
white_next (Some c) = is_white_space c

unskipped_is : {s s' : List ℕ} {start at past : ℕ} {x : Option ℕ} → Next s at x s' past → start ≤ length s →
    unskipped (length s) (left s start) (left s at) ≡ space_from start (then_some (white_next x) past)
unfolding unskipped
unskipped_is {s} {start = start} {at = at} {past = past} {x = x} n k =
    elim x as (λ z. x ≡ z → unskipped (length s) (left s start) (left s at) ≡ space_from start (then_some (white_next z) past)) [
      | None ↦ λ z. rw (next_none n z)
      | Some c ↦ λ z.
          rw (next_some n z, place_of s start k, place_of s past n.place.within)
          (by_test (is_white_space c) (λ t. rw t) (λ t. rw t))
    ] refl

lines_is : (lines : Bool) (start end : ℕ) → given lines (record { start = start; end = end; outcome = number (error multiple_skipped_lines_warning) }) ≡ item_from start (then_some lines (Err bad.MultipleSkippedLinesWarning)) end
lines_is true start end = refl
lines_is false start end = refl

pub skip_step : {s s₁ s₂ : List ℕ} {at end past : ℕ} {lines white : Bool} {x : Option ℕ} {r : Step} → AteOn is_skipped saw_lf s at false s₁ end lines → Next s₁ end x s₂ past → white ≡ white_next x → r ≡ record { item = then_some lines (Err bad.MultipleSkippedLinesWarning); space = then_some white past } →
    Behind (λ from. skipped (length s) from (eat is_skipped saw_lf false (left s at))) s at r s₁ end
unfolding skipped
skip_step {s} {at = at} {end = end} {past = past} {lines = lines} {white = white} {x = x} a n' o e start l =
    let n = rw a.same at n' in
    let p = a.ate.place in
    rw e (record {
      same = a.same;
      gives = rw (← a.ate.state, ← p.there, place_of s start (omega (arith, p.within, p.after)), place_of s end p.within, o, lines_is lines start end, unskipped_is {start = start} n (omega (arith, p.within, p.after)));
      place = record { after = omega (arith, p.after); within = p.within; there = p.there };
      onward = omega (arith, p.after);
      inside = by_test white (λ t. rw t n.place.within) (λ t. rw t tt);
    })

-- ---- any mode
module _ {s s' : List ℕ} {at end : ℕ} {r : Step} (mode c : ℕ) {b : Bool} (o : b ≡ is_raw mode) where
  pub turn_raw : b ≡ true → From (raw_str (length s) (characters_should_be_ascii mode)) c s at r s' end → From (turn mode (length s)) c s at r s' end
  unfolding turn
  turn_raw t q start l v = rw (sym o ∙ t) (q start l v)

  pub turn_str : b ≡ false → From (str_common (length s) (characters_should_be_ascii mode)) c s at r s' end → From (turn mode (length s)) c s at r s' end
  unfolding turn
  turn_str t q start l v = rw (sym o ∙ t) (q start l v)

-- a turn at a place of s, and what stands there; at the end, nothing
pub turn_none : {s t s₁ : List ℕ} {start at at₁ : ℕ} {x : Option ℕ} → t ≡ s → start ≡ at → Next t at x s₁ at₁ → x ≡ None → left s start ≡ []
turn_none {s} {s₁ = s₁} {start = start} {at₁ = at₁} {x = x} e u n' k =
    let n : Next s start x s₁ at₁ = rw u (rw e at n') in
    next_none n k

module _ {s t s₁ : List ℕ} {start at at₁ c : ℕ} {x : Option ℕ} (e : t ≡ s) (u : start ≡ at) (n' : Next t at x s₁ at₁) (k : x ≡ Some c) where
  n : Next s start x s₁ at₁
  n = rw u (rw e at n')

  pub turn_view : left s start ≡ c ∷ left s at₁
  turn_view = next_some n k

  pub turn_at : {s₂ : List ℕ} {end : ℕ} {r : Step} (mode : ℕ) → From (turn mode (length s₁)) c s₁ at₁ r s₂ end → Stepped (turn mode (length s) c (left s at₁)) s start r s₂ end
  turn_at mode q' = let q = rw n.same at q' in q _ (next_onward n k) turn_view

-- ---- the one character of Char and Byte
only_slash : is_escape_only 0x5C ≡ true → ⊥
only_slash e = false≢true e

module _ {s : List ℕ} {at : ℕ} (c : ℕ) (ascii_only : Bool) where
  pub one_escape : {s' : List ℕ} {end : ℕ} {r : Result ℕ EscapeError} → c ≡ 0x5C → Scanned (escape ascii_only) s at r s' end → Scanned (one_char ascii_only c) s at r s' end
  unfolding one_char
  one_escape h q = scanned_same (one_char ascii_only c) (λ l. rw (eq-eqb c 0x5C h)) q

  module _ (k : at ≤ length s) where
    pub one_only : is_escape_only c ≡ true → Scanned (one_char ascii_only c) s at (Err bad.EscapeOnlyChar) s at
    unfolding one_char
    one_only t =
        scanned_stay (one_char ascii_only c) k (λ l. rw (ne_eqb c 0x5C (λ (e : c ≡ 0x5C). only_slash (rw e at t)), t))

    pub one_return : c ≡ 0x0D → Scanned (one_char ascii_only c) s at (Err bad.BareCarriageReturn) s at
    unfolding one_char
    one_return h = scanned_stay (one_char ascii_only c) k (λ l. rw h)

    pub one_ascii : {r : Result ℕ EscapeError} → (c ≡ 0x5C → ⊥) → is_escape_only c ≡ false → (c ≡ 0x0D → ⊥) → outcome_of r ≡ ascii_check ascii_only c → Scanned (one_char ascii_only c) s at r s at
    unfolding one_char
    one_ascii n t m e =
        scanned_stay (one_char ascii_only c) k (λ l. rw (ne_eqb c 0x5C n, t, ne_eqb c 0x0D m, e))

module _ {s s₁ : List ℕ} {at at₁ : ℕ} {x : Option ℕ} (ascii_only : Bool) (n : Next s at x s₁ at₁) where
  pub char_none : {r : Result ℕ EscapeError} → x ≡ None → r ≡ Err bad.ZeroChars → Scanned (char_or_byte ascii_only) s at r s₁ at₁
  unfolding char_or_byte
  char_none k w = scanned_end n (char_or_byte ascii_only) k refl w

  module _ {c : ℕ} (k : x ≡ Some c) {s₂ : List ℕ} {at₂ : ℕ} {r : Result ℕ EscapeError} (q' : Scanned (one_char ascii_only c) s₁ at₁ r s₂ at₂) where
    q : Scanned (one_char ascii_only c) s at₁ r s₂ at₂
    q = rw n.same at q'

    read_one : (o : Outcome) → outcome_of r ≡ o → char_or_byte ascii_only (left s at) ≡ alone (o, left s at₂)
    unfolding char_or_byte
    read_one o e = rw (next_some n k, ← e, q.what, ← q.place.there)

    after : at ≤ at₂
    after = omega (arith, n.place.after, q.place.after)

    pub char_error : {e : EscapeError} {r' : Result ℕ EscapeError} → r ≡ Err e → r' ≡ Err e → Scanned (char_or_byte ascii_only) s at r' s₂ at₂
    unfolding alone
    char_error {e} {r'} v w =
        let m = read_one (error (error_number e)) (ap outcome_of v) in
        record { same = q.same; what = rw m (ap outcome_of w); place = rw m (record { after = after; within = q.place.within; there = refl }) }

    module _ {v : ℕ} (g : r ≡ Ok v) {y : Option ℕ} {s₃ : List ℕ} {at₃ : ℕ} (n' : Next s₂ at₂ y s₃ at₃) where
      n₂ : Next s at₂ y s₃ at₃
      n₂ = rw q.same at n'

      value_read : char_or_byte ascii_only (left s at) ≡ alone (char v, left s at₂)
      value_read = read_one (char v) (ap outcome_of g)

      pub char_more : {r' : Result ℕ EscapeError} → is_some y ≡ true → r' ≡ Err bad.MoreThanOneChar → Scanned (char_or_byte ascii_only) s at r' s₃ at₃
      unfolding alone
      char_more {r'} h w =
          elim y as (λ z. y ≡ z → Scanned (char_or_byte ascii_only) s at r' s₃ at₃) [
            | None ↦ λ z. absurd (false≢true (rw z at h))
            | Some c' ↦ λ z.
                let p = n₂.place in
                let m = value_read ∙ ap (λ (t : List ℕ). alone (char v, t)) (next_some n₂ z) in
                record { same = n₂.same; what = rw m (ap outcome_of w); place = rw m (record { after = omega (arith, after, p.after); within = p.within; there = refl }) }
          ] refl

      pub char_alone : {r' : Result ℕ EscapeError} → is_some y ≡ false → r' ≡ Ok v → Scanned (char_or_byte ascii_only) s at r' s₃ at₃
      unfolding alone
      char_alone {r'} h w =
          elim y as (λ z. y ≡ z → Scanned (char_or_byte ascii_only) s at r' s₃ at₃) [
            | None ↦ λ z.
                let p = n₂.place in
                let e = next_none n₂ z in
                let m = value_read ∙ ap (λ (t : List ℕ). alone (char v, t)) e in
                record { same = n₂.same; what = rw m (ap outcome_of w); place = rw m (record { after = omega (arith, after, p.after); within = p.within; there = p.there ∙ ap rest_of e }) }
            | Some c' ↦ λ z. absurd (false≢true (sym (rw z at h)))
          ] refl
