-- The decoder's own functions, as `search` takes the laws from what a need knows.
-- Assumes nothing.
use mathlib.Core.Path.{◌≡◌, refl, sym, ap, ◌∙◌}
use mathlib.Core.Bool.{true}
use mathlib.Core.List.{List, ◌∷◌}
use Prim.Native.Nat.{ℕ, suc, ◌+◌, ◌*◌, ◌%◌, ◌≤◌, ◌<◌}
use native.Mathlib.Omega.{arith}
use lib.ListN.{length, drop, get_or, drop_of_length-le}
use lib.Seq.{drop-cons, get_or-drop}
use Rattle.characters.specs.Ranges.{◌to◌, in_range}
use Rattle.characters.specs.Utf8.{first, follows, no_char}
use Rattle.characters.specs.Steps.{Reads, low, high, two, three, four}
use Rattle.characters.specs.Text.{Decoded}
use Rattle.characters.proofs.Rows.{first_1, first_gap, first_over, first_2, first_3, first_4}

-- ---- two, three and four bytes that are a character
module _ (a b : ℕ) where
  pub two_yes : follows b ≡ true → Reads (two a b) (a % 32 * 64 + b % 64) 2
  unfolding two
  two_yes e = rw e (record { code_is = refl; wide_is = refl })

  module _ (c : ℕ) (e : in_range b (low a to high a) ≡ true) (f : follows c ≡ true) where
    pub three_yes : Reads (three a b c) ((a % 16 * 64 + b % 64) * 64 + c % 64) 3
    unfolding three
    three_yes = rw (e, f) (record { code_is = refl; wide_is = refl })

    pub four_yes : (d : ℕ) → follows d ≡ true → Reads (four a b c d) (((a % 8 * 64 + b % 64) * 64 + c % 64) * 64 + d % 64) 4
    unfolding four
    four_yes d g = rw (e, f, g) (record { code_is = refl; wide_is = refl })

-- ---- the character at a place, by its first byte
front : (s : List ℕ) (at : ℕ) → at < length s → first (drop at s) ≡ first (get_or s at 0 ∷ drop (suc at) s)
front s at l = ap first (drop-cons s at 0 l)

byte_behind : (s : List ℕ) (at k n : ℕ) → suc at + k ≡ n → get_or (drop (suc at) s) k 0 ≡ get_or s n 0
byte_behind s at k n e = get_or-drop (suc at) s k 0 ∙ ap (λ (m : ℕ). get_or s m 0) e

module _ (s : List ℕ) (at : ℕ) {code wide : ℕ} where
  decoded_by : {x : ℕ × ℕ} → first (drop at s) ≡ x → Reads x code wide → Decoded s at code wide
  decoded_by e r = record { code_is = r.code_is ∙ ap (λ (y : ℕ × ℕ). y.0) (sym e); wide_is = r.wide_is ∙ ap (λ (y : ℕ × ℕ). y.1) (sym e) }

  pub decoded_past : length s ≤ at → code ≡ 0 → wide ≡ 0 → Decoded s at code wide
  unfolding first
  decoded_past h p q = decoded_by (ap first (drop_of_length-le s {i = at} h)) (record { code_is = p; wide_is = q })

  module _ (l : at < length s) where
    pub decoded_ascii : get_or s at 0 < 0x80 → code ≡ get_or s at 0 → wide ≡ 1 → Decoded s at code wide
    decoded_ascii h p q =
        decoded_by (front s at l ∙ first_1 (get_or s at 0) (drop (suc at) s) (omega arith)) (record { code_is = p; wide_is = q })

    pub decoded_none : Reads (no_char (get_or s at 0), 1) code wide → 0x80 ≤ get_or s at 0 → get_or s at 0 < 0xC2 → Decoded s at code wide
    decoded_none r g h = decoded_by (front s at l ∙ first_gap (get_or s at 0) (drop (suc at) s) g (omega arith)) r

    pub decoded_over : Reads (no_char (get_or s at 0), 1) code wide → 0xF5 ≤ get_or s at 0 → Decoded s at code wide
    decoded_over r g = decoded_by (front s at l ∙ first_over (get_or s at 0) (drop (suc at) s) g) r

    pub decoded_two : {b : ℕ} → Reads (two (get_or s at 0) b) code wide → b ≡ get_or s (at + 1) 0 → 0xC2 ≤ get_or s at 0 → get_or s at 0 < 0xE0 → Decoded s at code wide
    decoded_two r p g h =
        decoded_by (front s at l ∙ first_2 (get_or s at 0) (drop (suc at) s) g (omega arith) ∙ rw (byte_behind s at 0 (at + 1) (omega arith), ← p)) r

    pub decoded_three : {b c : ℕ} → Reads (three (get_or s at 0) b c) code wide → b ≡ get_or s (at + 1) 0 → c ≡ get_or s (at + 2) 0 → 0xE0 ≤ get_or s at 0 → get_or s at 0 < 0xF0 → Decoded s at code wide
    decoded_three r p q g h =
        decoded_by
        (front s at l ∙ first_3 (get_or s at 0) (drop (suc at) s) g (omega arith)
        ∙ rw (byte_behind s at 0 (at + 1) (omega arith), byte_behind s at 1 (at + 2) (omega arith), ← p, ← q))
        r

    pub decoded_four : {b c d : ℕ} → Reads (four (get_or s at 0) b c d) code wide → b ≡ get_or s (at + 1) 0 → c ≡ get_or s (at + 2) 0 → d ≡ get_or s (at + 3) 0 → 0xF0 ≤ get_or s at 0 → get_or s at 0 < 0xF5 → Decoded s at code wide
    decoded_four r p q m g h =
        decoded_by
        (front s at l ∙ first_4 (get_or s at 0) (drop (suc at) s) g (omega arith)
        ∙ rw (byte_behind s at 0 (at + 1) (omega arith), byte_behind s at 1 (at + 2) (omega arith), byte_behind s at 2 (at + 3) (omega arith), ← p, ← q, ← m))
        r

-- ---- the character alone, where none stands there
pub code_past : (s : List ℕ) (at : ℕ) {code : ℕ} → length s ≤ at → code ≡ 0 → code ≡ (first (drop at s)).0
code_past s at h p = (decoded_past s at {wide = 0} h p refl).code_is

pub ruleset at_place = (decoded_past, decoded_ascii, decoded_none, decoded_over, decoded_two, decoded_three, decoded_four)
