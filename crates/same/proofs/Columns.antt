-- A column is a character: behind well-formed bytes stand the line and the column that their characters give.
-- Assumes nothing.
use Prim.Native.Nat.{ℕ, suc, ◌+◌, ◌/◌, ◌%◌, ◌≤◌, ◌<◌}
use native.Mathlib.Decide.{dec_lt}
use native.Mathlib.Omega.{arith}
use mathlib.Core.Path.{◌≡◌, refl, ◌∙◌}
use mathlib.Core.Bool.{true, false}
use mathlib.Core.List.{List, [], ◌∷◌, ◌++◌, append-nil, foldl}
use lib.Dec.{eqb, leb}
use lib.ListN.{take}
use borrow.Author.Tests.{ne_eqb, le-leb, lt-leb, lt-ltb, le-ltb}
use Rattle.characters.specs.Utf8.{chars, encode, encode_all, WellFormed}
use Rattle.characters.proofs.Valid.{read_back, well_formed_encoded}
use Rattle.characters.proofs.Text.{chars_nil}
use Rattle.same.specs.Places.{next, place_of, next_char}

-- ---- one byte
begun : (p : ℕ × ℕ) (b : ℕ) → 0xBF < b → next p b ≡ (p.0, suc p.1)
unfolding next
begun p b h =
    let n : eqb b 0x0A ≡ false = ne_eqb b 0x0A (λ e. omega arith) in
    let l : leb 0x80 b ≡ true = le-leb 0x80 b (omega arith) in
    rw (n, l, lt-leb b 0xBF h)

gone_on : (p : ℕ × ℕ) (b : ℕ) → 0x80 ≤ b → b ≤ 0xBF → next p b ≡ p
unfolding next
gone_on p b h k =
    let n : eqb b 0x0A ≡ false = ne_eqb b 0x0A (λ e. omega arith) in
    rw (n, le-leb 0x80 b h, le-leb b 0xBF k)

ascii : (p : ℕ × ℕ) (b : ℕ) → b < 0x80 → next p b ≡ next_char p b
unfolding next next_char
ascii p b h = rw (lt-leb 0x80 b h)

wide : (p : ℕ × ℕ) (c : ℕ) → 0x80 ≤ c → next_char p c ≡ (p.0, suc p.1)
unfolding next_char
wide p c h = rw (ne_eqb c 0x0A (λ e. omega arith))

-- ---- the bytes of one character
low_six : (n : ℕ) → 0x80 + n % 64 ≤ 0xBF
low_six n = omega arith

module _ (p : ℕ × ℕ) (c : ℕ) (t : List ℕ) where
  one_character : foldl next p (encode c ++ t) ≡ foldl next (next_char p c) t
  unfolding encode
  one_character =
      elim (dec_lt c 0x80) [
        | yes h ↦ rw (lt-ltb c 0x80 h, ascii p c h)
        | no n₁ ↦
            let h₁ : 0x80 ≤ c = omega arith in
            elim (dec_lt c 0x800) [
              | yes h ↦
                  rw (le-ltb c 0x80 h₁, lt-ltb c 0x800 h, wide p c h₁, begun p (0xC0 + c / 64) (omega arith), gone_on (p.0, suc p.1) (0x80 + c % 64) (omega arith) (low_six c))
              | no n₂ ↦
                  elim (dec_lt c 0x10000) [
                    | yes h ↦
                        rw (
                          le-ltb c 0x80 h₁,
                          le-ltb c 0x800 (omega arith),
                          lt-ltb c 0x10000 h,
                          wide p c h₁,
                          begun p (0xE0 + c / 4096) (omega arith),
                          gone_on (p.0, suc p.1) (0x80 + c / 64 % 64) (omega arith) (low_six (c / 64)),
                          gone_on (p.0, suc p.1) (0x80 + c % 64) (omega arith) (low_six c),
                        )
                    | no n₃ ↦
                        rw (
                          le-ltb c 0x80 h₁,
                          le-ltb c 0x800 (omega arith),
                          le-ltb c 0x10000 (omega arith),
                          wide p c h₁,
                          begun p (0xF0 + c / 262144) (omega arith),
                          gone_on (p.0, suc p.1) (0x80 + c / 4096 % 64) (omega arith) (low_six (c / 4096)),
                          gone_on (p.0, suc p.1) (0x80 + c / 64 % 64) (omega arith) (low_six (c / 64)),
                          gone_on (p.0, suc p.1) (0x80 + c % 64) (omega arith) (low_six c),
                        )
                  ]
            ]
      ]

all_characters : (p : ℕ × ℕ) (cs : List ℕ) → foldl next p (encode_all cs) ≡ foldl next_char p cs
unfolding encode_all
all_characters p [] = refl
all_characters p (c ∷ t) = one_character p c (encode_all t) ∙ all_characters (next_char p c) t

-- ---- A COLUMN IS A CHARACTER
pub place_by_characters : (s : List ℕ) (at : ℕ) → WellFormed (take at s) → place_of s at ≡ foldl next_char (1, 1) (chars (take at s))
unfolding place_of
place_by_characters s at w =
    let e = well_formed_encoded (take at s) w in
    let r : chars (encode_all e.of) ≡ e.of = rw (← append-nil (encode_all e.of)) (read_back e.of [] e.scalars ∙ rw (chars_nil, append-nil)) in
    rw (e.same, r) (all_characters (1, 1) e.of)
