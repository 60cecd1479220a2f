-- Decoding undoes encoding at every scalar value, and encoding undoes decoding on well-formed bytes.
-- Assumes nothing.
use mathlib.Core.Path.{◌≡◌, refl, ap, ◌∙◌}
use mathlib.Core.Bool.{Bool, true, false, ◌&&◌, ◌||◌, false≢true}
use mathlib.Core.List.{List, [], ◌∷◌, ◌++◌}
use Prim.Native.Nat.{ℕ, ◌+◌, ◌*◌, ◌/◌, ◌%◌, ◌≤◌, ◌<◌}
use native.Mathlib.Decide.{dec_lt}
use native.Mathlib.Omega.{arith}
use lib.Dec.{ltb, leb, eqb}
use lib.ListN.{length, get_or, take}
use lib.Seq.{take-suc}
use borrow.Author.Tests.{lt-ltb, le-ltb, leb-true, ltb-true, eqb-true}
use Rattle.characters.specs.Utf8.{first, width, encode, is_scalar}
use Rattle.characters.specs.Steps.{low, high, two, three, four}
use Rattle.characters.proofs.Rows.{In, is_in, Seen, seen_1, seen_2, seen_3, seen_4, seen_none, seen, low_ge, high_le, first_1, first_2, first_3, first_4}
use Rattle.characters.proofs.First.{fine, Fine, width_1, width_2, width_3, width_4, over_3, over_4}

-- a scalar value, by its bounds
pub record Scalar (c : ℕ) : Type 0 where
  pub top : c ≤ 0x10FFFF
  pub real : (0xD800 ≤ c → 0xE000 ≤ c)

scalar_of : (c : ℕ) (p q r : Bool) → ltb c 0xD800 ≡ p → leb 0xE000 c ≡ q → leb c 0x10FFFF ≡ r → p || (q && r) ≡ true → Scalar c
scalar_of c true q r e f g h = let l = ltb-true c 0xD800 e in record { top = omega arith; real = λ k. absurd (omega arith) }
scalar_of c false true true e f g h = record { top = leb-true c 0x10FFFF g; real = λ k. leb-true 0xE000 c f }
scalar_of c false true false e f g h = absurd (false≢true h)
scalar_of c false false r e f g h = absurd (false≢true h)

pub scalar : (c : ℕ) → is_scalar c ≡ true → Scalar c
unfolding is_scalar
scalar c h = scalar_of c (ltb c 0xD800) (leb 0xE000 c) (leb c 0x10FFFF) refl refl refl h

-- ---- the bytes of a code point, by how many there are
encode_1 : (c : ℕ) → c < 0x80 → encode c ≡ c ∷ []
unfolding encode
encode_1 c h = rw (lt-ltb c 0x80 h)

encode_2 : (c : ℕ) → 0x80 ≤ c → c < 0x800 → encode c ≡ (0xC0 + c / 64) ∷ (0x80 + c % 64) ∷ []
unfolding encode
encode_2 c g h = rw (le-ltb c 0x80 g, lt-ltb c 0x800 h)

encode_3 : (c : ℕ) → 0x800 ≤ c → c < 0x10000 → encode c ≡ (0xE0 + c / 4096) ∷ (0x80 + c / 64 % 64) ∷ (0x80 + c % 64) ∷ []
unfolding encode
encode_3 c g h = rw (le-ltb c 0x80 (omega arith), le-ltb c 0x800 g, lt-ltb c 0x10000 h)

encode_4 : (c : ℕ) → 0x10000 ≤ c → encode c ≡ (0xF0 + c / 262144) ∷ (0x80 + c / 4096 % 64) ∷ (0x80 + c / 64 % 64) ∷ (0x80 + c % 64) ∷ []
unfolding encode
encode_4 c g = rw (le-ltb c 0x80 (omega arith), le-ltb c 0x800 (omega arith), le-ltb c 0x10000 g)

pub encode_long : (c : ℕ) → c < 1114112 → length (encode c) ≡ width c
encode_long c l =
    elim (dec_lt c 0x80) [
      | yes h ↦ rw (encode_1 c h, width_1 c h)
      | no n₁ ↦ elim (dec_lt c 0x800) [
        | yes h ↦ rw (encode_2 c (omega arith) h, width_2 c (omega arith) h)
        | no n₂ ↦ elim (dec_lt c 0x10000) [
          | yes h ↦ rw (encode_3 c (omega arith) h, width_3 c (omega arith) h)
          | no n₃ ↦ rw (encode_4 c (omega arith), width_4 c (omega arith) l)
        ]
      ]
    ]

-- ---- decoding undoes encoding
-- a number between 80 and BF
six : (n : ℕ) → In 0x80 0xBF (0x80 + n % 64)
six n = record { over = omega arith; under = omega arith }

low_is : (a b : ℕ) (p q : Bool) → eqb a 0xE0 ≡ p → eqb a 0xF0 ≡ q → (a ≡ 0xE0 → 0xA0 ≤ b) → (a ≡ 0xF0 → 0x90 ≤ b) → 0x80 ≤ b → low a ≤ b
unfolding low
low_is a b true q e f h i j = rw e (h (eqb-true a 0xE0 e))
low_is a b false true e f h i j = rw (e, f) (i (eqb-true a 0xF0 f))
low_is a b false false e f h i j = rw (e, f) j

high_is : (a b : ℕ) (p q : Bool) → eqb a 0xED ≡ p → eqb a 0xF4 ≡ q → (a ≡ 0xED → b ≤ 0x9F) → (a ≡ 0xF4 → b ≤ 0x8F) → b ≤ 0xBF → b ≤ high a
unfolding high
high_is a b true q e f h i j = rw e (h (eqb-true a 0xED e))
high_is a b false true e f h i j = rw (e, f) (i (eqb-true a 0xF4 f))
high_is a b false false e f h i j = rw (e, f) j

-- the second byte of a code point's three or four is within its bounds
second_3 : (c : ℕ) → 0x800 ≤ c → c < 0x10000 → Scalar c → In (low (0xE0 + c / 4096)) (high (0xE0 + c / 4096)) (0x80 + c / 64 % 64)
second_3 c g h r =
    let a = 0xE0 + c / 4096 in
    record {
      over = low_is a (0x80 + c / 64 % 64) (eqb a 0xE0) (eqb a 0xF0) refl refl (λ e. omega arith) (λ e. absurd (omega arith)) (omega arith);
      under = high_is a (0x80 + c / 64 % 64) (eqb a 0xED) (eqb a 0xF4) refl refl
          (λ e. elim (dec_lt c 0xD800) [ yes p ↦ omega arith | no n ↦ omega (arith, r.real (omega arith)) ])
          (λ e. absurd (omega arith)) (omega arith);
    }

second_4 : (c : ℕ) → 0x10000 ≤ c → c ≤ 0x10FFFF → In (low (0xF0 + c / 262144)) (high (0xF0 + c / 262144)) (0x80 + c / 4096 % 64)
second_4 c g h =
    let a = 0xF0 + c / 262144 in
    record {
      over = low_is a (0x80 + c / 4096 % 64) (eqb a 0xE0) (eqb a 0xF0) refl refl (λ e. absurd (omega arith)) (λ e. omega arith) (omega arith);
      under = high_is a (0x80 + c / 4096 % 64) (eqb a 0xED) (eqb a 0xF4) refl refl (λ e. absurd (omega arith)) (λ e. omega arith) (omega arith);
    }

-- the parts of a code point, put together again; in one call the steps are past omega's bound
low_6 : (n : ℕ) → (0x80 + n % 64) % 64 ≡ n % 64
low_6 n = omega arith

lead_4 : (c : ℕ) → c ≤ 0x10FFFF → (0xF0 + c / 262144) % 8 ≡ c / 262144
lead_4 c h = omega arith

join : (c q₁ q₂ q₃ r₀ r₁ r₂ : ℕ) → c ≡ q₁ * 64 + r₀ → q₁ ≡ q₂ * 64 + r₁ → q₂ ≡ q₃ * 64 + r₂ → ((q₃ * 64 + r₂) * 64 + r₁) * 64 + r₀ ≡ c
join c q₁ q₂ q₃ r₀ r₁ r₂ e f g = omega arith

parts_4 : (c : ℕ) → c ≤ 0x10FFFF →
    (((0xF0 + c / 262144) % 8 * 64 + (0x80 + c / 4096 % 64) % 64) * 64 + (0x80 + c / 64 % 64) % 64) * 64 + (0x80 + c % 64) % 64 ≡ c
parts_4 c h =
    rw (lead_4 c h, low_6 (c / 4096), low_6 (c / 64), low_6 c)
    (join c (c / 64) (c / 4096) (c / 262144) (c % 64) (c / 64 % 64) (c / 4096 % 64) (omega arith) (omega arith) (omega arith))

abbrev Back : ℕ → List ℕ → Type 0
Back c s = first (encode c ++ s) ≡ (c, width c)

back_1 : (c : ℕ) (s : List ℕ) → c < 0x80 → Back c s
back_1 c s h = rw (encode_1 c h, width_1 c h) (first_1 c s (omega arith))

back_2 : (c : ℕ) (s : List ℕ) → 0x80 ≤ c → c < 0x800 → Back c s
unfolding two
back_2 c s g h =
    rw (encode_2 c g h, width_2 c g h)
    (first_2 (0xC0 + c / 64) ((0x80 + c % 64) ∷ s) (omega arith) (omega arith)
    ∙ rw (is_in (six c)) (ap (λ (n : ℕ). (n, 2)) (omega arith)))

back_3 : (c : ℕ) (s : List ℕ) → 0x800 ≤ c → c < 0x10000 → Scalar c → Back c s
unfolding three
back_3 c s g h r =
    rw (encode_3 c g h, width_3 c g h)
    (first_3 (0xE0 + c / 4096) ((0x80 + c / 64 % 64) ∷ (0x80 + c % 64) ∷ s) (omega arith) (omega arith)
    ∙ rw (is_in (second_3 c g h r), is_in (six c)) (ap (λ (n : ℕ). (n, 3)) (omega arith)))

back_4 : (c : ℕ) (s : List ℕ) → 0x10000 ≤ c → Scalar c → Back c s
unfolding four
back_4 c s g r =
    rw (encode_4 c g, width_4 c g (omega arith))
    (first_4 (0xF0 + c / 262144) ((0x80 + c / 4096 % 64) ∷ (0x80 + c / 64 % 64) ∷ (0x80 + c % 64) ∷ s) (omega arith) (omega arith)
    ∙ rw (is_in (second_4 c g r.top), is_in (six (c / 64)), is_in (six c)) (ap (λ (n : ℕ). (n, 4)) (parts_4 c r.top)))

-- the bytes of a scalar value, whatever stands behind them, are read as that value, at its width
pub back : (c : ℕ) (s : List ℕ) → is_scalar c ≡ true → first (encode c ++ s) ≡ (c, width c)
back c s r =
    let k = scalar c r in
    elim (dec_lt c 0x80) [
      | yes h ↦ back_1 c s h
      | no n₁ ↦ elim (dec_lt c 0x800) [
        | yes h ↦ back_2 c s (omega arith) h
        | no n₂ ↦ elim (dec_lt c 0x10000) [ yes h ↦ back_3 c s (omega arith) h k | no n₃ ↦ back_4 c s (omega arith) k ]
      ]
    ]

-- ---- encoding undoes decoding
-- q r₂ r₁ r₀ are a number's digits to the base 64: its quotients and rests
record Digits (x q r₂ r₁ r₀ : ℕ) : Type 0 where
  by_64 : x / 64 ≡ (q * 64 + r₂) * 64 + r₁
  by_4096 : x / 4096 ≡ q * 64 + r₂
  by_262144 : x / 262144 ≡ q
  rest : x % 64 ≡ r₀

digits : (x q r₂ r₁ r₀ : ℕ) → x ≡ ((q * 64 + r₂) * 64 + r₁) * 64 + r₀ → r₂ < 64 → r₁ < 64 → r₀ < 64 → Digits x q r₂ r₁ r₀
digits x q r₂ r₁ r₀ e f g h =
    record { by_64 = omega arith; by_4096 = omega arith; by_262144 = omega arith; rest = omega arith }

last_6 : (q b : ℕ) → In 0x80 0xBF b → 0x80 + (q * 64 + b % 64) % 64 ≡ b
last_6 q b i = omega arith

rest_6 : (b : ℕ) → In 0x80 0xBF b → 0x80 + b % 64 ≡ b
rest_6 b i = omega arith

-- a second byte lies between 80 and BF too
second : (a b : ℕ) → In (low a) (high a) b → In 0x80 0xBF b
second a b i = record { over = omega (arith, low_ge a); under = omega (arith, high_le a) }

list_2 : {a b a' b' : ℕ} → a ≡ a' → b ≡ b' → ◌≡◌ {A = List ℕ} (a ∷ b ∷ []) (a' ∷ b' ∷ [])
list_2 e f = cc

list_3 : {a b c a' b' c' : ℕ} → a ≡ a' → b ≡ b' → c ≡ c' → ◌≡◌ {A = List ℕ} (a ∷ b ∷ c ∷ []) (a' ∷ b' ∷ c' ∷ [])
list_3 e f g = cc

list_4 : {a b c d a' b' c' d' : ℕ} → a ≡ a' → b ≡ b' → c ≡ c' → d ≡ d' → ◌≡◌ {A = List ℕ} (a ∷ b ∷ c ∷ d ∷ []) (a' ∷ b' ∷ c' ∷ d' ∷ [])
list_4 e f g h = cc

bytes_2 : (a b : ℕ) → In 0xC2 0xDF a → In 0x80 0xBF b → encode (a % 32 * 64 + b % 64) ≡ a ∷ b ∷ []
bytes_2 a b i j = encode_2 (a % 32 * 64 + b % 64) (omega arith) (omega arith) ∙ list_2 (omega arith) (omega arith)

bytes_3 : (a b c x : ℕ) → x ≡ (a % 16 * 64 + b % 64) * 64 + c % 64 → In 0xE0 0xEF a → In (low a) (high a) b → In 0x80 0xBF c → encode x ≡ a ∷ b ∷ c ∷ []
bytes_3 a b c x e i j k =
    let d : Digits x 0 (a % 16) (b % 64) (c % 64) = digits x 0 (a % 16) (b % 64) (c % 64) (omega arith) (omega arith) (omega arith) (omega arith) in
    encode_3 x (rw e (over_3 a b c i j k)) (omega arith)
    ∙ list_3 (rw d.by_4096 (first_byte i)) (rw d.by_64 (last_6 (0 * 64 + a % 16) b (second a b j))) (rw d.rest (rest_6 c k))
  where
    first_byte : In 0xE0 0xEF a → 0xE0 + (0 * 64 + a % 16) ≡ a
    first_byte i = omega arith

bytes_4 : (a b c d x : ℕ) → x ≡ ((a % 8 * 64 + b % 64) * 64 + c % 64) * 64 + d % 64 → In 0xF0 0xF4 a → In (low a) (high a) b → In 0x80 0xBF c → In 0x80 0xBF d → encode x ≡ a ∷ b ∷ c ∷ d ∷ []
bytes_4 a b c d x e i j k m =
    let t : Digits x (a % 8) (b % 64) (c % 64) (d % 64) = digits x (a % 8) (b % 64) (c % 64) (d % 64) e (omega arith) (omega arith) (omega arith) in
    encode_4 x (rw e (over_4 a b c d i j k m))
    ∙ list_4
    (rw t.by_262144 (first_byte i))
    (rw t.by_4096 (last_6 (a % 8) b (second a b j)))
    (rw t.by_64 (last_6 (a % 8 * 64 + b % 64) c k))
    (rw t.rest (rest_6 d m))
  where
    first_byte : In 0xF0 0xF4 a → 0xF0 + a % 8 ≡ a
    first_byte i = omega arith

take_1 : (s : List ℕ) → 0 < length s → take 1 s ≡ get_or s 0 0 ∷ []
take_1 s h = take-suc s 0 0 h

take_2 : (s : List ℕ) → 1 < length s → take 2 s ≡ get_or s 0 0 ∷ get_or s 1 0 ∷ []
take_2 s h = take-suc s 1 0 h ∙ rw (take_1 s (omega arith))

take_3 : (s : List ℕ) → 2 < length s → take 3 s ≡ get_or s 0 0 ∷ get_or s 1 0 ∷ get_or s 2 0 ∷ []
take_3 s h = take-suc s 2 0 h ∙ rw (take_2 s (omega arith))

encoded : (a : ℕ) (s : List ℕ) (x w : ℕ) → Seen a s x w → Fine s x w → x < 1114112 → encode x ≡ take w (a ∷ s)
encoded a s x w (seen_1 h) f l = encode_1 a (omega arith)
encoded a s x w (seen_2 i j) f l = bytes_2 a (get_or s 0 0) i j ∙ rw (take_1 s (omega (arith, f.within)))
encoded a s x w (seen_3 i j k) f l = bytes_3 a (get_or s 0 0) (get_or s 1 0) _ refl i j k ∙ rw (take_2 s (omega (arith, f.within)))
encoded a s x w (seen_4 i j k m) f l =
    bytes_4 a (get_or s 0 0) (get_or s 1 0) (get_or s 2 0) _ refl i j k m ∙ rw (take_3 s (omega (arith, f.within)))
encoded a s x w (seen_none h) f l = absurd (omega arith)

-- a character that was read, written again, is the bytes that it was read from
pub forth : (a : ℕ) (s : List ℕ) → (first (a ∷ s)).0 < 1114112 → encode (first (a ∷ s)).0 ≡ take (first (a ∷ s)).1 (a ∷ s)
forth a s h = encoded a s (first (a ∷ s)).0 (first (a ∷ s)).1 (seen a s) (fine a s) h
