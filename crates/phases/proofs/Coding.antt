-- A state comes back from its numbers.
-- Assumes nothing.
use Prim.Native.Nat.{ℕ, ◌≤◌, min}
use mathlib.Core.Path.{◌≡◌, refl}
use mathlib.Core.Bool.{Bool, true, false, cond}
use native.Mathlib.Omega.{arith}
use Rattle.locality.specs.Phases as P
use Rattle.feeding.specs.Lexer.{base_of as inBase}
use Rattle.phases.specs.Codec.{flag, line_at, base_at, seen_at, phase_at, meaning_of, flag_number, line_number, seen_number, code_of}

flag_back : (b : Bool) → flag (flag_number b) ≡ b
flag_back true = refl
flag_back false = refl

line_back : (k : P.Line) → line_at (line_number k) ≡ k
line_back P.of_comment = refl
line_back P.of_pragma = refl
line_back P.of_annotation = refl

seen_back : (s : P.Seen) → seen_at (seen_number s) ≡ s
unfolding seen_at
seen_back (P.bits true true) = refl
seen_back (P.bits true false) = refl
seen_back (P.bits false true) = refl
seen_back (P.bits false false) = refl
seen_back (P.broken true) = refl
seen_back (P.broken false) = refl
seen_back P.other = refl

base_back : (n : ℕ) → n ≤ 3 → base_at n ≡ n
base_back n h = omega arith

pub code_back : (q : P.Phase) → inBase q ≤ 3 → meaning_of (code_of q) ≡ q
unfolding phase_at
code_back P.behind_slash f = refl
code_back (P.line k) f = rw (line_back k)
code_back (P.inside n) f = refl
code_back (P.into n) f = refl
code_back P.closing f = refl
code_back P.closed f = refl
code_back P.space f = refl
code_back P.name f = refl
code_back P.emoji_name f = refl
code_back (P.spelling b n) f = rw (flag_back b)
code_back P.behind_at f = refl
code_back P.behind_dollar f = refl
code_back (P.wire b) f = rw (flag_back b)
code_back P.zero_first f = refl
code_back (P.figures base b) f = rw (base_back base f, flag_back b)
code_back (P.pointed base) f = rw (base_back base f)
code_back (P.decimals base) f = rw (base_back base f)
code_back (P.behind_e base) f = rw (base_back base f)
code_back (P.power base b) f = rw (base_back base f, flag_back b)
code_back (P.quote b s) f = rw (flag_back b, seen_back s)
code_back (P.quote_closed n) f = refl
code_back (P.suffixed n) f = refl
code_back (P.single n) f = refl

-- ---- whatever the numbers are, a base is one of the four
record Based (q : P.Phase) : Type 0 where
  pub low : inBase q ≤ 3

based_pick : (t : Bool) (p q : P.Phase) → Based p → Based q → Based (cond t p q)
based_pick true p q f g = f
based_pick false p q f g = g

based_any : (q : P.Phase) → inBase q ≤ 3 → Based q
based_any q f = record { low = f }

nought : 0 ≤ 3
nought = omega arith

base_low : (a : ℕ) → min a 3 ≤ 3
base_low a = omega arith

based : (n a b : ℕ) → Based (phase_at n a b)
unfolding phase_at
based n a b = search (based_pick, based_any, nought, base_low) depth 30 fits 20000

pub phase_based : (n a b : ℕ) → inBase (phase_at n a b) ≤ 3
phase_based n a b = (based n a b).low
