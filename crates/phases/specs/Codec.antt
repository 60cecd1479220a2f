-- A state as three numbers: its own, and the two that it remembers. Every three numbers have a meaning.
-- Assumes nothing.
use Rattle.std.specs.Prelude.{ℕ, min, Bool, true, false, not, cond, eqb}
use Rattle.locality.specs.Phases as P
use Rattle.phases.specs.declared.codec.Code.{Code}

-- ---- what the numbers mean
abbrev pub flag : ℕ → Bool
flag n = not (eqb n 0)

abbrev pub line_at : ℕ → P.Line
line_at n = cond (eqb n 0) P.of_comment (cond (eqb n 1) P.of_pragma P.of_annotation)

abbrev pub base_at : ℕ → ℕ
base_at n = min n 3

unfoldable pub seen_at : ℕ → P.Seen
seen_at n =
    cond (eqb n 0) (P.bits false false)
    (cond (eqb n 1) (P.bits false true)
    (cond (eqb n 2) (P.bits true false)
    (cond (eqb n 3) (P.bits true true)
    (cond (eqb n 4) (P.broken false)
    (cond (eqb n 5) (P.broken true)
    P.other)))))

unfoldable pub phase_at : ℕ → ℕ → ℕ → P.Phase
phase_at n a b =
    cond (eqb n 1) P.behind_slash
    (cond (eqb n 2) (P.line (line_at a))
    (cond (eqb n 3) (P.inside a)
    (cond (eqb n 4) (P.into a)
    (cond (eqb n 5) P.closing
    (cond (eqb n 6) P.closed
    (cond (eqb n 7) P.space
    (cond (eqb n 8) P.name
    (cond (eqb n 9) P.emoji_name
    (cond (eqb n 10) (P.spelling (flag a) b)
    (cond (eqb n 11) P.behind_at
    (cond (eqb n 12) P.behind_dollar
    (cond (eqb n 13) (P.wire (flag a))
    (cond (eqb n 14) P.zero_first
    (cond (eqb n 15) (P.figures (base_at a) (flag b))
    (cond (eqb n 16) (P.pointed (base_at a))
    (cond (eqb n 17) (P.decimals (base_at a))
    (cond (eqb n 18) (P.behind_e (base_at a))
    (cond (eqb n 19) (P.power (base_at a) (flag b))
    (cond (eqb n 20) (P.quote (flag a) (seen_at b))
    (cond (eqb n 21) (P.quote_closed a)
    (cond (eqb n 22) (P.suffixed a)
    (P.single a))))))))))))))))))))))

abbrev pub meaning_of : Code → P.Phase
meaning_of c = phase_at c.number c.one c.two

-- ---- the numbers of a state
abbrev pub flag_number : Bool → ℕ
flag_number b = cond b 1 0

abbrev pub line_number : P.Line → ℕ
line_number P.of_comment = 0
line_number P.of_pragma = 1
line_number P.of_annotation = 2

abbrev pub seen_number : P.Seen → ℕ
seen_number (P.bits two low) = cond two (cond low 3 2) (cond low 1 0)
seen_number (P.broken two) = cond two 5 4
seen_number P.other = 6

abbrev code : ℕ → ℕ → ℕ → Code
code n a b = record { number = n; one = a; two = b }

abbrev pub code_of : P.Phase → Code
code_of P.behind_slash = code 1 0 0
code_of (P.line k) = code 2 (line_number k) 0
code_of (P.inside n) = code 3 n 0
code_of (P.into n) = code 4 n 0
code_of P.closing = code 5 0 0
code_of P.closed = code 6 0 0
code_of P.space = code 7 0 0
code_of P.name = code 8 0 0
code_of P.emoji_name = code 9 0 0
code_of (P.spelling b n) = code 10 (flag_number b) n
code_of P.behind_at = code 11 0 0
code_of P.behind_dollar = code 12 0 0
code_of (P.wire b) = code 13 (flag_number b) 0
code_of P.zero_first = code 14 0 0
code_of (P.figures base b) = code 15 base (flag_number b)
code_of (P.pointed base) = code 16 base 0
code_of (P.decimals base) = code 17 base 0
code_of (P.behind_e base) = code 18 base 0
code_of (P.power base b) = code 19 base (flag_number b)
code_of (P.quote b s) = code 20 (flag_number b) (seen_number s)
code_of (P.quote_closed n) = code 21 n 0
code_of (P.suffixed n) = code 22 n 0
code_of (P.single n) = code 23 n 0
