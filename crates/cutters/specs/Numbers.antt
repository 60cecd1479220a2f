-- The numbers that stand for the kinds that code holds.
-- Assumes nothing.
use Rattle.std.specs.Prelude.{◌≡◌, ℕ, Bool, true, false, not, ◌&&◌, eqb, leb, Result, MatchResult}
use Rattle.cutters.specs.declared.kinds.Base.{Base}
use Rattle.cutters.specs.declared.kinds.Base.TheVariants.{Binary, Octal, Decimal, Hexadecimal}
use Rattle.cutters.specs.declared.kinds.Kind.{Kind}
use Rattle.cutters.specs.declared.kinds.Kind.TheVariants as kind
use Rattle.cutters.specs.declared.kinds.UnknownKind.{UnknownKind}
use Rattle.cutters.specs.Kinds.{eof, line_comment, block_comment, unclosed_comment, whitespace_kind, ident, hardware_ident, invalid_ident, pragma, annotation, at_sign, dollar, slash_mark, unknown, int, float, str, bit_str}

-- the place of a base
abbrev pub base_number : Base → ℕ
base_number Binary = 0
base_number Octal = 1
base_number Decimal = 2
base_number Hexadecimal = 3

abbrev pub kind_number : Kind → ℕ
kind_number kind.Eof = eof
kind_number kind.LineComment = line_comment
kind_number (kind.BlockComment true) = block_comment
kind_number (kind.BlockComment false) = unclosed_comment
kind_number kind.Whitespace = whitespace_kind
kind_number kind.Ident = ident
kind_number kind.HardwareIdent = hardware_ident
kind_number kind.InvalidIdent = invalid_ident
kind_number kind.Pragma = pragma
kind_number kind.Annotation = annotation
kind_number kind.Semi = 10
kind_number kind.Comma = 11
kind_number kind.Dot = 12
kind_number kind.OpenParen = 13
kind_number kind.CloseParen = 14
kind_number kind.OpenBrace = 15
kind_number kind.CloseBrace = 16
kind_number kind.OpenBracket = 17
kind_number kind.CloseBracket = 18
kind_number kind.At = at_sign
kind_number kind.Tilde = 21
kind_number kind.Question = 22
kind_number kind.Colon = 23
kind_number kind.Dollar = dollar
kind_number kind.Eq = 25
kind_number kind.Bang = 26
kind_number kind.Lt = 27
kind_number kind.Gt = 28
kind_number kind.Minus = 29
kind_number kind.And = 30
kind_number kind.Or = 31
kind_number kind.Plus = 32
kind_number kind.Star = 33
kind_number kind.Slash = slash_mark
kind_number kind.Caret = 35
kind_number kind.Percent = 36
kind_number kind.Unknown = unknown
kind_number (kind.Int base empty) = int (base_number base) empty
kind_number (kind.Float base empty) = float (base_number base) empty
kind_number (kind.Str terminated) = str terminated
kind_number (kind.BitStr terminated twice) = bit_str terminated twice

-- the numbers of kinds: 0 to 61 but 20, 38 and 39
abbrev pub known_kind : ℕ → Bool
known_kind n = leb n 61 && (not (eqb n 20) && (not (eqb n 38) && not (eqb n 39)))

-- the kind with this number; of any other number, a refusal that names it
abbrev pub is_kind_of : ℕ → Result Kind UnknownKind → Type 0
is_kind_of n r = MatchResult r (λ k. kind_number k ≡ n) (λ e. (e.0 ≡ n) × (known_kind n ≡ false))
