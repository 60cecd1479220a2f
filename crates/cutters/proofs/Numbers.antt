-- A number stands for one kind alone: so the promises that speak of `kind_number` leave one kind, and so does that of the kind of a number.
-- Assumes nothing.
use Rattle.std.specs.Prelude.{◌≡◌, refl, true, false, cond, List, [], ◌∷◌, ℕ, eqb, Result}
use mathlib.Core.Path.{sym, ap, ◌∙◌}
use Rattle.lists.proofs.Bools.{equal_unique}
use Rattle.lists.proofs.Numbered.{numbered_unique}
use Rattle.cutters.specs.declared.kinds.Base.TheVariants.{Binary, Octal, Decimal, Hexadecimal}
use Rattle.cutters.specs.declared.kinds.Kind.{Kind}
use Rattle.cutters.specs.declared.kinds.Kind.TheVariants as kind
use Rattle.cutters.specs.declared.kinds.UnknownKind.{UnknownKind}
use Rattle.cutters.specs.Numbers.{kind_number, known_kind, is_kind_of}

-- the first of some kinds with this number
abbrev kind_in : List Kind → ℕ → Kind
kind_in [] n = kind.Eof
kind_in (k ∷ ks) n = cond (eqb n (kind_number k)) k (kind_in ks n)

abbrev all : List Kind
all =
    kind.Eof ∷ kind.LineComment ∷ kind.Whitespace ∷ kind.Ident ∷ kind.HardwareIdent ∷ kind.InvalidIdent ∷ kind.Pragma ∷ kind.Annotation ∷ kind.Semi ∷
    kind.Comma ∷ kind.Dot ∷ kind.OpenParen ∷ kind.CloseParen ∷ kind.OpenBrace ∷ kind.CloseBrace ∷ kind.OpenBracket ∷ kind.CloseBracket ∷ kind.At ∷
    kind.Tilde ∷ kind.Question ∷ kind.Colon ∷ kind.Dollar ∷ kind.Eq ∷ kind.Bang ∷ kind.Lt ∷ kind.Gt ∷ kind.Minus ∷ kind.And ∷ kind.Or ∷ kind.Plus ∷
    kind.Star ∷ kind.Slash ∷ kind.Caret ∷ kind.Percent ∷ kind.Unknown ∷ kind.BlockComment true ∷ kind.BlockComment false ∷ kind.Int Binary true ∷
    kind.Float Binary true ∷ kind.Int Binary false ∷ kind.Float Binary false ∷ kind.Int Octal true ∷ kind.Float Octal true ∷ kind.Int Octal false ∷
    kind.Float Octal false ∷ kind.Int Decimal true ∷ kind.Float Decimal true ∷ kind.Int Decimal false ∷ kind.Float Decimal false ∷
    kind.Int Hexadecimal true ∷ kind.Float Hexadecimal true ∷ kind.Int Hexadecimal false ∷ kind.Float Hexadecimal false ∷ kind.Str true ∷
    kind.Str false ∷ kind.BitStr true true ∷ kind.BitStr true false ∷ kind.BitStr false true ∷ kind.BitStr false false ∷ []

-- and of all kinds none has another's
kind_back : (k : Kind) → kind_in all (kind_number k) ≡ k
kind_back kind.Eof = refl
kind_back kind.LineComment = refl
kind_back kind.Whitespace = refl
kind_back kind.Ident = refl
kind_back kind.HardwareIdent = refl
kind_back kind.InvalidIdent = refl
kind_back kind.Pragma = refl
kind_back kind.Annotation = refl
kind_back kind.Semi = refl
kind_back kind.Comma = refl
kind_back kind.Dot = refl
kind_back kind.OpenParen = refl
kind_back kind.CloseParen = refl
kind_back kind.OpenBrace = refl
kind_back kind.CloseBrace = refl
kind_back kind.OpenBracket = refl
kind_back kind.CloseBracket = refl
kind_back kind.At = refl
kind_back kind.Tilde = refl
kind_back kind.Question = refl
kind_back kind.Colon = refl
kind_back kind.Dollar = refl
kind_back kind.Eq = refl
kind_back kind.Bang = refl
kind_back kind.Lt = refl
kind_back kind.Gt = refl
kind_back kind.Minus = refl
kind_back kind.And = refl
kind_back kind.Or = refl
kind_back kind.Plus = refl
kind_back kind.Star = refl
kind_back kind.Slash = refl
kind_back kind.Caret = refl
kind_back kind.Percent = refl
kind_back kind.Unknown = refl
kind_back (kind.BlockComment true) = refl
kind_back (kind.BlockComment false) = refl
kind_back (kind.Int Binary true) = refl
kind_back (kind.Float Binary true) = refl
kind_back (kind.Int Binary false) = refl
kind_back (kind.Float Binary false) = refl
kind_back (kind.Int Octal true) = refl
kind_back (kind.Float Octal true) = refl
kind_back (kind.Int Octal false) = refl
kind_back (kind.Float Octal false) = refl
kind_back (kind.Int Decimal true) = refl
kind_back (kind.Float Decimal true) = refl
kind_back (kind.Int Decimal false) = refl
kind_back (kind.Float Decimal false) = refl
kind_back (kind.Int Hexadecimal true) = refl
kind_back (kind.Float Hexadecimal true) = refl
kind_back (kind.Int Hexadecimal false) = refl
kind_back (kind.Float Hexadecimal false) = refl
kind_back (kind.Str true) = refl
kind_back (kind.Str false) = refl
kind_back (kind.BitStr true true) = refl
kind_back (kind.BitStr true false) = refl
kind_back (kind.BitStr false true) = refl
kind_back (kind.BitStr false false) = refl

pub kind_one : (k j : Kind) → kind_number k ≡ kind_number j → k ≡ j
kind_one k j e = sym (kind_back k) ∙ ap (kind_in all) e ∙ kind_back j

kind_known : (k : Kind) → known_kind (kind_number k) ≡ true
kind_known kind.Eof = refl
kind_known kind.LineComment = refl
kind_known kind.Whitespace = refl
kind_known kind.Ident = refl
kind_known kind.HardwareIdent = refl
kind_known kind.InvalidIdent = refl
kind_known kind.Pragma = refl
kind_known kind.Annotation = refl
kind_known kind.Semi = refl
kind_known kind.Comma = refl
kind_known kind.Dot = refl
kind_known kind.OpenParen = refl
kind_known kind.CloseParen = refl
kind_known kind.OpenBrace = refl
kind_known kind.CloseBrace = refl
kind_known kind.OpenBracket = refl
kind_known kind.CloseBracket = refl
kind_known kind.At = refl
kind_known kind.Tilde = refl
kind_known kind.Question = refl
kind_known kind.Colon = refl
kind_known kind.Dollar = refl
kind_known kind.Eq = refl
kind_known kind.Bang = refl
kind_known kind.Lt = refl
kind_known kind.Gt = refl
kind_known kind.Minus = refl
kind_known kind.And = refl
kind_known kind.Or = refl
kind_known kind.Plus = refl
kind_known kind.Star = refl
kind_known kind.Slash = refl
kind_known kind.Caret = refl
kind_known kind.Percent = refl
kind_known kind.Unknown = refl
kind_known (kind.BlockComment true) = refl
kind_known (kind.BlockComment false) = refl
kind_known (kind.Int Binary true) = refl
kind_known (kind.Float Binary true) = refl
kind_known (kind.Int Binary false) = refl
kind_known (kind.Float Binary false) = refl
kind_known (kind.Int Octal true) = refl
kind_known (kind.Float Octal true) = refl
kind_known (kind.Int Octal false) = refl
kind_known (kind.Float Octal false) = refl
kind_known (kind.Int Decimal true) = refl
kind_known (kind.Float Decimal true) = refl
kind_known (kind.Int Decimal false) = refl
kind_known (kind.Float Decimal false) = refl
kind_known (kind.Int Hexadecimal true) = refl
kind_known (kind.Float Hexadecimal true) = refl
kind_known (kind.Int Hexadecimal false) = refl
kind_known (kind.Float Hexadecimal false) = refl
kind_known (kind.Str true) = refl
kind_known (kind.Str false) = refl
kind_known (kind.BitStr true true) = refl
kind_known (kind.BitStr true false) = refl
kind_known (kind.BitStr false true) = refl
kind_known (kind.BitStr false false) = refl

same_error : (e f : UnknownKind) → e.0 ≡ f.0 → e ≡ f
same_error e f h = rw h refl

-- one outcome of `Kind::try_from`
pub kind_of_unique : (n : ℕ) (r q : Result Kind UnknownKind) → is_kind_of n r → is_kind_of n q → r ≡ q
kind_of_unique n = numbered_unique kind_number known_kind (λ e. e.0 ≡ n) kind_one kind_known (λ e f a b. same_error e f (equal_unique a b)) n
