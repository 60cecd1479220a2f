-- What the states and the acts of the code mean.
-- Assumes nothing.
use Rattle.std.specs.Prelude.{ℕ, ◌≡◌, Bool, false, not, cond, Option, None, Some, List, [], eqb, ltb}
use Rattle.std.specs.Int.NonZero.{non_zero_u32_get}
use Rattle.std.specs.declared.num.NonZeroU32.{NonZeroU32}
use Rattle.cutters.specs.Numbers.{base_number}
use Rattle.cutters.specs.declared.kinds.Base as B
use Rattle.cutters.specs.Kinds.{marks, mark_in, unknown}
use Rattle.lexer.specs.Cut.{Letters, wide_emoji}
use Rattle.lexer.specs.Unicode.{letters_in}
use Rattle.locality.specs.Machine as M
use Rattle.locality.specs.Phases as P
use Rattle.feeding.specs.Lexer.{depth_of}
use Rattle.feeding.specs.Tracker as T
use Rattle.phases.specs.declared.Line as L
use Rattle.phases.specs.declared.Line.TheVariants.{Comment, Pragma, Annotation}
use Rattle.phases.specs.declared.Seen as S
use Rattle.phases.specs.declared.Seen.TheVariants.{Bits, Broken, Other}
use Rattle.phases.specs.declared.Phase as D
use Rattle.phases.specs.declared.Phase.TheVariants as X
use Rattle.phases.specs.declared.Look as N
use Rattle.phases.specs.declared.Act as A
use Rattle.phases.specs.declared.Act.TheVariants as Y
use Rattle.phases.specs.declared.tracker.Tracker as W

abbrev pub line_of : L.Line → P.Line
line_of Comment = P.of_comment
line_of Pragma = P.of_pragma
line_of Annotation = P.of_annotation

abbrev pub base_of : B.Base → ℕ
base_of = base_number

abbrev pub seen_of : S.Seen → P.Seen
seen_of (Bits two low) = P.bits two low
seen_of (Broken two) = P.broken two
seen_of Other = P.other

abbrev pub phase_of : D.Phase → P.Phase
phase_of X.BehindSlash = P.behind_slash
phase_of (X.Line k) = P.line (line_of k)
phase_of (X.Inside d) = P.inside d
phase_of (X.Into d) = P.into d
phase_of X.Closing = P.closing
phase_of X.Closed = P.closed
phase_of X.Space = P.space
phase_of X.Name = P.name
phase_of X.EmojiName = P.emoji_name
phase_of (X.Spelling bare n) = P.spelling bare n
phase_of X.BehindAt = P.behind_at
phase_of X.BehindDollar = P.behind_dollar
phase_of (X.Wire any) = P.wire any
phase_of X.ZeroFirst = P.zero_first
phase_of (X.Figures base any) = P.figures (base_of base) any
phase_of (X.Pointed base) = P.pointed (base_of base)
phase_of (X.Decimals base) = P.decimals (base_of base)
phase_of (X.BehindE base) = P.behind_e (base_of base)
phase_of (X.Power base any) = P.power (base_of base) any
phase_of (X.Quote escaped s) = P.quote escaped (seen_of s)
phase_of (X.QuoteClosed k) = P.quote_closed k
phase_of (X.Suffixed k) = P.suffixed k
phase_of (X.Single k) = P.single k

abbrev pub act_of : A.Act → M.Act P.Phase
act_of (Y.Eats b q) = M.eats b (phase_of q)
act_of (Y.Halts e) = M.halts e.suffix e.kind

-- the state behind a first character, from the single marks on
abbrev pub late : Letters → ℕ → P.Phase
late u c =
    let m = mark_in marks c in
    cond (not (eqb m 0)) (P.single m)
    (cond (eqb c 0x22) (P.quote false (P.bits false false))
    (cond (wide_emoji u.emoji c) P.emoji_name
    (P.single unknown)))

-- the letters that are lent beside the characters that a state looks at
abbrev pub lent_to : N.Look → Letters
lent_to l = letters_in l.letters

-- a place, or 0
abbrev pub place_number : Option NonZeroU32 → ℕ
place_number None = 0
place_number (Some n) = non_zero_u32_get n

abbrev pub tracker_of : W.Tracker → T.Tracker
tracker_of o =
    record { found = place_number o.found; wait = place_number o.wait; prev = o.prev; hex = o.hex; shut = o.shut }

-- what is done in a state, for a comment of any depth that an integer can say and one more: where the depth is all that it can say, the token ends with
-- kind 0, which no token has. A text of 4,294,967,295 bytes opens no comment so deep
abbrev pub deepest : ℕ
deepest = 4294967295

unfoldable pub act_in : Letters → P.Phase → List ℕ → M.Act P.Phase
act_in u q l = cond (ltb (depth_of q) deepest) (P.act u q l) (M.halts false 0)

-- at the end of the text a state ends its token: with this kind, and where b is true with an empty suffix. NUL, which stands for the end,
-- begins no identifier
pub record EndsWith (q : P.Phase) (b : Bool) (k : ℕ) : Type 0 where
  pub ends : (u : Letters) → u.start 0 ≡ false → P.act u q [] ≡ M.halts b k
