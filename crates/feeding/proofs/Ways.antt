-- WAYS: what the machine of the lexer can do in each phase, whatever it sees. The tests of `act` are gone through here once: what holds of every way of a
-- phase holds of what is done in it.
-- Assumes nothing.
use Prim.Native.Nat.{ℕ, suc, ◌-◌}
use mathlib.Core.Bool.{Bool, true, false, not, cond, ◌&&◌, ◌||◌}
use mathlib.Core.List.{List, [], ◌∷◌, tail}
use lib.Dec.{eqb, leb}
use lib.ListN.{length}
use Rattle.lists.proofs.Bools.{on_cond}
use Rattle.letters.specs.Chars.{is_whitespace}
use Rattle.cutters.specs.Kinds.{unclosed_comment, block_comment, whitespace_kind, ident, hardware_ident, invalid_ident, at_sign, dollar, slash_mark, int, float}
use Rattle.cutters.specs.Digits.{peek, is_digit}
use Rattle.lexer.specs.Cut.{Letters, not_lf, is_e, opens, closes, or_underscore, met, is_unit, pragma_word, wide_emoji, goes_on}
use Rattle.locality.specs.Machine.{Act, eats, halts}
use Rattle.locality.specs.Phases.{Seen, seen_kind, seeing, Line, of_comment, of_pragma, of_annotation, line_kind, Phase, behind_slash, line, inside, into, closing, closed, space, name, emoji_name, spelling, behind_at, behind_dollar, wire, zero_first, figures, pointed, decimals, behind_e, power, quote, quote_closed, suffixed, single, next_is, letter, figure, act, line_acts, wire_acts, name_acts, suffix_acts, number_ends, figure_acts, power_acts}

module _ (P : Act Phase → Type 0) where
  -- at the end of a literal of kind k: a suffix, or none
  abbrev pub Ends : ℕ → Type 0
  Ends k = P (eats true (suffixed k)) × P (halts true k)

  abbrev pub Names : Type 0
  Names = P (eats false name) × (P (eats false emoji_name) × P (halts false ident))

  abbrev pub Wires : Type 0
  Wires = ((b : Bool) → P (eats false (wire b))) × (P (halts false hardware_ident) × P (halts false dollar))

  abbrev pub Figures : ℕ → Type 0
  Figures base = ((b : Bool) → P (eats false (figures base b))) × ((P (eats false (pointed base)) × P (eats false (behind_e base))) × ((b : Bool) → Ends (int base b)))

  abbrev pub Powers : ℕ → Type 0
  Powers base = ((b : Bool) → P (eats false (power base b))) × ((b : Bool) → Ends (float base b))

  abbrev pub Ways : Phase → Type 0
  Ways behind_slash = P (eats false (line of_comment)) × (P (eats false (inside 1)) × P (halts false slash_mark))
  Ways (line k) = P (eats false (line k)) × P (halts false (line_kind k))
  Ways (inside d) = (P (halts false unclosed_comment) × P (eats false (into (suc d)))) × ((P (eats false closing) × P (eats false (into (d - 1)))) × P (eats false (inside d)))
  Ways (into d) = P (halts false unclosed_comment) × P (eats false (inside d))
  Ways closing = P (halts false unclosed_comment) × P (eats false closed)
  Ways closed = P (halts false block_comment)
  Ways space = P (eats false space) × P (halts false whitespace_kind)
  Ways name = Names
  Ways emoji_name = P (eats false emoji_name) × P (halts false invalid_ident)
  Ways (spelling bare n) = (P (eats false (line of_pragma)) × P (eats false (spelling bare (suc n)))) × (Names × P (halts false invalid_ident))
  Ways behind_at = (P (eats false (line of_annotation)) × P (halts false (line_kind of_annotation))) × P (halts false at_sign)
  Ways behind_dollar = P (eats false emoji_name) × Wires
  Ways (wire any) = Wires
  Ways zero_first = (P (eats false (figures 0 false)) × (P (eats false (figures 1 false)) × P (eats false (figures 3 false)))) × Figures 2
  Ways (figures base any) = Figures base
  Ways (pointed base) = P (eats false (decimals base)) × Ends (float base false)
  Ways (decimals base) = P (eats false (decimals base)) × (P (eats false (behind_e base)) × Ends (float base false))
  Ways (behind_e base) = P (eats false (power base false)) × Powers base
  Ways (power base any) = Powers base
  Ways (quote escaped s) = P (halts true (seen_kind false s)) × (P (eats false (quote_closed (seen_kind true s))) × ((b : Bool) (t : Seen) → P (eats false (quote b t))))
  Ways (quote_closed k) = Ends k
  Ways (suffixed k) = P (eats false (suffixed k)) × P (halts false k)
  Ways (single k) = P (halts false k)

  module _ (u : Letters) where
    -- ---- what `act` asks in several phases
    by_line : (k : Line) (l : List ℕ) → P (eats false (line k)) → P (halts false (line_kind k)) → P (line_acts k l)
    by_line k l e h = on_cond P (next_is not_lf l) e h

    by_name : (l : List ℕ) → Names → P (name_acts u l)
    by_name l w = on_cond P (next_is u.more l) w.0 (on_cond P (next_is (wide_emoji u.emoji) l) w.1.0 w.1.1)

    by_wire : (any : Bool) (l : List ℕ) → Wires → P (wire_acts any l)
    by_wire any l w = on_cond P (next_is (or_underscore is_digit) l) (w.0 (met is_digit any (peek l))) (last any)
      where
        last : (b : Bool) → P (halts false (cond b hardware_ident dollar))
        last true = w.1.0
        last false = w.1.1

    by_suffix : (k : ℕ) (l : List ℕ) → Ends k → P (suffix_acts u k l)
    by_suffix k l w = on_cond P (next_is u.start l) w.0 w.1

    by_end : (k : ℕ) (l : List ℕ) → Ends k → P (number_ends u k l)
    by_end k l w = on_cond P (is_unit (peek l) (peek (tail l))) w.1 (by_suffix k l w)

    by_figure : (base : ℕ) (any : Bool) (l : List ℕ) → Figures base → P (figure_acts u base any l)
    by_figure base any l w =
        on_cond P (next_is (or_underscore (figure base)) l) (w.0 (met (figure base) any (peek l)))
        (on_cond P any
        (on_cond P (eqb (peek l) 0x2E) w.1.0.0 (on_cond P (is_e (peek l)) w.1.0.1 (by_end (int base false) l (w.1.1 false))))
        (by_end (int base true) l (w.1.1 true)))

    by_power : (base : ℕ) (any : Bool) (l : List ℕ) → Powers base → P (power_acts u base any l)
    by_power base any l w = on_cond P (next_is (or_underscore is_digit) l) (w.0 (met is_digit any (peek l))) (by_end (float base (not any)) l (w.1 (not any)))

    -- ---- what holds of every way of a phase holds of what the machine does in it
    pub by_way : (q : Phase) (l : List ℕ) → Ways q → P (act u q l)
    unfolding act
    by_way behind_slash l w = on_cond P (eqb (peek l) 0x2F) w.0 (on_cond P (eqb (peek l) 0x2A) w.1.0 w.1.1)
    by_way (line k) l w = by_line k l w.0 w.1
    by_way (inside d) [] w = w.0.0
    by_way (inside d) (c ∷ t) w =
        on_cond P (opens c (peek t)) w.0.1
        (on_cond P (closes c (peek t)) (on_cond (λ (q : Phase). P (eats false q)) (leb d 1) w.1.0.0 w.1.0.1) w.1.1)
    by_way (into d) [] w = w.0
    by_way (into d) (c ∷ t) w = w.1
    by_way closing [] w = w.0
    by_way closing (c ∷ t) w = w.1
    by_way closed l w = w
    by_way space l w = on_cond P (next_is is_whitespace l) w.0 w.1
    by_way name l w = by_name l w
    by_way emoji_name l w = on_cond P (next_is (goes_on u.more u.emoji) l) w.0 w.1
    by_way (spelling bare n) l w =
        on_cond P (eqb (peek l) (letter n)) (on_cond (λ (q : Phase). P (eats false q)) (leb (length pragma_word - 1) n) w.0.0 w.0.1)
        (on_cond P bare (by_name l w.1.0) w.1.1)
    by_way behind_at l w = on_cond P (u.start (peek l)) (by_line of_annotation l w.0.0 w.0.1) w.1
    by_way behind_dollar l w = on_cond P (next_is (wide_emoji u.emoji) l) w.0 (by_wire false l w.1)
    by_way (wire any) l w = by_wire any l w
    by_way zero_first l w =
        on_cond P (eqb (peek l) 0x62) w.0.0 (on_cond P (eqb (peek l) 0x6F) w.0.1.0 (on_cond P (eqb (peek l) 0x78) w.0.1.1 (by_figure 2 true l w.1)))
    by_way (figures base any) l w = by_figure base any l w
    by_way (pointed base) l w = on_cond P (is_digit (peek l)) w.0 (by_end (float base false) l w.1)
    by_way (decimals base) l w =
        on_cond P (next_is (or_underscore is_digit) l) w.0 (on_cond P (is_e (peek l)) w.1.0 (by_end (float base false) l w.1.1))
    by_way (behind_e base) l w = on_cond P (eqb (peek l) 0x2D || eqb (peek l) 0x2B) w.0 (by_power base false l w.1)
    by_way (power base any) l w = by_power base any l w
    by_way (quote escaped s) [] w = w.0
    by_way (quote escaped s) (c ∷ t) w = on_cond P (eqb c 0x22 && not escaped) w.1.0 (w.1.1 (eqb c 0x5C && not escaped) (seeing s c))
    by_way (quote_closed k) l w = by_suffix k l w
    by_way (suffixed k) l w = on_cond P (next_is u.more l) w.0 w.1
    by_way (single k) l w = w
