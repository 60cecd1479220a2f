-- A newline, or another blank, for what stands behind a token: it ends every token just as well, but white space, and perhaps a line.
-- Assumes nothing.
use Prim.Native.Nat.{ℕ, suc, ◌-◌, ◌≤◌, ◌<◌}
use native.Mathlib.Omega.{arith}
use mathlib.Core.Path.{◌≡◌, refl, ap, sym, subst, ◌∙◌}
use mathlib.Core.Bool.{Bool, true, false, cond, not, ◌&&◌, ◌||◌, false≢true}
use mathlib.Core.List.{List, [], ◌∷◌}
use lib.Dec.{eqb, leb}
use borrow.Author.Tests.{eqb-true, ne_eqb, lt-leb}
use Rattle.lists.proofs.Bools.{by_test, on_cond}
use Rattle.letters.specs.Chars.{is_whitespace}
use Rattle.cutters.specs.Kinds.{unclosed_comment, whitespace_kind, invalid_ident, at_sign, int, float}
use Rattle.cutters.specs.Digits.{peek, is_digit, is_hex_digit}
use Rattle.lexer.specs.Cut.{Letters, not_lf, is_e, or_underscore, met, opens, closes, is_unit, wide_emoji, goes_on}
use Rattle.locality.specs.Machine.{Act, eats, halts}
use Rattle.locality.specs.Phases as Phases
use Rattle.locality.specs.Phases.{seen_kind, Line, of_comment, of_pragma, of_annotation, line_kind, Phase, behind_slash, line, inside, into, closing, closed, space, emoji_name, spelling, behind_at, behind_dollar, wire, zero_first, figures, pointed, decimals, behind_e, power, quote, quote_closed, suffixed, single, Seen, letter, figure, line_acts, wire_acts, suffix_acts, number_ends, fraction_acts, figure_acts, power_acts, name_acts, act, Usual}
use Rattle.locality.proofs.Phases.{no_letter}
use Rattle.locality.proofs.Swap.{Swap, Always}

abbrev lf : ℕ
lf = 0x0A

never : {P : Type 0} {b d : Bool} {p : Phase} {k : ℕ} → eats b p ≡ halts d k → P
never {b = b} {d = d} {p = p} {k = k} h = let z : ◌≡◌ {A = ℕ} 0 1 = cc in absurd (omega arith)

-- a test under which the machine would eat: it halts, so it goes on behind the test
past : (t g : Bool) (q : Phase) {x : Act Phase} {b : Bool} {k : ℕ} → cond t (eats g q) x ≡ halts b k → x ≡ halts b k
past true g q h = never h
past false g q h = h

module _ (u : Letters) where
  -- ---- only units and comments are decided by two characters: what the machine does at c before r it does before s; or it is inside a comment
  data Near (q : Phase) (c : ℕ) (r s : List ℕ) : Type 0 where
    alike : act u q (c ∷ r) ≡ act u q (c ∷ s) → Near q c r s
    within : (d : ℕ) → q ≡ inside d → Near q c r s

  near : (c : ℕ) (r s : List ℕ) → is_unit c (peek r) ≡ is_unit c (peek s) → (q : Phase) → Near q c r s
  unfolding act
  near c r s e behind_slash = alike refl
  near c r s e (line j) = alike refl
  near c r s e (inside d) = within d refl
  near c r s e (into d) = alike refl
  near c r s e closing = alike refl
  near c r s e closed = alike refl
  near c r s e space = alike refl
  near c r s e Phases.name = alike refl
  near c r s e emoji_name = alike refl
  near c r s e (spelling bare n) = alike refl
  near c r s e behind_at = alike refl
  near c r s e behind_dollar = alike refl
  near c r s e (wire any) = alike refl
  near c r s e zero_first = alike (rw e)
  near c r s e (figures base any) = alike (rw e)
  near c r s e (pointed base) = alike (rw e)
  near c r s e (decimals base) = alike (rw e)
  near c r s e (behind_e base) = alike (rw e)
  near c r s e (power base any) = alike (rw e)
  near c r s e (quote escaped z) = alike refl
  near c r s e (quote_closed j) = alike refl
  near c r s e (suffixed j) = alike refl
  near c r s e (single j) = alike refl

  -- inside a block comment nothing ends before a character
  inside_eats : (d c : ℕ) (t : List ℕ) (b : Bool) (k : ℕ) → act u (inside d) (c ∷ t) ≡ halts b k → ⊥
  unfolding act
  inside_eats d c t b k h = never (past (closes c (peek t)) false (cond (leb d 1) closing (into (d - 1))) (past (opens c (peek t)) false (into (suc d)) h))

  -- and from inside, the machine stays inside, or ends an unclosed comment
  pub data Inside : Phase → Type 0 where
    in_deep : (d : ℕ) → Inside (inside d)
    in_into : (d : ℕ) → Inside (into d)
    in_closing : Inside closing

  inside_goes : (d c : ℕ) (t : List ℕ) (p : Phase) (b : Bool) → act u (inside d) (c ∷ t) ≡ eats b p → Inside p
  unfolding act
  inside_goes d c t p b h =
      by_test (opens c (peek t))
      (λ o.
      let y : eats false (into (suc d)) ≡ eats b p = rw o at h in
      let w : into (suc d) ≡ p = cc in
      subst Inside w (in_into (suc d)))
      (λ o. by_test (closes c (peek t))
      (λ l.
      let y : eats false (cond (leb d 1) closing (into (d - 1))) ≡ eats b p = rw (o, l) at h in
      let w : cond (leb d 1) closing (into (d - 1)) ≡ p = cc in
      subst Inside w (on_cond Inside (leb d 1) in_closing (in_into (d - 1))))
      (λ l.
      let y : eats false (inside d) ≡ eats b p = rw (o, l) at h in
      let w : inside d ≡ p = cc in
      subst Inside w (in_deep d)))

  -- there no token ends before a character, and at the end only an unclosed comment does
  inside_none : {p : Phase} (c : ℕ) (t : List ℕ) (b : Bool) (k : ℕ) → Inside p → act u p (c ∷ t) ≡ halts b k → ⊥
  unfolding act
  inside_none c t b k (in_deep d) h = inside_eats d c t b k h
  inside_none c t b k (in_into d) h = never h
  inside_none c t b k in_closing h = never h

  inside_end : {p : Phase} (b : Bool) (k : ℕ) → Inside p → act u p [] ≡ halts b k → k ≡ unclosed_comment
  unfolding act
  inside_end b k (in_deep d) h = cc
  inside_end b k (in_into d) h = cc
  inside_end b k in_closing h = cc

  -- ---- so where two rests end a token alike, and make alike units, they may be swapped
  swap_by : {ok : ℕ → Type 0} {r s : List ℕ} → ((c : ℕ) → is_unit c (peek r) ≡ is_unit c (peek s)) → ((p : Phase) (b : Bool) (k : ℕ) → ok k → Inside p → act u p r ≡ halts b k → ⊥) →
      ((q : Phase) (b : Bool) (k : ℕ) → ok k → act u q r ≡ halts b k → act u q s ≡ halts b k) → Swap (act u) ok r s
  swap_by {ok} {r} {s} units out here =
      record {
        here = here;
        last = λ q p c b d k o h z.
            elim (near c r s (units c) q) [
              | alike e ↦ sym e ∙ h
              | within d₁ i ↦ absurd (out p d k o (inside_goes d₁ c r p b (rw i at h)) z)
            ];
        before = λ q c b k h.
            elim (near c r s (units c) q) [
              | alike e ↦ sym e ∙ h
              | within d₁ i ↦ absurd (inside_eats d₁ c r b k (rw i at h))
            ];
      }

  -- ---- ONE CHARACTER BEHIND, that begins no unit: then anything
  pub swap_one : (x : ℕ) (r s : List ℕ) → ((y : ℕ) → is_unit x y ≡ false) → Always (act u) (x ∷ r) (x ∷ s)
  swap_one x r s begins =
      let e : is_unit x (peek r) ≡ is_unit x (peek s) = begins (peek r) ∙ sym (begins (peek s)) in
      swap_by (λ c. refl) (λ p b k o i h. inside_none x r b k i h)
      (λ q b k o h.
      elim (near x r s e q) [
        | alike i ↦ sym i ∙ h
        | within d i ↦ absurd (inside_eats d x r b k (rw i at h))
      ])

-- ---- characters that end every token, but white space and perhaps a line
-- x is the second letter of no unit
pub record NoUnit (x : ℕ) : Type 0 where
  pub no_t : eqb x 0x74 ≡ false
  pub no_s : eqb x 0x73 ≡ false
  pub no_m : eqb x 0x6D ≡ false

pub record Blank (u : Letters) (y : ℕ) : Type 0 where
  pub start : u.start y ≡ false
  pub more : u.more y ≡ false
  pub emoji : wide_emoji u.emoji y ≡ false
  pub goes : goes_on u.more u.emoji y ≡ false
  pub digit : is_digit y ≡ false
  pub figures_none : ((base : ℕ) → or_underscore (figure base) y ≡ false)
  pub low : eqb y 0x5F ≡ false
  pub slash : eqb y 0x2F ≡ false
  pub star : eqb y 0x2A ≡ false
  pub point : eqb y 0x2E ≡ false
  pub e : is_e y ≡ false
  pub sign : (eqb y 0x2D || eqb y 0x2B) ≡ false
  pub b : eqb y 0x62 ≡ false
  pub o : eqb y 0x6F ≡ false
  pub x : eqb y 0x78 ≡ false
  pub unit : ((z : ℕ) → is_unit y z ≡ false)
  pub second : NoUnit y
  pub letters : ((n : ℕ) → eqb y (letter n) ≡ false)

-- so is each control character and the space, where they are no letters
low_blank : (u : Letters) (y : ℕ) → y ≤ 0x20 → u.start y ≡ false → u.more y ≡ false → Blank u y
unfolding is_digit is_hex_digit is_unit
low_blank u y l f g =
    let isnt : (d : ℕ) → 0x20 < d → eqb y d ≡ false = λ d h. ne_eqb y d (λ e. omega arith) in
    let below : (d : ℕ) → 0x20 < d → leb d y ≡ false = λ d h. lt-leb d y (omega arith) in
    let digit : is_digit y ≡ false = rw (below 0x30 (omega arith)) in
    let hex : is_hex_digit y ≡ false = rw (below 0x30 (omega arith), below 0x41 (omega arith), below 0x61 (omega arith)) in
    let low : eqb y 0x5F ≡ false = isnt 0x5F (omega arith) in
    let emoji : wide_emoji u.emoji y ≡ false = rw (below 0x80 (omega arith)) in
    record {
      start = f;
      more = g;
      emoji = emoji;
      goes = rw (g, emoji, isnt 0x200D (omega arith));
      digit = digit;
      figures_none = λ base. by_test (eqb base 3) (λ e. rw (e, low, hex)) (λ e. rw (e, low, digit));
      low = low;
      slash = isnt 0x2F (omega arith);
      star = isnt 0x2A (omega arith);
      point = isnt 0x2E (omega arith);
      e = rw (isnt 0x65 (omega arith), isnt 0x45 (omega arith));
      sign = rw (isnt 0x2D (omega arith), isnt 0x2B (omega arith));
      b = isnt 0x62 (omega arith);
      o = isnt 0x6F (omega arith);
      x = isnt 0x78 (omega arith);
      unit = λ z. rw (isnt 0x73 (omega arith), isnt 0x64 (omega arith), isnt 0x6E (omega arith), isnt 0x75 (omega arith), isnt 0x6D (omega arith), isnt 0xB5 (omega arith), isnt 0x69 (omega arith));
      second = record { no_t = isnt 0x74 (omega arith); no_s = isnt 0x73 (omega arith); no_m = isnt 0x6D (omega arith) };
      letters = λ n. no_letter y n (omega arith);
    }

pub lf_blank : (u : Letters) → Usual u → Blank u lf
lf_blank u usual = low_blank u lf (omega arith) usual.no_start usual.no_more

pub cr_blank : (u : Letters) → Usual u → Blank u 0x0D
cr_blank u usual = low_blank u 0x0D (omega arith) usual.cr_start usual.cr_more

-- the kinds of tokens that y ends: no white space, and no line unless y is an LF
pub record Stops (y k : ℕ) : Type 0 where
  pub no_space : (k ≡ whitespace_kind → ⊥)
  pub no_line : (not_lf y ≡ true → (j : Line) → line_kind j ≡ k → ⊥)

pub lf_stops : {k : ℕ} → (k ≡ whitespace_kind → ⊥) → Stops lf k
unfolding not_lf
lf_stops n = record { no_space = n; no_line = λ e. absurd (false≢true e) }

module _ (u : Letters) (usual : Usual u) (x y : ℕ) (blank : Blank u y) (r s : List ℕ) where
  -- "where the machine halts before x, it halts before y, and says the same", for parts of the definition of `act`
  abbrev Same : (List ℕ → Act Phase) → Type 0
  Same f = (b : Bool) (k : ℕ) → f (x ∷ r) ≡ halts b k → f (y ∷ s) ≡ halts b k

  same_name : Same (name_acts u)
  same_name b k h = rw (blank.more, blank.emoji) (past (wide_emoji u.emoji x) false emoji_name (past (u.more x) false Phases.name h))

  same_suffix : (j : ℕ) → Same (suffix_acts u j)
  same_suffix j b k h = rw blank.start (past (u.start x) true (suffixed j) h)

  same_number : (j : ℕ) → Same (number_ends u j)
  same_number j b k h =
      rw (blank.unit (peek s)) (by_test (is_unit x (peek r)) (λ e. rw blank.start (rw e at h)) (λ e. same_suffix j b k (rw e at h)))

  same_fraction : (base : ℕ) → Same (fraction_acts u base)
  same_fraction base b k h = rw (blank.point, blank.e) (same_number (int base false) b k (past (is_e x) false (behind_e base) (past (eqb x 0x2E) false (pointed base) h)))

  same_figures : (base : ℕ) (any : Bool) → Same (figure_acts u base any)
  same_figures base any b k h = rw (blank.figures_none base) (either any (past (or_underscore (figure base) x) false (figures base (met (figure base) any x)) h))
    where
      either : (any : Bool) → cond any (fraction_acts u base (x ∷ r)) (number_ends u (int base true) (x ∷ r)) ≡ halts b k → cond any (fraction_acts u base (y ∷ s)) (number_ends u (int base true) (y ∷ s)) ≡ halts b k
      either true e = same_fraction base b k e
      either false e = same_number (int base true) b k e

  same_power : (base : ℕ) (any : Bool) → Same (power_acts u base any)
  same_power base any b k h = rw (blank.low, blank.digit) (same_number (float base (not any)) b k (past (or_underscore is_digit x) false (power base (met is_digit any x)) h))

  same_wire : (any : Bool) → Same (wire_acts any)
  same_wire any b k h = rw (blank.low, blank.digit) (past (or_underscore is_digit x) false (wire (met is_digit any x)) h)

  same_at : (b : Bool) (k : ℕ) → cond (u.start x) (line_acts of_annotation (x ∷ r)) (halts false at_sign) ≡ halts b k → ◌≡◌ {A = Act Phase} (halts false at_sign) (halts b k)
  unfolding not_lf
  same_at b k h =
      by_test (u.start x)
      (λ e. by_test (eqb x lf)
      (λ l. absurd (false≢true (sym usual.no_start ∙ ap u.start (sym (eqb-true x lf l)) ∙ e)))
      (λ l. never (rw (e, l) at h)))
      (λ e. rw e at h)

  same_line : (j : Line) (b : Bool) (k : ℕ) → Stops y k → line_acts j (x ∷ r) ≡ halts b k → line_acts j (y ∷ s) ≡ halts b k
  same_line j b k o h =
      let z : ◌≡◌ {A = Act Phase} (halts false (line_kind j)) (halts b k) = past (not_lf x) false (line j) h in
      by_test (not_lf y) (λ n. absurd (o.no_line n j (cc))) (λ n. rw n z)

  here : (q : Phase) (b : Bool) (k : ℕ) → Stops y k → act u q (x ∷ r) ≡ halts b k → act u q (y ∷ s) ≡ halts b k
  unfolding act
  here behind_slash b k o h = rw (blank.slash, blank.star) (past (eqb x 0x2A) false (inside 1) (past (eqb x 0x2F) false (line of_comment) h))
  here (line j) b k o h = same_line j b k o h
  here (inside d) b k o h = absurd (inside_none u x r b k (in_deep d) h)
  here (into d) b k o h = never h
  here closing b k o h = never h
  here closed b k o h = h
  here space b k o h =
      let z : halts false whitespace_kind ≡ halts b k = past (is_whitespace x) false space h in
      absurd (o.no_space (cc))
  here Phases.name b k o h = same_name b k h
  here emoji_name b k o h = rw blank.goes (past (goes_on u.more u.emoji x) false emoji_name h)
  here (spelling bare n) b k o h =
      rw (blank.letters n) (either bare (past (eqb x (letter n)) false (cond (leb 5 n) (line of_pragma) (spelling bare (suc n))) h))
    where
      either : (bare : Bool) → cond bare (name_acts u (x ∷ r)) (halts false invalid_ident) ≡ halts b k → cond bare (name_acts u (y ∷ s)) (halts false invalid_ident) ≡ halts b k
      either true e = same_name b k e
      either false e = e
  here behind_at b k o h = rw blank.start (same_at b k h)
  here behind_dollar b k o h = rw blank.emoji (same_wire false b k (past (wide_emoji u.emoji x) false emoji_name h))
  here (wire any) b k o h = same_wire any b k h
  here zero_first b k o h =
      rw (blank.b, blank.o, blank.x)
      (same_figures 2 true b k (past (eqb x 0x78) false (figures 3 false) (past (eqb x 0x6F) false (figures 1 false) (past (eqb x 0x62) false (figures 0 false) h))))
  here (figures base any) b k o h = same_figures base any b k h
  here (pointed base) b k o h = rw blank.digit (same_number (float base false) b k (past (is_digit x) false (decimals base) h))
  here (decimals base) b k o h =
      rw (blank.low, blank.digit, blank.e)
      (same_number (float base false) b k (past (is_e x) false (behind_e base) (past (or_underscore is_digit x) false (decimals base) h)))
  here (behind_e base) b k o h = rw blank.sign (same_power base false b k (past (eqb x 0x2D || eqb x 0x2B) false (power base false) h))
  here (power base any) b k o h = same_power base any b k h
  here (quote escaped z) b k o h = never (past (eqb x 0x22 && not escaped) false (quote_closed (seen_kind true z)) h)
  here (quote_closed j) b k o h = same_suffix j b k h
  here (suffixed j) b k o h = rw blank.more (past (u.more x) false (suffixed j) h)
  here (single j) b k o h = h

  module _ (none : NoUnit x) where
    unit_same : (c : ℕ) → is_unit c x ≡ is_unit c y
    unfolding is_unit
    unit_same c = rw (none.no_t, none.no_s, none.no_m, blank.second.no_t, blank.second.no_s, blank.second.no_m)

    -- A BLANK FOR WHATEVER ELSE ENDED THE TOKEN
    pub blank_swap : Swap (act u) (Stops y) (x ∷ r) (y ∷ s)
    blank_swap = swap_by u unit_same (λ p b k o i h. inside_none u x r b k i h) here

-- ---- at the end of the text a newline changes no token but white space, an unclosed comment and an unclosed quoted text
pub record Ended (k : ℕ) : Type 0 where
  pub no_space : (k ≡ whitespace_kind → ⊥)
  pub no_comment : (k ≡ unclosed_comment → ⊥)
  pub no_quote : ((s : Seen) → seen_kind false s ≡ k → ⊥)

module _ (u : Letters) (usual : Usual u) (s : List ℕ) where
  -- a newline begins no suffix, as the end does not
  ends_suffix : (j : ℕ) → suffix_acts u j [] ≡ suffix_acts u j (lf ∷ s)
  ends_suffix j = rw usual.no_start

  ends_number : (j : ℕ) → number_ends u j [] ≡ number_ends u j (lf ∷ s)
  unfolding is_unit
  ends_number j = ends_suffix j

  ends_name : name_acts u [] ≡ name_acts u (lf ∷ s)
  ends_name = rw usual.no_more

  ends_figures : (base : ℕ) (any : Bool) → figure_acts u base any [] ≡ figure_acts u base any (lf ∷ s)
  ends_figures base any = rw ((lf_blank u usual).figures_none base) (either any)
    where
      either : (any : Bool) → cond any (fraction_acts u base []) (number_ends u (int base true) []) ≡ cond any (fraction_acts u base (lf ∷ s)) (number_ends u (int base true) (lf ∷ s))
      either true = ends_number (int base false)
      either false = ends_number (int base true)

  ends_power : (base : ℕ) (any : Bool) → power_acts u base any [] ≡ power_acts u base any (lf ∷ s)
  ends_power base any = rw (lf_blank u usual).digit (ends_number (float base (not any)))

  ends_here : (q : Phase) (b : Bool) (k : ℕ) → Ended k → act u q [] ≡ halts b k → act u q (lf ∷ s) ≡ halts b k
  unfolding act not_lf is_digit
  ends_here behind_slash b k o h = h
  ends_here (line j) b k o h = h
  ends_here (inside d) b k o h = absurd (o.no_comment (cc))
  ends_here (into d) b k o h = absurd (o.no_comment (cc))
  ends_here closing b k o h = absurd (o.no_comment (cc))
  ends_here closed b k o h = h
  ends_here space b k o h = absurd (o.no_space (cc))
  ends_here Phases.name b k o h = sym ends_name ∙ h
  ends_here emoji_name b k o h = rw usual.no_more h
  ends_here (spelling bare n) b k o h = rw (no_letter lf n (omega arith)) (either bare (rw (no_letter 0 n (omega arith)) at h))
    where
      either : (bare : Bool) → cond bare (name_acts u []) (halts false invalid_ident) ≡ halts b k → cond bare (name_acts u (lf ∷ s)) (halts false invalid_ident) ≡ halts b k
      either true e = sym ends_name ∙ e
      either false e = e
  ends_here behind_at b k o h = rw usual.no_start (rw usual.no_nul at h)
  ends_here behind_dollar b k o h = h
  ends_here (wire any) b k o h = h
  ends_here zero_first b k o h = sym (ends_figures 2 true) ∙ h
  ends_here (figures base any) b k o h = sym (ends_figures base any) ∙ h
  ends_here (pointed base) b k o h = sym (ends_number (float base false)) ∙ h
  ends_here (decimals base) b k o h = sym (ends_number (float base false)) ∙ h
  ends_here (behind_e base) b k o h = sym (ends_power base false) ∙ h
  ends_here (power base any) b k o h = sym (ends_power base any) ∙ h
  ends_here (quote escaped z) b k o h = absurd (o.no_quote z (cc))
  ends_here (quote_closed j) b k o h = sym (ends_suffix j) ∙ h
  ends_here (suffixed j) b k o h = rw usual.no_more h
  ends_here (single j) b k o h = h

  -- A NEWLINE FOR THE END
  pub end_swap : Swap (act u) Ended [] (lf ∷ s)
  unfolding is_unit
  end_swap = swap_by u (λ c. refl) (λ p b k o i h. o.no_comment (inside_end u b k i h)) ends_here
