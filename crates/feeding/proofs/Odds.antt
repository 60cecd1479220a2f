-- THE FIFTH WORD IN PARTS: in every phase that can end in a number, a hardware identifier or a Dollar the tracker stands for what is found in the token's own
-- bytes, so that the word of the record handed out is `misplaced_of` of the token and its bytes.
-- Assumes nothing.
use Prim.Native.Nat.{ℕ, ◌+◌, ◌≤◌, ◌<◌}
use native.Mathlib.Omega.{arith}
use mathlib.Core.Path.{◌≡◌, refl, ap, sym, ◌∙◌}
use mathlib.Core.Bool.{Bool, true, false, not, cond, ◌&&◌, false≢true}
use mathlib.Core.List.{List, [], ◌∷◌, ◌++◌, append_assoc, append-nil}
use lib.Dec.{eqb, leb}
use lib.ListN.{length, take, length-append}
use lib.Seq.{take_at, take_all, take-append-le}
use borrow.Author.Tests.{lt-leb, leb-true, eqb-true, ne_eqb, not-true}
use Rattle.lists.specs.All.{all}
use Rattle.lists.proofs.Bools.{by_test, on_cond, both, and_false, and_true}
use Rattle.characters.specs.Utf8.{encode, width}
use Rattle.characters.proofs.Encode.{encode_long}
use Rattle.letters.specs.Chars.{is_whitespace}
use Rattle.cutters.specs.Kinds.{hardware_ident, dollar, is_wire, marks, mark_in, int, float, is_number}
use Rattle.cutters.specs.Digits.{is_digit}
use Rattle.cutters.specs.Steps.{first_of}
use Rattle.cutters.specs.Underscores.{hex_first, misplaced_of}
use Rattle.cutters.proofs.Underscores.{found_no}
use Rattle.lexer.specs.Cut.{Letters, wide_emoji}
use Rattle.locality.specs.Machine.{Act, eats, halts}
use Rattle.locality.specs.Phases.{Seen, bits, broken, other, seen_kind, Line, of_comment, of_pragma, of_annotation, line_kind, Phase, behind_slash, line, inside, into, closing, closed, space, name, emoji_name, spelling, behind_at, behind_dollar, wire, zero_first, figures, pointed, decimals, behind_e, power, quote, quote_closed, suffixed, single, act, first}
use Rattle.feeding.specs.Tracker.{Tracker, seen, fresh, word_by}
use Rattle.feeding.proofs.Tracker.{odd, odd_on, word_is, nul_digit, comes, encode_low, char_step, odd_from}
use Rattle.feeding.proofs.Ways.{Ways, Wires, Figures, Powers, by_way}

-- what the tracker says where a token ends
abbrev says : Tracker → ℕ
says o = first_of o.found o.wait

-- ---- before a suffix: what it has seen of the bytes b says of every end what comes of it
pub record Live (b : List ℕ) (n : ℕ) (o : Tracker) : Type 0 where
  pub some : 1 ≤ n
  pub size : length b ≡ n
  pub going : o.shut ≡ false
  pub goes : ((r : List ℕ) → odd (b ++ r) ≡ comes o.found o.wait o.prev o.hex n r)

-- from the start of a suffix on, at m
pub record Shut (b : List ℕ) (m : ℕ) (o : Tracker) : Type 0 where
  pub most : m ≤ length b
  pub stays : o.shut ≡ true
  pub found : odd (take m b) ≡ says o

self : (a : ℕ) → first_of a 0 ≡ a
self a = by_test (eqb a 0) (λ e. rw e (sym (eqb-true a 0 e))) (λ e. rw e)

comes_end : (found wait p : ℕ) (h : Bool) (n : ℕ) → comes found wait p h n [] ≡ first_of found wait
unfolding comes odd_from
comes_end found wait p h n = rw (nul_digit h, self wait)

-- a first character that is ASCII, and neither an underscore nor a point
live_first : (c : ℕ) → eqb c 0x5F ≡ false → eqb c 0x2E ≡ false → Live (c ∷ []) 1 (fresh c)
unfolding comes
live_first c u v =
    record {
      some = omega arith;
      size = refl;
      going = refl;
      goes = λ r. odd_on (hex_first (c ∷ r)) 0 0 c r (rw u) ∙ rw (v, and_true (hex_first (c ∷ r)));
    }

live_step : {b : List ℕ} {n : ℕ} {o : Tracker} → Live b n o → (c : ℕ) → c < 1114112 → Live (b ++ encode c) (n + width c) (seen o false n c)
unfolding seen
live_step {b} {n} {o} l c top =
    record {
      some = omega (arith, l.some);
      size = omega (arith, length-append b (encode c), l.size, encode_long c top);
      going = rw l.going;
      goes = λ r. ap odd (append_assoc b (encode c) r) ∙ l.goes (encode c ++ r) ∙ char_step o.found o.wait o.prev o.hex n c r l.some top ∙ rw l.going;
    }

live_all : {b : List ℕ} {n : ℕ} {o : Tracker} → Live b n o → odd b ≡ says o
live_all {b} {n} {o} l = ap odd (sym (append-nil b)) ∙ l.goes [] ∙ comes_end o.found o.wait o.prev o.hex n

shut_first : {b : List ℕ} {n : ℕ} {o : Tracker} → Live b n o → (c : ℕ) → Shut (b ++ encode c) n (seen o true n c)
unfolding seen
shut_first {b} {n} {o} l c =
    record {
      most = omega (arith, length-append b (encode c), l.size);
      stays = rw l.going;
      found = ap odd (take_at b (encode c) n l.size) ∙ live_all l ∙ rw l.going (sym (self (says o)));
    }

shut_step : {b : List ℕ} {m : ℕ} {o : Tracker} → Shut b m o → (n c : ℕ) → Shut (b ++ encode c) m (seen o false n c)
unfolding seen
shut_step {b} {m} {o} s n c =
    record {
      most = omega (arith, length-append b (encode c), s.most);
      stays = rw s.stays;
      found = ap odd (take-append-le m b (encode c) s.most) ∙ s.found ∙ rw s.stays (sym (self (says o)));
    }

-- ---- the word where a token ends
-- of a kind that has none
pub none_end : (b : List ℕ) (m : ℕ) (o : Tracker) (k : ℕ) → is_number k ≡ false → is_wire k ≡ false → word_by o k ≡ misplaced_of k m b
none_end b m o k e f = rw (found_no k m b e f, e, f)

big : (k : ℕ) → 40 ≤ k → is_wire k ≡ false
big k l = rw (ne_eqb k hardware_ident (λ e. omega arith), ne_eqb k dollar (λ e. omega arith))

number_end : {b : List ℕ} {n : ℕ} {o : Tracker} → Live b n o → (k : ℕ) → 40 ≤ k → word_by o k ≡ misplaced_of k n b
number_end {b} {n} {o} l k g =
    by_test (is_number k)
    (λ e. rw (e, word_is k n b, e, take_all n b (omega (arith, l.size))) (sym (live_all l)))
    (λ e. none_end b n o k e (big k g))

wire_end : {b : List ℕ} {n : ℕ} {o : Tracker} → Live b n o → (m k : ℕ) → is_number k ≡ false → is_wire k ≡ true → word_by o k ≡ misplaced_of k m b
wire_end {b} l m k e f = rw (word_is k m b, e, f) (sym (live_all l))

shut_end : {b : List ℕ} {m : ℕ} {o : Tracker} → Shut b m o → (k : ℕ) → is_number k ≡ true → word_by o k ≡ misplaced_of k m b
shut_end {b} {m} s k e = rw (word_is k m b, e) (sym s.found)

-- ---- what the tracker is worth in each phase, where the token has the bytes b so far, n many, and its suffix starts at m
abbrev pub Inv : List ℕ → ℕ → ℕ → Tracker → Phase → Type 0
Inv b n m o behind_slash = Unit {0}
Inv b n m o (line k) = Unit {0}
Inv b n m o (inside d) = Unit {0}
Inv b n m o (into d) = Unit {0}
Inv b n m o closing = Unit {0}
Inv b n m o closed = Unit {0}
Inv b n m o space = Unit {0}
Inv b n m o name = Unit {0}
Inv b n m o emoji_name = Unit {0}
Inv b n m o (spelling bare k) = Unit {0}
Inv b n m o behind_at = Unit {0}
Inv b n m o behind_dollar = Live b n o
Inv b n m o (wire any) = Live b n o
Inv b n m o zero_first = Live b n o
Inv b n m o (figures base any) = Live b n o
Inv b n m o (pointed base) = Live b n o
Inv b n m o (decimals base) = Live b n o
Inv b n m o (behind_e base) = Live b n o
Inv b n m o (power base any) = Live b n o
Inv b n m o (quote escaped s) = Unit {0}
Inv b n m o (quote_closed k) = 56 ≤ k
Inv b n m o (suffixed k) = (40 ≤ k) × (is_number k ≡ true → Shut b m o)
Inv b n m o (single k) = (is_number k ≡ false) × (is_wire k ≡ false)

-- what the machine does keeps that, and where it ends the token the word is right
abbrev pub Good : List ℕ → ℕ → ℕ → Tracker → Act Phase → Type 0
Good b n m o (eats e q) = (c : ℕ) → c < 1114112 → Inv (b ++ encode c) (n + width c) (cond e n m) (seen o e n c) q
Good b n m o (halts e k) = word_by o k ≡ misplaced_of k (cond e n m) b

closed_kind : (s : Seen) → 56 ≤ seen_kind true s
closed_kind (bits true low) = omega arith
closed_kind (bits false low) = omega arith
closed_kind (broken two) = omega arith
closed_kind other = omega arith

open_kind : (s : Seen) → 56 ≤ seen_kind false s
open_kind (bits true low) = omega arith
open_kind (bits false low) = omega arith
open_kind (broken true) = omega arith
open_kind (broken false) = omega arith
open_kind other = omega arith

past_numbers : (k : ℕ) → 56 ≤ k → is_number k ≡ false
past_numbers k l = simp (lt-leb k 55 (omega arith), and_false)

int_big : (base : ℕ) (e : Bool) → 40 ≤ int base e
int_big base true = omega arith
int_big base false = omega arith

float_big : (base : ℕ) (e : Bool) → 40 ≤ float base e
float_big base true = omega arith
float_big base false = omega arith

module _ (b : List ℕ) (n m : ℕ) (o : Tracker) where
  -- an end with no word to find
  plainly : (e : Bool) (k : ℕ) → is_number k ≡ false → is_wire k ≡ false → Good b n m o (halts e k)
  plainly e k = none_end b (cond e n m) o k

  -- a number, with a suffix or without
  ends : (k : ℕ) → 40 ≤ k → Live b n o → ((c : ℕ) → c < 1114112 → (40 ≤ k) × (is_number k ≡ true → Shut (b ++ encode c) n (seen o true n c))) × (word_by o k ≡ misplaced_of k n b)
  ends k g l = ((λ c t. (g, (λ e. shut_first l c))), number_end l k g)

  line_plain : (k : Line) → word_by o (line_kind k) ≡ misplaced_of (line_kind k) m b
  line_plain of_comment = none_end b m o 1 refl refl
  line_plain of_pragma = none_end b m o 8 refl refl
  line_plain of_annotation = none_end b m o 9 refl refl

  wires : Live b n o → Wires (Good b n m o)
  wires l = ((λ any c t. live_step l c t), (wire_end l m hardware_ident refl refl, wire_end l m dollar refl refl))

  figs : (base : ℕ) → Live b n o → Figures (Good b n m o) base
  figs base l = ((λ any c t. live_step l c t), (((λ c t. live_step l c t), (λ c t. live_step l c t)), (λ e. ends (int base e) (int_big base e) l)))

  powers : (base : ℕ) → Live b n o → Powers (Good b n m o) base
  powers base l = ((λ any c t. live_step l c t), (λ e. ends (float base e) (float_big base e) l))

  ways : (q : Phase) → Inv b n m o q → Ways (Good b n m o) q
  ways behind_slash i = ((λ c t. tt), ((λ c t. tt), plainly false 34 refl refl))
  ways (line k) i = ((λ c t. tt), line_plain k)
  ways (inside d) i = ((plainly false 3 refl refl, (λ c t. tt)), (((λ c t. tt), (λ c t. tt)), (λ c t. tt)))
  ways (into d) i = (plainly false 3 refl refl, (λ c t. tt))
  ways closing i = (plainly false 3 refl refl, (λ c t. tt))
  ways closed i = plainly false 2 refl refl
  ways space i = ((λ c t. tt), plainly false 4 refl refl)
  ways name i = ((λ c t. tt), ((λ c t. tt), plainly false 5 refl refl))
  ways emoji_name i = ((λ c t. tt), plainly false 7 refl refl)
  ways (spelling bare k) i = (((λ c t. tt), (λ c t. tt)), (((λ c t. tt), ((λ c t. tt), plainly false 5 refl refl)), plainly false 7 refl refl))
  ways behind_at i = (((λ c t. tt), line_plain of_annotation), plainly false 19 refl refl)
  ways behind_dollar i = ((λ c t. tt), wires i)
  ways (wire any) i = wires i
  ways zero_first i = (((λ c t. live_step i c t), ((λ c t. live_step i c t), (λ c t. live_step i c t))), figs 2 i)
  ways (figures base any) i = figs base i
  ways (pointed base) i = ((λ c t. live_step i c t), ends (float base false) (float_big base false) i)
  ways (decimals base) i = ((λ c t. live_step i c t), ((λ c t. live_step i c t), ends (float base false) (float_big base false) i))
  ways (behind_e base) i = ((λ c t. live_step i c t), powers base i)
  ways (power base any) i = powers base i
  ways (quote escaped s) i = (plainly true (seen_kind false s) (past_numbers (seen_kind false s) (open_kind s)) (big (seen_kind false s) (omega (arith, open_kind s))), ((λ c t. closed_kind s), (λ e s c t. tt)))
  ways (quote_closed k) i = ((λ c t. (omega arith, (λ e. absurd (false≢true (sym (past_numbers k i) ∙ e))))), plainly true k (past_numbers k i) (big k (omega arith)))
  ways (suffixed k) i = ((λ c t. (i.0, (λ e. shut_step (i.1 e) n c))), by_test (is_number k) (λ e. shut_end (i.1 e) k e) (λ e. none_end b m o k e (big k i.0)))
  ways (single k) i = plainly false k i.0 i.1

  pub inv_step : (u : Letters) (q : Phase) (l : List ℕ) → Inv b n m o q → Good b n m o (act u q l)
  inv_step u q l i = by_way (Good b n m o) u q l (ways q i)

-- ---- the phase behind a first character
by_cond : {A : Type 0} (P : A → Type 0) (b : Bool) {x y : A} → (b ≡ true → P x) → (b ≡ false → P y) → P (cond b x y)
by_cond P true f g = f refl
by_cond P false f g = g refl

-- no single mark is a number or a wire
abbrev plain_mark : ℕ → Bool
plain_mark k = not (is_number k) && not (is_wire k)

plain_marks : (ms : List (ℕ × ℕ)) (c : ℕ) → all (λ m. plain_mark m.1) ms ≡ true → plain_mark (mark_in ms c) ≡ true
unfolding mark_in all
plain_marks [] c h = refl
plain_marks (m ∷ ms) c h =
    let p = both (plain_mark m.1) (all (λ m. plain_mark m.1) ms) h in
    on_cond (λ (k : ℕ). plain_mark k ≡ true) (eqb c m.0) p.0 (plain_marks ms c p.1)

plain_mark_lem : (c : ℕ) → (is_number (mark_in marks c) ≡ false) × (is_wire (mark_in marks c) ≡ false)
unfolding marks all
plain_mark_lem c =
    let k = mark_in marks c in
    let p = both (not (is_number k)) (not (is_wire k)) (plain_marks marks c refl) in
    (not-true (is_number k) p.0, not-true (is_wire k) p.1)

digit_low : (c : ℕ) → is_digit c ≡ true → (0x30 ≤ c) × (c ≤ 0x39)
unfolding is_digit
digit_low c h = let p = both (leb 0x30 c) (leb c 0x39) h in (leb-true 0x30 c p.0, leb-true c 0x39 p.1)

low_live : (c : ℕ) → c < 0x5F → (c ≡ 0x2E → ⊥) → Live (encode c) (width c) (fresh c)
low_live c l v =
    let e = encode_low c (omega arith) in
    let w : width c ≡ 1 = sym (encode_long c (omega arith)) ∙ ap length e in
    rw (e, w) (live_first c (ne_eqb c 0x5F (λ h. omega arith)) (ne_eqb c 0x2E v))

pub inv_first : (u : Letters) (p c : ℕ) → Inv (encode c) (width c) 0 (fresh c) (first u p c)
unfolding first
inv_first u p c =
    let P = Inv (encode c) (width c) 0 (fresh c) in
    let l : is_digit c ≡ true → Live (encode c) (width c) (fresh c) = λ h. let d = digit_low c h in low_live c (omega (arith, d.1)) (λ e. omega (arith, d.0)) in
    on_cond P (eqb c 0x2F) tt
    (on_cond P (is_whitespace c) tt
    (on_cond P (u.start c) (on_cond P (eqb p 1 && eqb c 0x70) tt tt)
    (by_cond P (is_digit c) (λ h. on_cond P (eqb c 0x30) (l h) (l h))
    (λ h. on_cond P (eqb c 0x23) tt
    (on_cond P (eqb c 0x40) tt
    (by_cond P (eqb c 0x24) (λ i. let e = eqb-true c 0x24 i in low_live c (omega arith) (λ f. omega arith))
    (λ i. on_cond P (not (eqb (mark_in marks c) 0)) (plain_mark_lem c)
    (on_cond P (eqb c 0x22) tt
    (on_cond P (wide_emoji u.emoji c) tt (refl, refl))))))))))
