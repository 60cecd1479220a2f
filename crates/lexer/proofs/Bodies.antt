-- Quoted texts: what the loop has seen of one says which kind it is.
-- Assumes nothing.
use Prim.Native.Nat.{ℕ, zero, suc, ◌+◌, ◌≤◌, ◌<◌, min}
use native.Mathlib.Omega.{arith}
use native.Mathlib.Decide.{dec_lt, ℕ_discrete}
use mathlib.Core.Path.{◌≡◌, refl, ap, sym, ◌∙◌}
use mathlib.Core.Bool.{Bool, true, false, cond, ◌&&◌, ◌||◌, false≢true}
use mathlib.Core.List.{List, [], ◌∷◌, ◌++◌, append_assoc, append-nil, tail}
use native.Mathlib.Numerals.{add-one}
use lib.ListN.{length, drop, get_or, drop_of_length-le}
use lib.Seq.{drop-cons}
use lib.Dec.{eqb}
use borrow.Author.Tests.{eq-eqb, ne_eqb, eqb-true}
use Rattle.lists.specs.All.{all}
use Rattle.lists.proofs.Bools.{by_test, both, and_false, and_true, or_false}
use Rattle.lists.proofs.Cut.{by_length}
use Rattle.characters.specs.Utf8.{first, chars}
use Rattle.characters.proofs.Text.{chars_nil, chars_first}
use Rattle.characters.proofs.Ascii.{wide, chars_ascii}
use Rattle.cutters.specs.Digits.{peek}
use Rattle.lexer.specs.Cut.{Quote, escapes, quoted, is_bit, without_lf, twice, quote_kind}
use Rattle.cutters.specs.Kinds.{str, bit_str}
use Rattle.lexer.specs.Steps.{Quoted, Added, bits_by}
use Rattle.lexer.proofs.Bytewise.{peek_same, peek_ascii, tail_same, tail_less, peek_drop, tail_drop, stands}

-- ---- what the loop has seen, of the text so far
unfoldable all_plain : List ℕ → Bool
all_plain [] = true
all_plain (c ∷ t) = (eqb c 0x0A || is_bit c) && all_plain t

unfoldable lfs : List ℕ → ℕ
lfs [] = 0
lfs (c ∷ t) = cond (eqb c 0x0A) 1 0 + lfs t

unfoldable last : List ℕ → ℕ
last [] = 0
last (c ∷ []) = c
last (c ∷ x ∷ t) = last (x ∷ t)

and_assoc : (a b c : Bool) → ((a && b) && c) ≡ (a && (b && c))
and_assoc true b c = refl
and_assoc false b c = refl

or_assoc : (a b c : Bool) → ((a || b) || c) ≡ (a || (b || c))
or_assoc true b c = refl
or_assoc false b c = refl

plain_snoc : (d : List ℕ) (c : ℕ) → all_plain (d ++ (c ∷ [])) ≡ (all_plain d && (eqb c 0x0A || is_bit c))
unfolding all_plain
plain_snoc [] c = and_true (eqb c 0x0A || is_bit c)
plain_snoc (x ∷ d) c = rw (plain_snoc d c) (sym (and_assoc (eqb x 0x0A || is_bit x) (all_plain d) (eqb c 0x0A || is_bit c)))

lfs_snoc : (d : List ℕ) (c : ℕ) → lfs (d ++ (c ∷ [])) ≡ lfs d + cond (eqb c 0x0A) 1 0
unfolding lfs
lfs_snoc [] c = omega arith
lfs_snoc (x ∷ d) c = omega (arith, lfs_snoc d c)

last_snoc : (d : List ℕ) (c : ℕ) → last (d ++ (c ∷ [])) ≡ c
unfolding last
last_snoc [] c = refl
last_snoc (x ∷ []) c = refl
last_snoc (x ∷ y ∷ d) c = last_snoc (y ∷ d) c

twice_snoc : (d : List ℕ) (c : ℕ) → twice (d ++ (c ∷ [])) ≡ (twice d || (eqb (last d) 0x5F && eqb c 0x5F))
unfolding twice last
twice_snoc [] c = refl
twice_snoc (x ∷ []) c = or_false (eqb x 0x5F && eqb c 0x5F)
twice_snoc (x ∷ y ∷ d) c =
    rw (twice_snoc (y ∷ d) c) (sym (or_assoc (eqb x 0x5F && eqb y 0x5F) (twice (y ∷ d)) (eqb (last (y ∷ d)) 0x5F && eqb c 0x5F)))

-- the four things that are kept of the text d
pub record Summary (d : List ℕ) (plain : Bool) (lines : ℕ) (two : Bool) (prev : ℕ) : Type 0 where
  plain_is : plain ≡ all_plain d
  lines_is : lines ≡ min 2 (lfs d)
  two_is : two ≡ twice d
  prev_is : prev ≡ last d

summary_more : {d : List ℕ} {plain two plain' two' : Bool} {lines prev lines' prev' c : ℕ} → Summary d plain lines two prev → Added c plain lines two prev plain' lines' two' prev' → Summary (d ++ (c ∷ [])) plain' lines' two' prev'
summary_more {d} {c = c} s a =
    record {
      plain_is = a.plain_is ∙ rw s.plain_is (sym (plain_snoc d c));
      lines_is = rw (lfs_snoc d c) (omega (arith, a.lines_is, s.lines_is));
      two_is = a.twice_is ∙ rw (s.two_is, s.prev_is) (sym (twice_snoc d c));
      prev_is = a.prev_is ∙ sym (last_snoc d c);
    }

-- ---- the kind by what was kept
cap : (n k : ℕ) → k < 2 → eqb (min 2 n) k ≡ eqb n k
cap n k l =
    elim (ℕ_discrete n k) [
      | yes e ↦ eq-eqb (min 2 n) k (omega arith) ∙ sym (eq-eqb n k e)
      | no e ↦ ne_eqb (min 2 n) k (λ h. e (omega arith)) ∙ sym (ne_eqb n k e)
    ]

lf_bit : (c : ℕ) → eqb c 0x0A ≡ true → is_bit c ≡ false
lf_bit c e = rw (eqb-true c 0x0A e)

all_bits : (d : List ℕ) → all is_bit d ≡ (all_plain d && eqb (lfs d) 0)
unfolding all all_plain lfs
all_bits [] = refl
all_bits (c ∷ t) =
    by_test (eqb c 0x0A)
    (λ e. rw (lf_bit c e, e, ne_eqb (1 + lfs t) 0 (λ z. omega arith)) (sym (and_false (all_plain t))))
    (λ e.
    let z : 0 + lfs t ≡ lfs t = omega arith in
    rw (e, z, all_bits t) (sym (and_assoc (is_bit c) (all_plain t) (eqb (lfs t) 0))))

-- a text whose last character is LF has one
last_lf : (c : ℕ) (t : List ℕ) → eqb (last (c ∷ t)) 0x0A ≡ true → 1 ≤ lfs (c ∷ t)
unfolding last lfs
last_lf c [] e = rw e (omega arith)
last_lf c (x ∷ t) e = omega (arith, last_lf x t e)

-- one LF may stand at the end
abbrev one_at_end : List ℕ → Bool
one_at_end d = eqb (lfs d) 0 || (eqb (lfs d) 1 && eqb (last d) 0x0A)

lf_first : (c x : ℕ) (t : List ℕ) → eqb c 0x0A ≡ true → one_at_end (c ∷ x ∷ t) ≡ false
unfolding lfs last
lf_first c x t e =
    by_test (eqb (last (x ∷ t)) 0x0A)
    (λ h.
    let l = last_lf x t h in
    rw (e, ne_eqb (1 + lfs (x ∷ t)) 0 (λ z. omega arith), ne_eqb (1 + lfs (x ∷ t)) 1 (λ z. omega arith)))
    (λ h. rw (e, h, ne_eqb (1 + lfs (x ∷ t)) 0 (λ z. omega arith)) (and_false (eqb (1 + lfs (x ∷ t)) 1)))

open_bits : (d : List ℕ) → all is_bit (without_lf d) ≡ (all_plain d && one_at_end d)
unfolding all all_plain lfs last without_lf
open_bits [] = refl
open_bits (c ∷ []) = by_test (eqb c 0x0A) (λ e. rw e) (λ e. rw e (sym (and_true (is_bit c && true))))
open_bits (c ∷ x ∷ t) =
    by_test (eqb c 0x0A)
    (λ e. rw (lf_bit c e, lf_first c x t e) (sym (and_false ((eqb c 0x0A || false) && all_plain (x ∷ t)))))
    (λ e.
    let z : 0 + lfs (x ∷ t) ≡ lfs (x ∷ t) = omega arith in
    rw (e, z, open_bits (x ∷ t)) (sym (and_assoc (is_bit c) (all_plain (x ∷ t)) (one_at_end (x ∷ t)))))

-- the kind of a text that was seen whole
kind_is : {d : List ℕ} {plain two b : Bool} {lines prev kind : ℕ} (closed : Bool) (rest : List ℕ) → Summary d plain lines two prev → b ≡ bits_by closed plain lines prev → kind ≡ cond b (bit_str closed two) (str closed) →
    kind ≡ quote_kind (record { closed = closed; body = d; rest = rest })
unfolding quote_kind
kind_is {d} true rest s e k = k ∙ rw (e, s.plain_is, s.lines_is, s.two_is, cap (lfs d) 0 (omega arith), all_bits d)
kind_is {d} false rest s e k =
    k ∙ rw (e, s.plain_is, s.lines_is, s.two_is, s.prev_is, cap (lfs d) 0 (omega arith), cap (lfs d) 1 (omega arith), open_bits d)

-- ---- the loop: what was seen, before what is left
abbrev onto : List ℕ → Quote → Quote
onto d q = record { closed = q.closed; body = d ++ q.body; rest = q.rest }

quoted_shut : (c : ℕ) (t : List ℕ) → c ≡ 0x22 → quoted (c ∷ t) ≡ record { closed = true; body = []; rest = t }
unfolding quoted
quoted_shut c [] e = rw e
quoted_shut c (x ∷ t) e = rw e

quoted_on : (c : ℕ) (t : List ℕ) → (c ≡ 0x22 → ⊥) → escapes c (peek t) ≡ false → quoted (c ∷ t) ≡ onto (c ∷ []) (quoted t)
unfolding quoted
quoted_on c [] n h = rw (ne_eqb c 0x22 n)
quoted_on c (x ∷ t) n h = rw (ne_eqb c 0x22 n, h)

quoted_escape : (c : ℕ) (t : List ℕ) → (c ≡ 0x22 → ⊥) → escapes c (peek t) ≡ true → quoted (c ∷ t) ≡ onto (c ∷ peek t ∷ []) (quoted (tail t))
unfolding quoted
quoted_escape c [] n h = absurd (false≢true (sym (and_false (eqb c 0x5C)) ∙ h))
quoted_escape c (x ∷ t) n h = rw (ne_eqb c 0x22 n, h)

-- what is escaped is a backslash or a quote
escaped : (c x : ℕ) → escapes c x ≡ true → (1 ≤ x) × (x < 0x80)
escaped c x h =
    by_test (eqb x 0x5C)
    (λ e. let i = eqb-true x 0x5C e in (omega arith, omega arith))
    (λ e. let i = eqb-true x 0x22 (rw e at (both (eqb c 0x5C) (eqb x 0x5C || eqb x 0x22) h).1) in (omega arith, omega arith))

-- ---- by bytes: only ASCII is a bit, ends the text or escapes
-- two texts that are the same, or neither of which is plain
data Like (d e : List ℕ) : Type 0 where
  same : d ≡ e → Like d e
  rough : all_plain d ≡ false → all_plain e ≡ false → Like d e

like_more : (c : ℕ) (d e : List ℕ) → Like d e → Like (c ∷ d) (c ∷ e)
unfolding all_plain
like_more c d e (same p) = same (ap (λ (l : List ℕ). c ∷ l) p)
like_more c d e (rough p q) = rough (rw p (and_false (eqb c 0x0A || is_bit c))) (rw q (and_false (eqb c 0x0A || is_bit c)))

wide_rough : (c : ℕ) (d : List ℕ) → 0x80 ≤ c → all_plain (c ∷ d) ≡ false
unfolding all_plain
wide_rough c d h =
    rw (ne_eqb c 0x0A (λ e. omega arith), ne_eqb c 0x30 (λ e. omega arith), ne_eqb c 0x31 (λ e. omega arith), ne_eqb c 0x5F (λ e. omega arith))

-- a quoted text by its characters, and by its bytes
record Alike (q r : Quote) : Type 0 where
  closed_same : q.closed ≡ r.closed
  bodies : Like q.body r.body
  rests : q.rest ≡ chars r.rest

kind_of_like : (b : Bool) (d e l k : List ℕ) → Like d e → quote_kind (record { closed = b; body = d; rest = l }) ≡ quote_kind (record { closed = b; body = e; rest = k })
unfolding quote_kind
kind_of_like b d e l k (same p) = rw p
kind_of_like true d e l k (rough p q) = rw (all_bits d, all_bits e, p, q)
kind_of_like false d e l k (rough p q) = rw (open_bits d, open_bits e, p, q)

kind_alike : {q r : Quote} → Alike q r → quote_kind q ≡ quote_kind r
kind_alike {q} {r} a =
    kind_of_like q.closed q.body r.body q.rest r.rest a.bodies
    ∙ ap (λ (b : Bool). quote_kind (record { closed = b; body = r.body; rest = r.rest })) a.closed_same

-- from equations of the two
alike : {q q' r r' : Quote} → q ≡ q' → r ≡ r' → Alike q' r' → Alike q r
alike p e a = rw (p, e) a

alike_more : (c : ℕ) {q r : Quote} → Alike q r → Alike (onto (c ∷ []) q) (onto (c ∷ []) r)
alike_more c {q} {r} a = record { closed_same = a.closed_same; bodies = like_more c q.body r.body a.bodies; rests = a.rests }

no_escape : (c x : ℕ) → 0x80 ≤ c → escapes c x ≡ false
no_escape c x h = rw (ne_eqb c 0x5C (λ e. omega arith))

-- bytes that are not ASCII, in front
quoted_front : (n : ℕ) (l : List ℕ) → ((k : ℕ) → k < n → 0x80 ≤ get_or l k 0) → n ≤ length l → ((quoted l).closed ≡ (quoted (drop n l)).closed) × ((quoted l).rest ≡ (quoted (drop n l)).rest)
quoted_front zero l h m = (refl, refl)
quoted_front (suc n) [] h m = (refl, refl)
quoted_front (suc n) (a ∷ l) h m =
    let w = h 0 (omega arith) in
    let e = quoted_on a l (λ i. omega arith) (no_escape a (peek l) w) in
    let ih = quoted_front n l (λ k i. h (suc k) (omega arith)) (omega arith) in
    (ap (λ (q : Quote). q.closed) e ∙ ih.0, ap (λ (q : Quote). q.rest) e ∙ ih.1)

abbrev Bytes : List ℕ → Type 0
Bytes s = Alike (quoted (chars s)) (quoted s)

module _ (a : ℕ) (s : List ℕ) (ih : (l : List ℕ) → length l ≤ length s → Bytes l) where
  quoted_wide : 0x80 ≤ a → Bytes (a ∷ s)
  quoted_wide h =
      let w = wide a s h in
      let c = (first (a ∷ s)).0 in
      let k = (first (a ∷ s)).1 in
      let t = chars (drop k (a ∷ s)) in
      let e = ap quoted (chars_first (a ∷ s) (omega arith)) ∙ quoted_on c t (λ i. omega (arith, w.code)) (no_escape c (peek t) w.code) in
      let f = quoted_on a s (λ i. omega arith) (no_escape a (peek s) h) in
      let g = quoted_front k (a ∷ s) w.bytes w.within in
      let j = ih (drop k (a ∷ s)) w.less in
      record {
        closed_same = ap (λ (q : Quote). q.closed) e ∙ j.closed_same ∙ sym g.0;
        bodies = rw (e, f) (rough (wide_rough c (quoted t).body w.code) (wide_rough a (quoted s).body h));
        rests = ap (λ (q : Quote). q.rest) e ∙ j.rests ∙ ap chars (sym g.1);
      }

  quoted_ascii : a < 0x80 → Bytes (a ∷ s)
  quoted_ascii h =
      let v : quoted (chars (a ∷ s)) ≡ quoted (a ∷ chars s) = ap quoted (chars_ascii a s h) in
      let o : escapes a (peek (chars s)) ≡ escapes a (peek s) = rw (peek_same s 0x5C (omega arith), peek_same s 0x22 (omega arith)) in
      elim (ℕ_discrete a 0x22) [
        | yes e ↦ alike (v ∙ quoted_shut a (chars s) e) (quoted_shut a s e) (record { closed_same = refl; bodies = same refl; rests = refl })
        | no n ↦ by_test (escapes a (peek s))
            (λ t.
            let x = escaped a (peek s) t in
            let p : peek (chars s) ≡ peek s = peek_ascii s (omega (arith, x)) in
            alike (v ∙ quoted_escape a (chars s) n (o ∙ t) ∙ rw (p, tail_same s (omega (arith, x)))) (quoted_escape a s n t)
            (alike_more a (alike_more (peek s) (ih (tail s) (tail_less s)))))
            (λ f. alike (v ∙ quoted_on a (chars s) n (o ∙ f)) (quoted_on a s n f) (alike_more a (ih s (omega arith))))
      ]

quoted_bytes : (s : List ℕ) → Bytes s
unfolding quoted
quoted_bytes =
    by_length Bytes (rw chars_nil (record { closed_same = refl; bodies = same refl; rests = sym chars_nil }))
    (λ a s ih. elim (dec_lt a 0x80) [ yes h ↦ quoted_ascii a s ih h | no n ↦ quoted_wide a s ih (omega arith) ])

-- ---- the loop
pub record Quoting (s : List ℕ) (at₀ at : ℕ) (plain : Bool) (lines : ℕ) (two : Bool) (prev : ℕ) : Type 0 where
  pub seen : List ℕ
  pub sum : Summary seen plain lines two prev
  pub few : lines ≤ 2
  pub after : at₀ ≤ at
  pub within : at ≤ length s
  pub same : quoted (drop at₀ s) ≡ onto seen (quoted (drop at s))

pub quoting_none : (s : List ℕ) (at : ℕ) → at ≤ length s → Quoting s at at true 0 false 0
unfolding all_plain lfs last twice
quoting_none s at h =
    record {
      seen = [];
      sum = record { plain_is = refl; lines_is = refl; two_is = refl; prev_is = refl };
      few = omega arith;
      after = omega arith;
      within = h;
      same = refl;
    }

-- what was found by bytes holds of the characters
found : {s : List ℕ} {at₀ end kind : ℕ} {b : Bool} {d : List ℕ} → quoted (drop at₀ s) ≡ record { closed = b; body = d; rest = drop end s } → kind ≡ quote_kind (record { closed = b; body = d; rest = drop end s }) → at₀ ≤ end → end ≤ length s → Quoted s at₀ b kind end
found {s} {at₀} {end} h k a w =
    let q = quoted_bytes (drop at₀ s) in
    record {
      flag = sym (q.closed_same ∙ ap (λ (r : Quote). r.closed) h);
      what = k ∙ sym (kind_alike q ∙ ap quote_kind h);
      place = record { after = a; within = w; there = sym (q.rests ∙ ap (λ (r : Quote). chars r.rest) h) };
    }

module _ {s : List ℕ} {at₀ at code : ℕ} {plain two : Bool} {lines prev : ℕ} (q : Quoting s at₀ at plain lines two prev) (y : code ≡ get_or s at 0) (l : at < length s) where
  -- what is left from here on, before the bytes that come
  ahead : {r : Quote} → quoted (code ∷ drop (at + 1) s) ≡ r → quoted (drop at₀ s) ≡ onto q.seen r
  ahead e =
      let v : drop at s ≡ code ∷ drop (at + 1) s = drop-cons s at 0 l ∙ rw (y, add-one) in
      q.same ∙ ap (λ (t : List ℕ). onto q.seen (quoted t)) v ∙ ap (onto q.seen) e

  pub quoting_shut : {b : Bool} {kind end : ℕ} → code ≡ 0x22 → b ≡ bits_by true plain lines prev → kind ≡ cond b (bit_str true two) (str true) → end ≡ at + 1 → Quoted s at₀ true kind end
  quoting_shut i e k u =
      let h : quoted (drop at₀ s) ≡ record { closed = true; body = q.seen; rest = drop (at + 1) s } =
      ahead (quoted_shut code (drop (at + 1) s) i) ∙ ap (λ (d : List ℕ). record { closed = true; body = d; rest = drop (at + 1) s }) (append-nil q.seen) in
      rw u (found h (kind_is true (drop (at + 1) s) q.sum e k) (omega (arith, q.after)) (omega arith))

  module _ {b plain' two' : Bool} {lines' prev' : ℕ} (n : code ≡ 0x22 → ⊥) (a : Added code plain lines two prev plain' lines' two' prev') (o : b ≡ escapes (get_or s at 0) (get_or s (at + 1) 0)) where
    pub quoting_on : {next : ℕ} → b ≡ false → next ≡ at + 1 → Quoting s at₀ next plain' lines' two' prev'
    quoting_on t u =
        let h : escapes code (peek (drop (at + 1) s)) ≡ false = rw (y, peek_drop (at + 1) s) (sym o ∙ t) in
        record {
          seen = q.seen ++ (code ∷ []);
          sum = summary_more q.sum a;
          few = omega (arith, a.lines_is);
          after = omega (arith, q.after);
          within = omega arith;
          same = rw u (ahead (quoted_on code (drop (at + 1) s) n h) ∙ ap (λ (d : List ℕ). record { closed = (quoted (drop (at + 1) s)).closed; body = d; rest = (quoted (drop (at + 1) s)).rest }) (sym (append_assoc q.seen (code ∷ []) (quoted (drop (at + 1) s)).body)));
        }

    pub quoting_escape : {past x : ℕ} {plain'' two'' : Bool} {lines'' prev'' : ℕ} → b ≡ true → x ≡ get_or s (at + 1) 0 → Added x plain' lines' two' prev' plain'' lines'' two'' prev'' → past ≡ at + 2 → Quoting s at₀ past plain'' lines'' two'' prev''
    quoting_escape {past} {x} t f a' u =
        let h : escapes code (peek (drop (at + 1) s)) ≡ true = rw (y, peek_drop (at + 1) s) (sym o ∙ t) in
        let p : peek (drop (at + 1) s) ≡ x = peek_drop (at + 1) s ∙ sym f in
        let r = quoted (drop (at + 2) s) in
        let d : (q.seen ++ (code ∷ [])) ++ (x ∷ []) ≡ q.seen ++ (code ∷ x ∷ []) = append_assoc q.seen (code ∷ []) (x ∷ []) in
        let k = escaped (get_or s at 0) (get_or s (at + 1) 0) (sym o ∙ t) in
        record {
          seen = (q.seen ++ (code ∷ [])) ++ (x ∷ []);
          sum = summary_more (summary_more q.sum a) a';
          few = omega (arith, a'.lines_is);
          after = omega (arith, q.after);
          within = omega (arith, stands (at + 1) s (omega (arith, k)));
          same =
              rw u
              (ahead (quoted_escape code (drop (at + 1) s) n h ∙ rw (p, tail_drop at s))
              ∙ ap (λ (e : List ℕ). record { closed = r.closed; body = e; rest = r.rest }) (sym (ap (λ (e : List ℕ). e ++ r.body) d ∙ append_assoc q.seen (code ∷ x ∷ []) r.body)));
        }

pub quoting_end : {s : List ℕ} {at₀ at : ℕ} {plain two b : Bool} {lines prev kind : ℕ} → Quoting s at₀ at plain lines two prev → length s ≤ at → b ≡ bits_by false plain lines prev → kind ≡ cond b (bit_str false two) (str false) → Quoted s at₀ false kind at
unfolding quoted
quoting_end {s} {at₀} {at} q l e k =
    let z : drop at s ≡ [] = drop_of_length-le s {i = at} l in
    let h : quoted (drop at₀ s) ≡ record { closed = false; body = q.seen; rest = drop at s } =
    q.same ∙ ap (λ (t : List ℕ). onto q.seen (quoted t)) z ∙ ap (λ (d : List ℕ). record { closed = false; body = d; rest = [] }) (append-nil q.seen) ∙ ap (λ (t : List ℕ). record { closed = false; body = q.seen; rest = t }) (sym z) in
    found h (kind_is false (drop at s) q.sum e k) q.after q.within

pub ruleset quoting = (quoting_none, quoting_shut, quoting_on, quoting_escape, quoting_end)
