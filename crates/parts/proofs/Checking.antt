-- The first fault of what is fed, and where its whole characters stand, as `search` takes the laws.
-- Assumes nothing.
use Prim.Native.Nat.{ℕ, ◌+◌, ◌-◌, ◌≤◌, ◌<◌}
use mathlib.Core.Path.{◌≡◌, refl, sym, ap, ◌∙◌}
use mathlib.Core.Bool.{Bool, true, false, not, cond, ◌||◌, false≢true}
use mathlib.Core.List.{List, [], ◌∷◌, ◌++◌}
use native.Mathlib.Omega.{arith}
use lib.Dec.{eqb}
use Rattle.std.specs.Prelude.{Option, None, Some, Result, Ok, Err}
use lib.ListN.{length, take, drop, length-take, length-append, length-drop, drop_of_length-le}
use lib.Seq.{take_all, drop-drop, drop-append-add}
use borrow.Author.Tests.{lt-ltb, le-ltb, lt-leb, ltb-true, ltb-false, ne_eqb, eqb-true, not-false}
use Rattle.lists.specs.All.{all}
use Rattle.lists.proofs.Cut.{by_length}
use Rattle.lists.proofs.Bools.{by_test, and_false}
use Rattle.characters.specs.Utf8.{first, chars, width, is_char, bytes_before, valid_up_to}
use Rattle.characters.specs.Text.{Decoded}
use Rattle.characters.specs.Unfinished.{unfinished}
use Rattle.characters.specs.Direction.{is_direction, unmarked, unmarked_up_to, clean_up_to}
use Rattle.characters.proofs.First.{fine}
use Rattle.characters.proofs.Text.{chars_nil, chars_first}
use Rattle.characters.proofs.Valid.{good, beginning, read_all, valid_within}
use Rattle.characters.proofs.Direction.{clean_first, marked_before}
use Rattle.text.specs.Answer.{done, not_utf8, direction_mark, longest}
use Rattle.feeding.specs.Begun.{whole, beyond, fault_of}
use Rattle.feeding.specs.Lexer.{running}
use Rattle.feeding.proofs.Begun.{whole_long}
use Rattle.feeding.proofs.Running.{Runs, from_running}
use Rattle.feeding.proofs.Unfinished.{unfinished_short, unfinished_none}
use Rattle.phases.specs.Codec.{flag}
use Rattle.parts.specs.Coded.{pend_of, packed_pend, meaning}
use Rattle.parts.specs.Steps.{HeadIs, WholeHead, ShortHead, BadHead, RestScanned, Scanned, check_of}
use Rattle.parts.specs.declared.pend.Pend.{Pend}
use Rattle.parts.specs.declared.pend.Head as H
use Rattle.parts.specs.declared.pend.Head.TheVariants as Y
use Rattle.text.specs.declared.Refusal.{Refusal}
use Rattle.parts.specs.declared.check.Scan.{Scan}
use Rattle.parts.specs.declared.Lexer.{Lexer}

-- ---- the whole characters, and the first that a test holds of
whole_good : (s : List ℕ) → chars (whole s) ≡ good (chars s)
whole_good s = let b = beginning s in ap chars (sym b.written) ∙ read_all (good (chars s)) b.scalars

module _ (p : ℕ → Bool) where
  clean_good : (l : List ℕ) → all (λ c. not (p c)) (good l) ≡ true → bytes_before (λ c. p c || not (is_char c)) l ≡ bytes_before (λ c. not (is_char c)) l
  unfolding good all bytes_before
  clean_good [] h = refl
  clean_good (c ∷ l) h =
      by_test (is_char c)
      (λ i. by_test (p c) (λ d. absurd (false≢true (rw (i, d) at h))) (λ d. rw (i, d, clean_good l (rw (i, d) at h))))
      (λ i. by_test (p c) (λ d. rw (i, d)) (λ d. rw (i, d)))

  marked_good : (l : List ℕ) → all (λ c. not (p c)) (good l) ≡ false → (bytes_before (λ c. p c || not (is_char c)) l ≡ bytes_before p (good l)) × (bytes_before p l ≡ bytes_before p (good l))
  unfolding good all bytes_before
  marked_good [] h = absurd (false≢true (sym h))
  marked_good (c ∷ l) h =
      by_test (is_char c)
      (λ i. by_test (p c) (λ d. (rw (i, d), rw (i, d))) (λ d. let k = marked_good l (rw (i, d) at h) in (rw (i, d, k.0), rw (i, d, k.1))))
      (λ i. absurd (false≢true (sym (rw i at h))))

  stop_at : (s : List ℕ) → bytes_before p (chars s) < length s → p (first (drop (bytes_before p (chars s)) s)).0 ≡ true
  unfolding bytes_before
  stop_at =
      by_length (λ (s : List ℕ). bytes_before p (chars s) < length s → p (first (drop (bytes_before p (chars s)) s)).0 ≡ true) (λ h. absurd (omega arith))
      (λ a s ih h.
      let x = (first (a ∷ s)).0 in
      let w = (first (a ∷ s)).1 in
      let f = fine a s in
      let t = drop w (a ∷ s) in
      let m = bytes_before p (chars t) in
      let c : chars (a ∷ s) ≡ x ∷ chars t = chars_first (a ∷ s) (omega arith) in
      by_test (p x) (λ e. let z : bytes_before p (chars (a ∷ s)) ≡ 0 = rw (c, e) in rw z e)
      (λ e.
      let z : bytes_before p (chars (a ∷ s)) ≡ w + m = rw (c, e, f.size) in
      rw (z, ← drop-drop m w (a ∷ s)) (ih t (omega (arith, f.some, length-drop w (a ∷ s))) (omega (arith, z, h, length-drop w (a ∷ s))))))

-- ---- the fault, by what stands first
module _ (last : Bool) (at : ℕ) (s : List ℕ) where
  fault_mark : unmarked (whole s) ≡ false → fault_of last at s ≡ (direction_mark, at + unmarked_up_to (whole s))
  unfolding fault_of
  fault_mark h = rw h

  fault_bad : unmarked (whole s) ≡ true → cond last (eqb (length (beyond s)) 0) (unfinished (beyond s)) ≡ false → fault_of last at s ≡ (not_utf8, at + valid_up_to s)
  unfolding fault_of
  fault_bad h g = rw (h, g)

  fault_none : unmarked (whole s) ≡ true → cond last (eqb (length (beyond s)) 0) (unfinished (beyond s)) ≡ true → fault_of last at s ≡ (done, 0)
  unfolding fault_of
  fault_none h g = rw (h, g)

-- ---- up to where a text is clean
module _ (s : List ℕ) where
  clean_valid : unmarked (whole s) ≡ true → clean_up_to s ≡ valid_up_to s
  unfolding unmarked clean_up_to valid_up_to
  clean_valid h = clean_good is_direction (chars s) (ap (all (λ c. not (is_direction c))) (sym (whole_good s)) ∙ h)

  clean_marked : unmarked (whole s) ≡ false → (clean_up_to s ≡ unmarked_up_to (whole s)) × (clean_up_to s ≡ bytes_before is_direction (chars s))
  unfolding unmarked clean_up_to unmarked_up_to
  clean_marked h =
      let k = marked_good is_direction (chars s) (ap (all (λ c. not (is_direction c))) (sym (whole_good s)) ∙ h) in
      let w = ap (bytes_before is_direction) (whole_good s) in
      (k.0 ∙ sym w, k.0 ∙ sym k.1)

  no_char_at : valid_up_to s < length s → 1114112 ≤ (first (drop (valid_up_to s) s)).0
  unfolding valid_up_to
  no_char_at h =
      let x = (first (drop (valid_up_to s) s)).0 in
      let k = stop_at (λ c. not (is_char c)) s h in
      by_test (is_char x) (λ e. absurd (false≢true (rw e at k))) (λ e. ltb-false x 1114112 e)

-- a mark is a character
mark_char : (c : ℕ) → is_direction c ≡ true → c < 1114112
mark_char c h =
    by_test (is_char c) (λ e. ltb-true c 1114112 e)
    (λ e.
    let g : 1114112 ≤ c = ltb-false c 1114112 e in
    absurd (false≢true (simp (lt-leb c 0x202E (omega arith), lt-leb c 0x2069 (omega arith), and_false) at h)))

module _ (s : List ℕ) {clean : ℕ} (e : clean ≡ clean_up_to s) where
  module _ {code wide : ℕ} (l : clean < length s) (d : Decoded s clean code wide) where
    -- a character there is a mark
    at_mark : code < 1114112 → (unmarked (whole s) ≡ false) × (clean ≡ unmarked_up_to (whole s))
    at_mark h =
        by_test (unmarked (whole s))
        (λ u.
        let z : clean ≡ valid_up_to s = e ∙ clean_valid s u in
        absurd (omega (arith, no_char_at s (omega arith), rw z at d.code_is)))
        (λ u. (u, e ∙ (clean_marked s u).0))

    -- and where there is none, no mark is among the whole characters
    at_none : 1114112 ≤ code → (unmarked (whole s) ≡ true) × (clean ≡ valid_up_to s)
    at_none h =
        by_test (unmarked (whole s)) (λ u. (u, e ∙ clean_valid s u))
        (λ u.
        let z : clean ≡ bytes_before is_direction (chars s) = e ∙ (clean_marked s u).1 in
        let k : is_direction code ≡ true = rw (d.code_is, z) (stop_at is_direction s (omega arith)) in
        absurd (omega (arith, mark_char code k)))

  -- clean to the end
  at_end : length s ≤ clean → (unmarked (whole s) ≡ true) × (clean ≡ valid_up_to s)
  at_end h =
      by_test (unmarked (whole s)) (λ u. (u, e ∙ clean_valid s u))
      (λ u. absurd (omega (arith, (clean_marked s u).0, marked_before (whole s) u, whole_long s, valid_within s)))

-- ---- a text without a fault so far
pub record Open (last : Bool) (s : List ℕ) (clean : ℕ) : Type 0 where
  pub free : unmarked (whole s) ≡ true
  pub goes : cond last (eqb (length (beyond s)) 0) (unfinished (beyond s)) ≡ true
  pub upto : clean ≡ valid_up_to s

-- what is behind it has three bytes at most
open_short : (last : Bool) {s : List ℕ} {clean : ℕ} → Open last s clean → length (beyond s) ≤ 3
open_short true {s} o = omega (arith, eqb-true (length (beyond s)) 0 o.goes)
open_short false {s} o = unfinished_short (beyond s) o.goes

cond_same : (b c : Bool) → b ≡ c → (d : Bool) → cond d b c ≡ c
cond_same b c e true = e
cond_same b c e false = refl

-- ---- the rest of a chunk
abbrev pub part : List ℕ → ℕ → List ℕ
part s k = take (length s - k) (drop k s)

pub part_is : (s : List ℕ) (k : ℕ) → part s k ≡ drop k s
part_is s k = take_all (length s - k) (drop k s) (omega (arith, length-drop k s))

module _ (last : Bool) (fed : ℕ) (chunk : List ℕ) (from : ℕ) {clean : ℕ} (e : clean ≡ clean_up_to (part chunk from)) where
  upto : clean ≡ clean_up_to (drop from chunk)
  upto = rw (part_is chunk from) at e

  pub rest_within : from ≤ length chunk → from + clean ≤ length chunk
  rest_within h = omega (arith, upto, clean_first (drop from chunk), valid_within (drop from chunk), length-drop from chunk)

  pub front_long : from + clean ≤ length chunk → clean ≡ length (take clean (part chunk from))
  front_long h = omega (arith, length-take clean (part chunk from), length-take (length chunk - from) (drop from chunk), length-drop from chunk)

  tail_is : clean ≡ valid_up_to (drop from chunk) → part chunk (from + clean) ≡ beyond (drop from chunk)
  tail_is h = part_is chunk (from + clean) ∙ sym (drop-drop clean from chunk) ∙ ap (λ (k : ℕ). drop k (drop from chunk)) h

  place : (n : ℕ) → clean ≡ n → fed + (from + clean) ≡ fed + from + n
  place n h = omega arith

  module _ {code wide : ℕ} (d : Decoded (part chunk from) clean code wide) (l : from + clean < length chunk) where
    there : Decoded (drop from chunk) clean code wide
    there = rw (part_is chunk from) at d

    under : clean < length (drop from chunk)
    under = omega (arith, length-drop from chunk)

    pub rest_mark : code < 1114112 → fault_of last (fed + from) (drop from chunk) ≡ (direction_mark, fed + (from + clean))
    rest_mark h =
        let k = at_mark (drop from chunk) upto under there h in
        fault_mark last (fed + from) (drop from chunk) k.0 ∙ rw (place _ k.1)

    bad : 1114112 ≤ code → cond last (eqb (length (beyond (drop from chunk))) 0) (unfinished (beyond (drop from chunk))) ≡ false → fault_of last (fed + from) (drop from chunk) ≡ (not_utf8, fed + (from + clean))
    bad h g =
        let k = at_none (drop from chunk) upto under there h in
        fault_bad last (fed + from) (drop from chunk) k.0 g ∙ rw (place _ k.1)

    some : 1114112 ≤ code → length (beyond (drop from chunk)) ≡ 0 → ⊥
    some h z = omega (arith, (at_none (drop from chunk) upto under there h).1, length-drop (valid_up_to (drop from chunk)) (drop from chunk), under)

    pub rest_last : 1114112 ≤ code → last ≡ true → fault_of last (fed + from) (drop from chunk) ≡ (not_utf8, fed + (from + clean))
    rest_last h t = bad h (rw (t, ne_eqb (length (beyond (drop from chunk))) 0 (some h)))

    module _ {u : Bool} (h : 1114112 ≤ code) (t : last ≡ false) (v : u ≡ unfinished (part chunk (from + clean))) where
      ends : unfinished (beyond (drop from chunk)) ≡ u
      ends = rw (tail_is (at_none (drop from chunk) upto under there h).1) at (sym v)

      pub rest_bad : u ≡ false → fault_of last (fed + from) (drop from chunk) ≡ (not_utf8, fed + (from + clean))
      rest_bad g = bad h (rw (t, ends, g))

      pub rest_open : u ≡ true → Open last (drop from chunk) clean
      rest_open g =
          let k = at_none (drop from chunk) upto under there h in
          record { free = k.0; goes = rw (t, ends, g); upto = k.1 }

  pub rest_end : from ≤ length chunk → length chunk ≤ from + clean → Open last (drop from chunk) clean
  unfolding unfinished
  rest_end g h =
      let k = at_end (drop from chunk) upto (omega (arith, length-drop from chunk)) in
      let z : beyond (drop from chunk) ≡ [] = drop_of_length-le (drop from chunk) {i = valid_up_to (drop from chunk)} (omega (arith, k.1, length-drop from chunk)) in
      record { free = k.0; goes = rw z (cond_same true true refl last); upto = k.1 }

  pub rest_short : Open last (drop from chunk) clean → length (part chunk (from + clean)) ≤ 3
  rest_short o = rw (tail_is o.upto) (open_short last o)

  pub rest_good : {c : Scan} {head : Option ℕ} → Open last (drop from chunk) clean → c.head ≡ head → c.text.now ≡ take clean (part chunk from) → c.pend ≡ packed_pend (part chunk (from + clean)) → RestScanned last fed chunk from head (Ok c)
  rest_good o h t p = (
    fault_none last (fed + from) (drop from chunk) o.free o.goes,
    record { head_is = h; text_is = t ∙ rw (part_is chunk from, o.upto); rest = p ∙ ap packed_pend (tail_is o.upto) },
  )

-- ---- by what the first character is
module _ (pend chunk : List ℕ) (h : H.Head) (i : HeadIs pend chunk h) where
  pub is_bad : h ≡ Y.Bad → BadHead pend chunk
  is_bad e = rw e at i

-- ---- behind a first character that is whole
module _ {pend chunk : List ℕ} {code from : ℕ} (w : WholeHead pend chunk code from) where
  whole_head : chars (whole (pend ++ chunk)) ≡ code ∷ chars (whole (drop from chunk))
  unfolding good
  whole_head = whole_good (pend ++ chunk) ∙ rw (w.are, lt-ltb code 1114112 w.char, whole_good (drop from chunk))

  valid_head : valid_up_to (pend ++ chunk) ≡ width code + valid_up_to (drop from chunk)
  unfolding valid_up_to bytes_before
  valid_head = rw (w.are, lt-ltb code 1114112 w.char)

  beyond_head : beyond (pend ++ chunk) ≡ beyond (drop from chunk)
  beyond_head =
      let v = valid_up_to (drop from chunk) in
      let z : valid_up_to (pend ++ chunk) ≡ length pend + (from + v) = omega (arith, valid_head, w.wide) in
      ap (λ (k : ℕ). drop k (pend ++ chunk)) z ∙ drop-append-add pend chunk (from + v) ∙ sym (drop-drop v from chunk)

  module _ (last : Bool) (at : ℕ) where
    mark_head : is_direction code ≡ true → fault_of last at (pend ++ chunk) ≡ (direction_mark, at)
    unfolding unmarked unmarked_up_to all bytes_before
    mark_head h =
        let u : unmarked (whole (pend ++ chunk)) ≡ false = rw (whole_head, h) in
        let n : unmarked_up_to (whole (pend ++ chunk)) ≡ 0 = rw (whole_head, h) in
        let z : at + 0 ≡ at = omega arith in
        fault_mark last at (pend ++ chunk) u ∙ rw (n, z)

    fault_head : is_direction code ≡ false → fault_of last at (pend ++ chunk) ≡ fault_of last (at + width code) (drop from chunk)
    unfolding fault_of unmarked unmarked_up_to all bytes_before
    fault_head h =
        let u : unmarked (whole (pend ++ chunk)) ≡ unmarked (whole (drop from chunk)) = rw (whole_head, h) in
        let n : unmarked_up_to (whole (pend ++ chunk)) ≡ width code + unmarked_up_to (whole (drop from chunk)) = rw (whole_head, h) in
        let z : at + unmarked_up_to (whole (pend ++ chunk)) ≡ at + width code + unmarked_up_to (whole (drop from chunk)) = omega arith in
        let y : at + valid_up_to (pend ++ chunk) ≡ at + width code + valid_up_to (drop from chunk) = omega (arith, valid_head) in
        rw (u, z, y, beyond_head)

  module _ (last : Bool) (fed : ℕ) {t : Bool} (e : t ≡ is_direction code) (l : length pend ≤ fed) where
    pub scanned_mark : {k : ℕ} → t ≡ true → k ≡ length pend → fault_of last (fed - length pend) (pend ++ chunk) ≡ (direction_mark, fed - k)
    scanned_mark h j = mark_head last (fed - length pend) (sym e ∙ h) ∙ rw (← j)

    to_rest : t ≡ false → fault_of last (fed - length pend) (pend ++ chunk) ≡ fault_of last (fed + from) (drop from chunk)
    to_rest h =
        let z : fed - length pend + width code ≡ fed + from = omega (arith, w.wide) in
        fault_head last (fed - length pend) (sym e ∙ h) ∙ ap (λ (k : ℕ). fault_of last k (drop from chunk)) z

    pub scanned_rest : t ≡ false → (r : Result Scan Refusal) → RestScanned last fed chunk from (Some code) r → Scanned last (fed - length pend) pend chunk r
    scanned_rest h (Err r) s = to_rest h ∙ s
    scanned_rest h (Ok c) s =
        let g = s.1 in
        (to_rest h ∙ s.0, record { are = whole_head ∙ rw (g.head_is, g.text_is); rest = g.rest ∙ ap packed_pend (sym beyond_head) })

-- ---- bytes none of which is a whole character
module _ (s : List ℕ) (v : valid_up_to s ≡ 0) where
  no_whole : whole s ≡ []
  no_whole = rw v

  all_beyond : beyond s ≡ s
  all_beyond = rw v

  no_mark : unmarked (whole s) ≡ true
  unfolding unmarked all
  no_mark = rw (no_whole, chars_nil)

  none_bad : (last : Bool) (at : ℕ) → cond last (eqb (length s) 0) (unfinished s) ≡ false → fault_of last at s ≡ (not_utf8, at)
  none_bad last at h =
      let z : at + 0 ≡ at = omega arith in
      fault_bad last at s no_mark (rw all_beyond h) ∙ rw (v, z)

  none_good : (last : Bool) (at : ℕ) → cond last (eqb (length s) 0) (unfinished s) ≡ true → fault_of last at s ≡ (done, 0)
  none_good last at h = fault_none last at s no_mark (rw all_beyond h)

longer : (pend chunk : List ℕ) → 0 < length pend → length (pend ++ chunk) ≡ 0 → ⊥
longer pend chunk l h = omega (arith, length-append pend chunk)

none_whole : {pend chunk : List ℕ} {q : Pend} → ShortHead pend chunk q → valid_up_to (pend ++ chunk) ≡ 0
none_whole {pend} {chunk} h = unfinished_none (pend ++ chunk) h.short

module _ (last : Bool) (fed : ℕ) (pend chunk : List ℕ) (l : 0 < length pend) {k : ℕ} (j : k ≡ length pend) where
  pub scanned_bad : BadHead pend chunk → fault_of last (fed - length pend) (pend ++ chunk) ≡ (not_utf8, fed - k)
  scanned_bad b =
      none_bad (pend ++ chunk) b.none last (fed - length pend) (rw (b.bad, ne_eqb (length (pend ++ chunk)) 0 (longer pend chunk l)) (cond_same false false refl last)) ∙ rw (← j)

  pub scanned_last : {q : Pend} → ShortHead pend chunk q → last ≡ true → fault_of last (fed - length pend) (pend ++ chunk) ≡ (not_utf8, fed - k)
  scanned_last h t =
      none_bad (pend ++ chunk) (none_whole h) last (fed - length pend) (rw (t, ne_eqb (length (pend ++ chunk)) 0 (longer pend chunk l))) ∙ rw (← j)

module _ (last : Bool) (at : ℕ) {pend chunk : List ℕ} {q : Pend} (h : ShortHead pend chunk q) where
  pub scanned_short : last ≡ false → {c : Scan} → c.head ≡ None → c.text.now ≡ [] → c.pend ≡ q → Scanned last at pend chunk (Ok c)
  scanned_short t e f g = (
    none_good (pend ++ chunk) (none_whole h) last at (rw t h.short),
    record {
      are = rw (no_whole (pend ++ chunk) (none_whole h), e, f);
      rest = g ∙ h.same ∙ ap packed_pend (sym (all_beyond (pend ++ chunk) (none_whole h)));
    },
  )

-- ---- where nothing is pending
rest_all : (last : Bool) (fed : ℕ) (chunk : List ℕ) (r : Result Scan Refusal) → RestScanned last fed chunk 0 None r → Scanned last (fed - 0) [] chunk r
rest_all last fed chunk (Err r) s = let z : fed + 0 ≡ fed - 0 = omega arith in rw z at s
rest_all last fed chunk (Ok c) s =
    let z : fed + 0 ≡ fed - 0 = omega arith in
    let g = s.1 in
    (rw z at s.0, record { are = rw (g.head_is, g.text_is); rest = g.rest })

pub scanned_none : (p : Pend) (last : Bool) (fed : ℕ) (chunk : List ℕ) (r : Result Scan Refusal) → p.count ≡ 0 → RestScanned last fed chunk 0 None r → Scanned last (fed - length (pend_of p)) (pend_of p) chunk r
scanned_none p last fed chunk r e s = rw e (rest_all last fed chunk r s)

-- what runs is open, and has been fed what is pending
pub open_runs : (x : Lexer) → (flag x.over || not (running (meaning x))) ≡ false → Runs (meaning x)
open_runs x h = from_running (meaning x) (either (flag x.over) (running (meaning x)) h)
  where
    either : (a b : Bool) → (a || not b) ≡ false → b ≡ true
    either true b h = absurd (false≢true (sym h))
    either false b h = not-false b h

-- what is refused first is not
pub check_so : (x : Lexer) (last : Bool) (chunk : List ℕ) → (flag x.over || not (running (meaning x))) ≡ false → x.profile < 2 → x.fed ≤ longest → length chunk ≤ longest - x.fed → check_of (meaning x) last chunk ≡ fault_of last (x.fed - length (pend_of x.pend)) (pend_of x.pend ++ chunk)
unfolding check_of
check_so x last chunk o g f l = rw (o, lt-ltb x.profile 2 g, le-ltb longest (x.fed + length chunk) (omega arith))
