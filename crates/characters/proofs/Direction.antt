-- The direction marks: what stops a walk, and their bytes; the first fault of a text is the first of the two kinds; a text without marks, and the first
-- mark of one that holds any.
-- Assumes nothing.
use Prim.Native.Nat.{ℕ, ◌+◌, ◌-◌, ◌*◌, ◌%◌, ◌<◌, min}
use native.Mathlib.Omega.{arith}
use mathlib.Core.Path.{◌≡◌, refl, ap, sym, ◌∙◌}
use mathlib.Core.Bool.{Bool, true, false, ◌||◌, not, false≢true}
use mathlib.Core.List.{List, [], ◌∷◌, ◌++◌}
use lib.ListN.{length, get_or, drop}
use lib.Seq.{drop_at}
use borrow.Author.Tests.{lt-ltb, lt-leb, ne_eqb}
use Rattle.lists.specs.All.{all}
use Rattle.lists.proofs.Bools.{by_test, both, and_false}
use Rattle.lists.proofs.All.{all_append}
use Rattle.characters.specs.Ranges.{◌to◌, in_range}
use Rattle.characters.specs.Utf8.{chars, is_char, is_scalar, encode_all, bytes_before, valid_up_to, WellFormed}
use Rattle.characters.specs.Direction.{is_direction, unmarked, unmarked_up_to, clean_up_to, Found}
use Rattle.characters.specs.Text.{byte_length}
use Rattle.characters.specs.Steps.{stops, second, spells, Clear}
use Rattle.characters.proofs.Rows.{In, in_range_lem, is_in}
use Rattle.characters.proofs.Text.{bytes_chars}
use Rattle.characters.proofs.Valid.{width_some, well_formed_encoded, read_all, encode_append, encode_bytes}

-- ---- what does not stop a walk
pub low_free : (barred : Bool) (c : ℕ) → c < 0x202A → stops barred c ≡ false
unfolding stops
low_free true c h = simp (lt-ltb c 1114112 (omega arith), lt-leb 0x202A c h, lt-leb 0x2066 c (omega arith))
low_free false c h = simp (lt-ltb c 1114112 (omega arith))

pub high_free : (barred : Bool) (c : ℕ) → 0x2069 < c → c < 1114112 → stops barred c ≡ false
unfolding stops
high_free true c h i = simp (lt-ltb c 1114112 i, lt-leb c 0x202E (omega arith), lt-leb c 0x2069 h, and_false)
high_free false c h i = simp (lt-ltb c 1114112 i)

pub other_free : (barred : Bool) (c : ℕ) → c < 1114112 → (barred ≡ true → is_direction c ≡ false) → stops barred c ≡ false
unfolding stops
other_free true c h i = rw (i refl) (simp (lt-ltb c 1114112 h))
other_free false c h i = simp (lt-ltb c 1114112 h)

-- ---- by bytes
spells_80 : (a b c : ℕ) → a ≡ 0xE2 → b ≡ 0x80 → In 0xAA 0xAE c → spells a b c ≡ true
unfolding spells second
spells_80 a b c p q i = rw (p, q, is_in i)

spells_81 : (a b c : ℕ) → a ≡ 0xE2 → b ≡ 0x81 → In 0xA6 0xA9 c → spells a b c ≡ true
unfolding spells second
spells_81 a b c p q i = rw (p, q, lt-leb 0xAA c (omega (arith, i.under)), is_in i)

-- three bytes that spell no mark are none
pub unspelt : (a b c : ℕ) → In 0xE0 0xEF a → In 0x80 0xBF b → In 0x80 0xBF c → spells a b c ≡ false → is_direction ((a % 16 * 64 + b % 64) * 64 + c % 64) ≡ false
unspelt a b c i j k e =
    let x = (a % 16 * 64 + b % 64) * 64 + c % 64 in
    let l = i.over in
    let l' = i.under in
    let m = j.over in
    let m' = j.under in
    let n = k.over in
    let n' = k.under in
    by_test (in_range x (0x202A to 0x202E))
    (λ h.
    let r = in_range_lem 0x202A 0x202E x h in
    let o = r.over in
    let u = r.under in
    absurd (false≢true (sym e ∙ spells_80 a b c (omega arith) (omega arith) (record { over = omega arith; under = omega arith }))))
    (λ h. by_test (in_range x (0x2066 to 0x2069))
    (λ g.
    let r = in_range_lem 0x2066 0x2069 x g in
    let o = r.over in
    let u = r.under in
    absurd (false≢true (sym e ∙ spells_81 a b c (omega arith) (omega arith) (record { over = omega arith; under = omega arith }))))
    (λ g. rw (h, g)))

-- a block with no byte E2, or none of whose places begins one, is clear
pub clear_low : (s : List ℕ) (at : ℕ) {m : ℕ} → ((k : ℕ) → k < 32 → m < 0xF4 → get_or s (at + k + 3) 0 ≡ 0xE2 → ⊥) → m < 0xF4 → Clear s at
unfolding spells
clear_low s at h l p i j =
    let e : at + (p - at) + 3 ≡ p + 3 = omega arith in
    let b = rw e at (h (p - at) (omega arith) l) in
    simp (ne_eqb (get_or s (p + 3) 0) 0xE2 b, and_false)

pub clear_none : (s : List ℕ) (at : ℕ) → ((k : ℕ) → k < 32 → spells (get_or s (at + 1 + k) 0) (get_or s (at + 1 + k + 1) 0) (get_or s (at + 1 + k + 2) 0) ≡ false) → Clear s at
clear_none s at h p i j =
    let x : at + 1 + (p + 2 - at) ≡ p + 3 = omega arith in
    let y : p + 3 + 1 ≡ p + 4 = omega arith in
    let z : p + 3 + 2 ≡ p + 5 = omega arith in
    rw (x, y, z) at (h (p + 2 - at) (omega arith))

-- ---- the first of two kinds
before_either : (p q : ℕ → Bool) (l : List ℕ) → bytes_before (λ c. p c || q c) l ≡ min (bytes_before p l) (bytes_before q l)
unfolding bytes_before
before_either p q [] = refl
before_either p q (c ∷ l) =
    by_test (p c)
    (λ h. rw h (omega arith))
    (λ h. by_test (q c) (λ i. rw (h, i) (omega arith)) (λ i. rw (h, i) (omega (arith, before_either p q l))))

-- the first fault is a mark or what is no character, whichever stands first
pub clean_first : (s : List ℕ) → clean_up_to s ≡ min (unmarked_up_to s) (valid_up_to s)
unfolding clean_up_to unmarked_up_to valid_up_to
clean_first s = before_either is_direction (λ c. not (is_char c)) (chars s)

-- ---- a text without marks
all_before : (p : ℕ → Bool) (l : List ℕ) → all (λ c. not (p c)) l ≡ true → bytes_before p l ≡ byte_length l
unfolding all bytes_before byte_length
all_before p [] h = refl
all_before p (c ∷ l) h =
    by_test (p c) (λ e. absurd (false≢true (rw e at h))) (λ e. rw e (omega (arith, all_before p l (rw e at h))))

some_before : (p : ℕ → Bool) (l : List ℕ) → all (λ c. not (p c)) l ≡ false → bytes_before p l < byte_length l
unfolding all bytes_before byte_length
some_before p [] h = absurd (false≢true (sym h))
some_before p (c ∷ l) h =
    by_test (p c) (λ e. rw e (omega (arith, width_some c))) (λ e. rw e (omega (arith, some_before p l (rw e at h))))

pub unmarked_all : (s : List ℕ) → unmarked s ≡ true → unmarked_up_to s ≡ length s
unfolding unmarked unmarked_up_to
unmarked_all s h = all_before is_direction (chars s) h ∙ bytes_chars s

pub marked_before : (s : List ℕ) → unmarked s ≡ false → unmarked_up_to s < length s
unfolding unmarked unmarked_up_to
marked_before s h = omega (arith, some_before is_direction (chars s) h, bytes_chars s)

-- ---- the first mark of a text that holds one
found_in : (p : ℕ → Bool) (l : List ℕ) → all (λ c. not (p c)) l ≡ false → Found p l
unfolding all bytes_before byte_length
found_in p [] h = absurd (false≢true (sym h))
found_in p (c ∷ l) h =
    by_test (p c)
    (λ e. record { front = []; mark = c; rest = l; is = refl; none = refl; one = e; place = rw e })
    (λ e.
    let f = found_in p l (rw e at h) in
    record { front = c ∷ f.front; mark = f.mark; rest = f.rest; is = ap (λ (y : List ℕ). c ∷ y) f.is; none = rw (e, f.none); one = f.one; place = rw (e, f.place) })

pub found : (s : List ℕ) → unmarked s ≡ false → Found is_direction (chars s)
unfolding unmarked
found s h = found_in is_direction (chars s) h

-- a text with a mark anywhere holds one
pub holds_one : (s front rest : List ℕ) (c : ℕ) → chars s ≡ front ++ c ∷ rest → is_direction c ≡ true → unmarked s ≡ false
unfolding unmarked all
holds_one s front rest c e h =
    by_test (unmarked s)
    (λ u. absurd (false≢true (rw h at (both (not (is_direction c)) (all (λ c. not (is_direction c)) rest) (all_append (λ c. not (is_direction c)) front (c ∷ rest) (ap (all (λ c. not (is_direction c))) (sym e) ∙ u)).1).0)))
    (λ u. u)

-- and in a well-formed one its bytes stand at that place
pub found_there : (s : List ℕ) → WellFormed s → (f : Found is_direction (chars s)) → drop (unmarked_up_to s) s ≡ encode_all (f.mark ∷ f.rest)
unfolding unmarked_up_to
found_there s w f =
    let e = well_formed_encoded s w in
    let v : e.of ≡ f.front ++ f.mark ∷ f.rest = sym (ap chars e.same ∙ read_all e.of e.scalars) ∙ f.is in
    let a = all_append is_scalar f.front (f.mark ∷ f.rest) (ap (all is_scalar) (sym v) ∙ e.scalars) in
    let b : s ≡ encode_all f.front ++ encode_all (f.mark ∷ f.rest) = e.same ∙ ap encode_all v ∙ encode_append f.front (f.mark ∷ f.rest) in
    ap (drop (unmarked_up_to s)) b ∙ drop_at (encode_all f.front) (encode_all (f.mark ∷ f.rest)) (unmarked_up_to s) (encode_bytes f.front a.0 ∙ sym f.place)
