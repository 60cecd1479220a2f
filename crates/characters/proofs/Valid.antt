-- The longest well-formed beginning: it is well-formed and nothing longer is, and the well-formed texts are exactly the encodings of lists of scalar
-- values.
-- Assumes nothing.
use Prim.Native.Nat.{ℕ, ◌+◌, ◌≤◌, ◌<◌}
use native.Mathlib.Omega.{arith}
use mathlib.Core.Path.{◌≡◌, refl, ap, sym, ◌∙◌}
use mathlib.Core.Logic.{◌↔◌}
use mathlib.Core.Bool.{Bool, true, not, cond}
use mathlib.Core.List.{List, [], ◌∷◌, ◌++◌, append_assoc, append-nil}
use lib.ListN.{length, drop, take, length-drop, length-append, take-append-drop}
use lib.Seq.{drop_at, take-length, take-add, length-take-le, take-nil}
use lib.Dec.{ltb}
use borrow.Author.Tests.{lt-ltb, ltb-true}
use Rattle.lists.specs.All.{all}
use Rattle.lists.proofs.Cut.{by_length}
use Rattle.lists.proofs.Bools.{by_test, both}
use Rattle.characters.specs.Utf8.{first, chars, width, is_char, is_scalar, encode, encode_all, bytes_before, valid_up_to, WellFormed, Encoded}
use Rattle.characters.specs.Text.{byte_length}
use Rattle.characters.proofs.First.{fine}
use Rattle.characters.proofs.Encode.{scalar, encode_long, back, forth}
use Rattle.characters.proofs.Text.{chars_nil, chars_first, bytes_chars}

-- ---- the encodings of scalar values are well-formed
pub valid_nil : valid_up_to [] ≡ 0
unfolding valid_up_to bytes_before
valid_nil = rw chars_nil

before_within : (p : ℕ → Bool) (l : List ℕ) → bytes_before p l ≤ byte_length l
unfolding bytes_before byte_length
before_within p [] = omega arith
before_within p (c ∷ l) = by_test (p c) (λ h. rw h (omega arith)) (λ h. rw h (omega (arith, before_within p l)))

pub width_some : (c : ℕ) → 1 ≤ width c
unfolding width
width_some c =
    by_test (ltb c 0x80) (λ h. rw h (omega arith))
    (λ h. by_test (ltb c 0x800) (λ i. rw (h, i) (omega arith))
    (λ i. by_test (ltb c 0x10000) (λ j. rw (h, i, j) (omega arith))
    (λ j. by_test (is_char c) (λ k. rw (h, i, j, k) (omega arith)) (λ k. rw (h, i, j, k) (omega arith)))))

pub chars_encode : (c : ℕ) (s : List ℕ) → is_scalar c ≡ true → chars (encode c ++ s) ≡ c ∷ chars s
chars_encode c s h =
    let l : c < 1114112 = omega (arith, (scalar c h).top) in
    let w : length (encode c) ≡ width c = encode_long c l in
    let k : 0 < length (encode c ++ s) = omega (arith, length-append (encode c) s, width_some c) in
    chars_first (encode c ++ s) k ∙ rw (back c s h, drop_at (encode c) s (width c) w)

-- a list of scalar values, written and read, is that list
pub read_back : (cs s : List ℕ) → all is_scalar cs ≡ true → chars (encode_all cs ++ s) ≡ cs ++ chars s
unfolding all encode_all
read_back [] s h = refl
read_back (c ∷ cs) s h =
    let p = both (is_scalar c) (all is_scalar cs) h in
    rw append_assoc (chars_encode c (encode_all cs ++ s) p.0 ∙ rw (read_back cs s p.1))

-- and every byte of it counts
pub valid_encoded : (cs s : List ℕ) → all is_scalar cs ≡ true → valid_up_to (encode_all cs ++ s) ≡ length (encode_all cs) + valid_up_to s
unfolding all encode_all valid_up_to bytes_before
valid_encoded [] s h = omega arith
valid_encoded (c ∷ cs) s h =
    let p = both (is_scalar c) (all is_scalar cs) h in
    let l : c < 1114112 = omega (arith, (scalar c p.0).top) in
    rw (append_assoc, chars_encode c (encode_all cs ++ s) p.0, lt-ltb c 1114112 l, length-append (encode c) (encode_all cs))
    (omega (arith, encode_long c l, valid_encoded cs s p.1))

pub encoded_well_formed : (cs : List ℕ) → all is_scalar cs ≡ true → WellFormed (encode_all cs)
encoded_well_formed cs h =
    let e : encode_all cs ++ [] ≡ encode_all cs = append-nil (encode_all cs) in
    rw e at (valid_encoded cs [] h) ∙ omega (arith, valid_nil)

-- ---- the characters before the first that is none
unfoldable pub good : List ℕ → List ℕ
good [] = []
good (c ∷ t) = cond (is_char c) (c ∷ good t) []

-- they are scalar values, and their encodings are the longest well-formed beginning
pub record Beginning (s : List ℕ) : Type 0 where
  pub scalars : all is_scalar (good (chars s)) ≡ true
  pub written : encode_all (good (chars s)) ≡ take (valid_up_to s) s

begin_none : Beginning []
unfolding good all encode_all
begin_none = record { scalars = rw chars_nil; written = rw chars_nil (sym (take-nil (valid_up_to []))) }

begin_one : (a : ℕ) (s : List ℕ) → ((l : List ℕ) → length l ≤ length s → Beginning l) → Beginning (a ∷ s)
unfolding good all encode_all valid_up_to bytes_before
begin_one a s ih =
    let x = (first (a ∷ s)).0 in
    let w = (first (a ∷ s)).1 in
    let f = fine a s in
    let t = drop w (a ∷ s) in
    let b = ih t (omega (arith, f.some, length-drop w (a ∷ s))) in
    let c : chars (a ∷ s) ≡ x ∷ chars t = chars_first (a ∷ s) (omega arith) in
    by_test (is_char x)
    (λ h.
    let l : x < 1114112 = ltb-true x 1114112 h in
    record {
      scalars = rw (c, h, f.scalar l) b.scalars;
      written = rw (c, h, b.written, forth a s l, ← f.size) (sym (take-add w (valid_up_to t) (a ∷ s)));
    })
    (λ h. record { scalars = rw (c, h); written = rw (c, h) })

pub beginning : (s : List ℕ) → Beginning s
beginning = by_length Beginning begin_none begin_one

pub valid_within : (s : List ℕ) → valid_up_to s ≤ length s
unfolding valid_up_to
valid_within s = omega (arith, before_within (λ c. not (is_char c)) (chars s), bytes_chars s)

-- ---- the longest well-formed beginning is well-formed, and nothing longer is
pub longest_well_formed : (s : List ℕ) → WellFormed (take (valid_up_to s) s)
longest_well_formed s = let b = beginning s in rw b.written at (encoded_well_formed (good (chars s)) b.scalars)

-- ---- the well-formed texts are exactly the encodings of lists of scalar values
pub well_formed_encoded : (s : List ℕ) → WellFormed s → Encoded s
well_formed_encoded s h =
    let b = beginning s in
    record { of = good (chars s); scalars = b.scalars; same = sym (b.written ∙ rw h (take-length s)) }

pub exactly_encoded : (s : List ℕ) → WellFormed s ↔ Encoded s
exactly_encoded s = (well_formed_encoded s, λ e. rw e.same (encoded_well_formed e.of e.scalars))

pub nothing_longer : (s : List ℕ) (n : ℕ) → n ≤ length s → WellFormed (take n s) → n ≤ valid_up_to s
nothing_longer s n l h =
    let e = well_formed_encoded (take n s) h in
    let v = valid_encoded e.of (drop n s) e.scalars in
    let j : encode_all e.of ++ drop n s ≡ s = rw (← e.same) (take-append-drop n s) in
    let m : length (encode_all e.of) ≡ n = ap length (sym e.same) ∙ length-take-le n s l in
    omega (arith, rw j at v, m)

-- ---- lists of scalar values, written
pub encode_append : (a b : List ℕ) → encode_all (a ++ b) ≡ encode_all a ++ encode_all b
unfolding encode_all
encode_append [] b = refl
encode_append (c ∷ a) b = rw (encode_append a b) (sym (append_assoc (encode c) (encode_all a) (encode_all b)))

pub encode_bytes : (t : List ℕ) → all is_scalar t ≡ true → length (encode_all t) ≡ byte_length t
unfolding encode_all byte_length all
encode_bytes [] h = refl
encode_bytes (c ∷ t) h =
    let e = both (is_scalar c) (all is_scalar t) h in
    rw (length-append (encode c) (encode_all t)) (omega (arith, encode_long c (omega (arith, (scalar c e.0).top)), encode_bytes t e.1))

pub read_all : (l : List ℕ) → all is_scalar l ≡ true → chars (encode_all l) ≡ l
read_all l h = ap chars (sym (append-nil (encode_all l))) ∙ read_back l [] h ∙ ap (λ (y : List ℕ). l ++ y) chars_nil ∙ append-nil l
