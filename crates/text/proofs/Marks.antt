-- Refusal 7: of which texts, with what, and in what order.
-- Assumes nothing.
use mathlib.Core.Path.{◌≡◌, refl, ap}
use mathlib.Core.Logic.{◌↔◌}
use mathlib.Core.Bool.{true}
use mathlib.Core.List.{List, [], ◌∷◌, ◌++◌}
use Prim.Native.Nat.{ℕ, ◌≤◌, ◌<◌}
use native.Mathlib.Omega.{arith}
use lib.Dec.{ltb, eqb}
use lib.ListN.{length, drop}
use borrow.Author.Tests.{lt-ltb, le-ltb, eqb-true}
use Rattle.lists.specs.All.{all}
use Rattle.lists.specs.Cut.{pieces, cut}
use Rattle.lists.proofs.Bools.{by_test}
use Rattle.characters.specs.Utf8.{table, behind, begins, joined, read_by, first, next, chars, width, encode_all, bytes_before, valid_up_to}
use Rattle.characters.specs.Direction.{is_direction, unmarked, unmarked_up_to, Found}
use Rattle.characters.proofs.Direction.{found, found_there, holds_one}
use Rattle.text.specs.Answer.{done, not_utf8, direction_mark, longest, known_profile, check_text, check_marks, check_cut, ◌and_then◌, CutMarked}
use Rattle.text.proofs.Checks.{accepted, not_refused}

-- ---- THE REFUSAL: 7 with the byte place of the first mark, and for such texts alone
pub marked_refused : {s : List ℕ} {p : ℕ} → CutMarked s p → check_cut s p ≡ (direction_mark, unmarked_up_to s)
unfolding check_cut check_marks
marked_refused {s} m = rw (m.known, not_refused s m.text, m.marked)

-- `check_text`, all that `is_ident` and the calls on bodies ask, never refuses so
pub text_never : (s : List ℕ) → (check_text s).0 ≡ direction_mark → ⊥
unfolding check_text
text_never s h =
    by_test (ltb longest (length s)) (λ b. omega (arith, rw b at h))
    (λ b. by_test (ltb (valid_up_to s) (length s)) (λ d. omega (arith, rw (b, d) at h)) (λ d. omega (arith, rw (b, d) at h)))

pub refused_marked : (s : List ℕ) (p : ℕ) → (check_cut s p).0 ≡ direction_mark → CutMarked s p
unfolding check_cut check_marks
refused_marked s p h =
    by_test (known_profile p)
    (λ a. by_test (eqb (check_text s).0 done)
    (λ b. by_test (unmarked s)
    (λ u. absurd (omega (arith, rw (a, b, u) at h)))
    (λ u. record { known = a; text = accepted s (eqb-true (check_text s).0 done b); marked = u }))
    (λ b. absurd (text_never s (rw (a, b) at h))))
    (λ a. absurd (omega (arith, rw a at h)))

pub exactly_marked : (s : List ℕ) (p : ℕ) → (check_cut s p).0 ≡ direction_mark ↔ CutMarked s p
exactly_marked s p = (refused_marked s p, λ m. ap (λ (r : ℕ × ℕ). r.0) (marked_refused m))

-- the first is a character of the text with none before it, and it stands at that place
pub first_there : {s : List ℕ} {p : ℕ} → CutMarked s p → Found is_direction (chars s)
first_there {s} m = found s m.marked

pub first_bytes : {s : List ℕ} {p : ℕ} (m : CutMarked s p) → drop (unmarked_up_to s) s ≡ encode_all ((first_there m).mark ∷ (first_there m).rest)
first_bytes {s} m = found_there s m.text.good (first_there m)

-- a mark anywhere will do
pub anywhere_refused : (s : List ℕ) (p : ℕ) (front rest : List ℕ) (c : ℕ) → known_profile p ≡ true → (check_text s).0 ≡ done → chars s ≡ front ++ c ∷ rest → is_direction c ≡ true → (check_cut s p).0 ≡ direction_mark
anywhere_refused s p front rest c k t e h =
    ap (λ (r : ℕ × ℕ). r.0) (marked_refused (record { known = k; text = accepted s t; marked = holds_one s front rest c e h }))

-- ---- AFTER 3: a text that is not UTF-8 is refused with 3 wherever it holds a mark
pub bad_first : (s : List ℕ) (p : ℕ) → known_profile p ≡ true → length s ≤ longest → valid_up_to s < length s → check_cut s p ≡ (not_utf8, valid_up_to s)
unfolding check_cut check_text
bad_first s p k l h = rw (k, le-ltb longest (length s) l, lt-ltb (valid_up_to s) (length s) h)

-- ---- BEFORE 4: whatever comes behind
pub marked_first : {s : List ℕ} {p : ℕ} (r : ℕ × ℕ) → CutMarked s p → check_cut s p and_then r ≡ (direction_mark, unmarked_up_to s)
marked_first r m = let e = marked_refused m in rw e

-- ---- computed: `a`, U+202E, `b`; and U+202E before a byte that is not UTF-8
marked_sample : check_cut (0x61 ∷ 0xE2 ∷ 0x80 ∷ 0xAE ∷ 0x62 ∷ []) 0 ≡ (7, 1)
unfolding check_cut check_text check_marks unmarked unmarked_up_to all valid_up_to bytes_before width chars cut pieces next first read_by behind table begins joined
marked_sample = refl

bad_sample : check_cut (0xE2 ∷ 0x80 ∷ 0xAE ∷ 0xFF ∷ []) 0 ≡ (3, 3)
unfolding check_cut check_text check_marks unmarked unmarked_up_to all valid_up_to bytes_before width chars cut pieces next first read_by behind table begins joined
bad_sample = refl
