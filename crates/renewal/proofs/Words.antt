-- Numbers as bytes can be read back; and lists that begin alike.
-- Assumes nothing.
use Prim.Native.Nat.{ℕ, zero, suc, ◌+◌, ◌*◌, ◌/◌, ◌≤◌, ◌<◌}
use native.Mathlib.Omega.{arith}
use native.Mathlib.Nat.{mod-add-div}
use mathlib.Core.Path.{◌≡◌, refl, ap}
use mathlib.Core.List.{List, [], ◌∷◌, ◌++◌}
use lib.ListN.{length}
use Rattle.text.specs.Answer.{longest}
use Rattle.renewal.specs.Key.{low_bytes, word}

-- the number that bytes stand for, the lowest first
unfoldable pub value : List ℕ → ℕ
value [] = 0
value (b ∷ l) = b + 256 * value l

pub digits_length : (k n : ℕ) → length (low_bytes k n) ≡ k
unfolding low_bytes
digits_length zero n = refl
digits_length (suc k) n = ap suc (digits_length k (n / 256))

-- 256 to the k
unfoldable top : ℕ → ℕ
top zero = 1
top (suc k) = 256 * top k

value_digits : (k n : ℕ) → n < top k → value (low_bytes k n) ≡ n
unfolding low_bytes value top
value_digits zero n h = omega arith
value_digits (suc k) n h =
    let ih : value (low_bytes k (n / 256)) ≡ n / 256 = value_digits k (n / 256) (omega arith) in
    omega (arith, mod-add-div n 256)

pub value_word : (n : ℕ) → n ≤ longest → value (word n) ≡ n
unfolding top
value_word n h = value_digits 4 n (omega arith)

-- beginnings of one length
pub same_front : {A : Type 0} (p q : List A) {a b : List A} → length p ≡ length q → p ++ a ≡ q ++ b → (p ≡ q) × (a ≡ b)
same_front [] [] h e = (refl, e)
same_front [] (y ∷ q) h e = absurd (omega arith)
same_front (x ∷ p) [] h e = absurd (omega arith)
same_front (x ∷ p) (y ∷ q) {a} {b} h e =
    let t : p ++ a ≡ q ++ b = cc in
    let r = same_front p q (omega arith) t in
    let u : x ≡ y = cc in
    let v : p ≡ q = r.0 in
    (cc, r.1)
