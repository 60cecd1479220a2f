-- Walks over a text by characters, up to the first that stops them: how the bytes before it go on from a place, and what a walk has passed.
-- Assumes nothing.
use Prim.Native.Nat.{ℕ, zero, suc, ◌+◌, ◌≤◌, ◌<◌}
use native.Mathlib.Omega.{arith}
use native.Mathlib.Nat.{add-zero}
use mathlib.Core.Path.{◌≡◌, refl, ◌∙◌}
use mathlib.Core.Bool.{Bool, true, false}
use mathlib.Core.List.{List}
use lib.ListN.{length, drop, get_or}
use lib.Seq.{drop-cons}
use Rattle.characters.specs.Utf8.{first, chars, bytes_before}
use Rattle.characters.specs.Text.{left, Decoded}
use Rattle.characters.specs.Steps.{Point, stops, Passed, Plain}
use Rattle.characters.proofs.Text.{left_end, point_at, decoded_point}
use Rattle.characters.proofs.Rows.{first_1}
use Rattle.characters.proofs.Direction.{low_free}

-- ---- the bytes before the first character that stops, from a place on
module _ (stop : ℕ → Bool) where
  before_more : {s : List ℕ} {at code wide : ℕ} → Point s at code wide → stop code ≡ false → bytes_before stop (left s at) ≡ wide + bytes_before stop (left s (at + wide))
  unfolding bytes_before
  before_more c h = rw (c.view, h, ← c.size)

  before_stop : {s : List ℕ} {at code wide : ℕ} → Point s at code wide → stop code ≡ true → bytes_before stop (left s at) ≡ 0
  unfolding bytes_before
  before_stop c h = rw (c.view, h)

  before_end : (s : List ℕ) (at : ℕ) → length s ≤ at → bytes_before stop (left s at) ≡ 0
  unfolding bytes_before
  before_end s at h = rw (left_end s at h)

-- ASCII, byte by byte
pub ascii_point : (s : List ℕ) (at : ℕ) → at < length s → get_or s at 0 < 0x80 → Point s at (get_or s at 0) 1
ascii_point s at h k =
    let e : first (drop at s) ≡ (get_or s at 0, 1) = rw (drop-cons s at 0 h) (first_1 (get_or s at 0) (drop (suc at) s) (omega arith)) in
    rw e at (point_at s at h)

before_ascii : (stop : ℕ → Bool) → ((c : ℕ) → c < 0x80 → stop c ≡ false) → (n : ℕ) (s : List ℕ) (at : ℕ) → at + n ≤ length s → ((k : ℕ) → k < n → get_or s (at + k) 0 < 0x80) →
    bytes_before stop (left s at) ≡ n + bytes_before stop (left s (at + n))
before_ascii stop q zero s at l h = rw (add-zero at) (omega arith)
before_ascii stop q (suc n) s at l h =
    let b : get_or s at 0 < 0x80 = rw (add-zero at) at (h 0 (omega arith)) in
    let e : at + 1 + n ≡ at + suc n = omega arith in
    let ih : bytes_before stop (left s (at + 1)) ≡ n + bytes_before stop (left s (at + suc n)) =
    rw e at (before_ascii stop q n s (at + 1) (omega arith) (λ k i. let f : at + suc k ≡ at + 1 + k = omega arith in rw f at (h (suc k) (omega arith)))) in
    before_more stop (ascii_point s at (omega arith) b) (q (get_or s at 0) b) ∙ omega (arith, ih)

-- ---- walks
module _ {stop : ℕ → Bool} where
  pub passed_none : {s : List ℕ} {at : ℕ} → at ≤ length s → Passed stop s at at
  passed_none h = record { after = omega arith; within = h; same = refl }

  pub passed_then : {s : List ℕ} {from at end : ℕ} → Passed stop s from at → Passed stop s at end → Passed stop s from end
  passed_then p q = record { after = omega arith; within = q.within; same = p.same ∙ q.same }

  pub passed_char : {s : List ℕ} {at code wide at' : ℕ} → Point s at code wide → stop code ≡ false → at' ≡ at + wide → Passed stop s at at'
  passed_char c h e = rw e (record { after = omega arith; within = c.within; same = omega (arith, before_more stop c h) })

  -- as `search` takes them from what a need knows
  pub walk_on : {s : List ℕ} {from at at' code wide : ℕ} → Passed stop s from at → Decoded s at code wide → at < length s → stop code ≡ false → at' ≡ at + wide → Passed stop s from at'
  walk_on p d l h e = passed_then p (passed_char (decoded_point d l) h e)

  pub walked : {s : List ℕ} {at : ℕ} → Passed stop s 0 at → bytes_before stop (left s at) ≡ 0 → at ≡ bytes_before stop (chars s)
  walked p h = omega (arith, p.same)

  pub walked_all : {s : List ℕ} {at : ℕ} → Passed stop s 0 at → length s ≤ at → at ≡ bytes_before stop (chars s)
  walked_all {s} {at} p h = walked p (before_end stop s at h)

pub walk_stop : (stop : ℕ → Bool) {s : List ℕ} {at code wide : ℕ} → Decoded s at code wide → at < length s → stop code ≡ true → bytes_before stop (left s at) ≡ 0
walk_stop stop d l h = before_stop stop (decoded_point d l) h

-- ---- over ASCII, whatever is barred
pub plain_none : {s : List ℕ} {at : ℕ} → at ≤ length s → Plain s at at
plain_none h = record { after = omega arith; within = h; passed = λ b. passed_none h }

pub plain_block : {s : List ℕ} {from at at' m n : ℕ} → Plain s from at → ((k : ℕ) → k < n → get_or s (at + k) 0 ≤ m) → at + n ≤ length s → m ≤ 0x7F → at' ≡ at + n → Plain s from at'
plain_block {s} {from} {at} {at'} {m} {n} p h l g e =
    let q : (b : Bool) → bytes_before (stops b) (left s at) ≡ n + bytes_before (stops b) (left s (at + n)) =
    λ b. before_ascii (stops b) (λ c i. low_free b c (omega arith)) n s at l (λ k i. omega (arith, h k i)) in
    rw e
    (record {
      after = omega (arith, p.after);
      within = l;
      passed = λ b. passed_then (p.passed b) (record { after = omega arith; within = l; same = omega (arith, q b) });
    })
