-- THE TRACKER finds, as the characters of a token come, what `misplaced_in` finds in its bytes: what it has seen says of every end what that would answer; and
-- from where the suffix starts on it stays.
-- Assumes nothing.
use Prim.Native.Nat.{ℕ, zero, suc, ◌+◌, ◌/◌, ◌%◌, ◌≤◌, ◌<◌}
use native.Mathlib.Omega.{arith}
use mathlib.Core.Path.{◌≡◌, refl, ap, sym, ◌∙◌}
use mathlib.Core.Bool.{Bool, true, false, not, cond, ◌&&◌, ◌||◌}
use mathlib.Core.List.{List, [], ◌∷◌, ◌++◌}
use lib.Dec.{eqb, leb, ltb}
use lib.ListN.{length, drop, get_or, drop_of_length-le}
use lib.Seq.{drop-cons, get_or-drop}
use borrow.Author.Tests.{le-leb, lt-leb, leb-true, ltb-true, ltb-false, lt-ltb, le-ltb, eqb-true, ne_eqb}
use Rattle.lists.specs.All.{all}
use Rattle.lists.proofs.Bools.{by_test, both, and_false, and_true, or_false}
use Rattle.characters.specs.Utf8.{encode, width}
use Rattle.characters.proofs.Encode.{encode_long}
use Rattle.cutters.specs.Digits.{is_digit, is_hex_digit, digit_by}
use Rattle.cutters.specs.Steps.{first_of}
use Rattle.cutters.specs.Underscores.{before, misplaced, misplaced_in, read_bytes, hex_first, misplaced_of}
use Rattle.cutters.proofs.Underscores.{in_here, in_on}

-- ---- the first misplaced underscore from a place on, by the list of the bytes that are left and the byte before them
unfoldable pub odd_from : Bool → ℕ → ℕ → List ℕ → ℕ
odd_from hex at prev [] = 0
odd_from hex at prev (c ∷ t) =
    elim (eqb c 0x5F && not (digit_by hex prev && digit_by hex (get_or t 0 0))) [
      | true ↦ at
      | false ↦ odd_from (hex && not (eqb c 0x2E)) (suc at) c t
    ]

odd_here : (h : Bool) (n p c : ℕ) (r : List ℕ) → (eqb c 0x5F && not (digit_by h p && digit_by h (get_or r 0 0))) ≡ true → odd_from h n p (c ∷ r) ≡ n
unfolding odd_from
odd_here h n p c r e = rw (e, odd_from)

pub odd_on : (h : Bool) (n p c : ℕ) (r : List ℕ) → (eqb c 0x5F && not (digit_by h p && digit_by h (get_or r 0 0))) ≡ false → odd_from h n p (c ∷ r) ≡ odd_from (h && not (eqb c 0x2E)) (suc n) c r
unfolding odd_from
odd_on h n p c r e = rw (e, odd_from)

-- it is what `misplaced_in` finds from there on
odd_in : (n : ℕ) (h : Bool) (s : List ℕ) (i : ℕ) → i + n ≡ length s → misplaced_in h s i n ≡ odd_from h i (before s i) (drop i s)
unfolding misplaced_in odd_from
odd_in zero h s i e = rw (drop_of_length-le s {i = i} (omega arith))
odd_in (suc n) h s i e =
    let c = get_or s i 0 in
    let r = drop (suc i) s in
    let z : suc i + 0 ≡ suc i = omega arith in
    let g : get_or r 0 0 ≡ get_or s (suc i) 0 = get_or-drop (suc i) s 0 0 ∙ ap (λ (k : ℕ). get_or s k 0) z in
    let d = drop-cons s i 0 (omega arith) in
    by_test (misplaced (digit_by h) s i)
    (λ t. in_here h s i n t ∙ sym (rw d (odd_here h i (before s i) c r (rw g t))))
    (λ t. in_on h s i n t ∙ odd_in n (h && not (eqb c 0x2E)) s (suc i) (omega arith) ∙ sym (rw d (odd_on h i (before s i) c r (rw g t))))

-- that of the bytes of a token that are read
abbrev pub odd : List ℕ → ℕ
odd r = odd_from (hex_first r) 0 0 r

pub word_is : (kind suffix : ℕ) (b : List ℕ) → misplaced_of kind suffix b ≡ odd (read_bytes kind suffix b)
unfolding misplaced_of
word_is kind suffix b = let r = read_bytes kind suffix b in odd_in (length r) (hex_first r) r 0 (omega arith)

-- ---- no digit
under_digit : (h : Bool) → digit_by h 0x5F ≡ false
unfolding is_digit is_hex_digit
under_digit true = refl
under_digit false = refl

pub nul_digit : (h : Bool) → digit_by h 0 ≡ false
unfolding is_digit is_hex_digit
nul_digit true = refl
nul_digit false = refl

high_digit : (h : Bool) (c : ℕ) → 0x80 ≤ c → digit_by h c ≡ false
unfolding is_digit is_hex_digit
high_digit true c l = simp (lt-leb c 0x39 (omega arith), lt-leb c 0x46 (omega arith), lt-leb c 0x66 (omega arith), and_false)
high_digit false c l = simp (lt-leb c 0x39 (omega arith), and_false)

-- ---- the answer for a token that goes on with the bytes r: what is found already, or what waits and no digit follows, or what is found in r
abbrev pub settles : ℕ → ℕ → Bool → ℕ → ℕ
settles found wait x g = first_of found (cond (eqb wait 0) g (cond x g wait))

-- which digits count from place n on, where c stands there
abbrev pub hex_at : Bool → ℕ → ℕ → ℕ → Bool
hex_at h n p c = h || (eqb n 1 && (eqb p 0x30 && eqb c 0x78))

unfoldable pub comes : ℕ → ℕ → ℕ → Bool → ℕ → List ℕ → ℕ
comes found wait p h n r = settles found wait (digit_by h (get_or r 0 0)) (odd_from (hex_at h n p (get_or r 0 0)) n p r)

not_not : (b : Bool) → not (not b) ≡ b
not_not true = refl
not_not false = refl

-- an underscore behind a digit waits for the next byte, and another is misplaced
under : (found wait p : ℕ) (h : Bool) (n : ℕ) (r : List ℕ) → 1 ≤ n →
    comes found wait p h n (0x5F ∷ r) ≡ comes (first_of found (cond (not (eqb wait 0)) wait (cond (not (digit_by h p)) n 0))) (cond (digit_by h p) n 0) 0x5F h (suc n) r
unfolding comes
under found wait p h n r some =
    let a : hex_at h n p 0x5F ≡ h = simp (and_false, or_false) in
    let b : hex_at h (suc n) 0x5F (get_or r 0 0) ≡ h = simp (ne_eqb (suc n) 1 (λ e. omega arith), or_false) in
    let k : eqb n 0 ≡ false = ne_eqb n 0 (λ e. omega arith) in
    let d : digit_by h 0x5F ≡ false = under_digit h in
    let z : (h && true) ≡ h = and_true h in
    rw (a, b, d)
    (by_test (eqb found 0)
    (λ e. by_test (eqb wait 0)
    (λ f. by_test (digit_by h p)
    (λ i. by_test (digit_by h (get_or r 0 0))
    (λ j. rw (odd_on h n p 0x5F r (rw (i, j)), e, f, i, k, j, z))
    (λ j. rw (odd_here h n p 0x5F r (rw (i, j)), e, f, i, k, j)))
    (λ i. rw (odd_here h n p 0x5F r (rw i), e, f, i, k)))
    (λ f. rw (e, f, f)))
    (λ e. rw (e, e)))

module _ (found wait p : ℕ) (h : Bool) (n c : ℕ) (r : List ℕ) (some : 1 ≤ n) where
  abbrev x : Bool
  x = digit_by h c

  abbrev bare : Bool
  bare = eqb c 0x5F && not (digit_by h p)

  abbrev pub found' : ℕ
  found' = first_of found (cond (not (eqb wait 0) && not x) wait (cond bare n 0))

  abbrev pub wait' : ℕ
  wait' = cond (eqb c 0x5F && not bare) n 0

  abbrev pub h' : Bool
  h' = hex_at h n p c && not (eqb c 0x2E)

  later : eqb (suc n) 1 ≡ false
  later = ne_eqb (suc n) 1 (λ e. omega arith)

  -- another byte
  plain : eqb c 0x5F ≡ false → comes found wait p h n (c ∷ r) ≡ comes found' wait' c h' (suc n) r
  unfolding comes
  plain u =
      let g = odd_from h' (suc n) c r in
      let a : odd_from (hex_at h n p c) n p (c ∷ r) ≡ g = odd_on (hex_at h n p c) n p c r (rw u) in
      let b : hex_at h' (suc n) c (get_or r 0 0) ≡ h' = simp (later, or_false) in
      rw (a, b, u)
      (by_test (eqb found 0)
      (λ e. by_test (eqb wait 0)
      (λ f. rw (e, f)) (λ f. by_test x (λ k. rw (e, f, k)) (λ k. rw (e, f, k, f))))
      (λ e. rw (e, e)))

  byte_step : comes found wait p h n (c ∷ r) ≡ comes found' wait' c h' (suc n) r
  byte_step =
      by_test (eqb c 0x5F)
      (λ u.
      let z : c ≡ 0x5F = eqb-true c 0x5F u in
      let a : hex_at h n p 0x5F ≡ h = simp (and_false, or_false) in
      rw (z, a, under_digit h, not_not (digit_by h p), and_true (not (eqb wait 0)), and_true h) (under found wait p h n r some))
      plain

-- ---- a character that is not ASCII: each of its bytes ends what waits
abbrev past : ℕ → ℕ → ℕ
past found wait = first_of found (cond (not (eqb wait 0)) wait 0)

past_past : (found wait : ℕ) → past (past found wait) 0 ≡ past found wait
past_past found wait =
    by_test (eqb found 0)
    (λ e. by_test (eqb wait 0) (λ f. rw (e, f)) (λ f. rw (e, f, f)))
    (λ e. rw (e, e))

module _ (found wait p : ℕ) (h : Bool) (n c : ℕ) (l : 0x80 ≤ c) where
  no_x : eqb c 0x78 ≡ false
  no_x = ne_eqb c 0x78 (λ e. omega arith)

  no_under : eqb c 0x5F ≡ false
  no_under = ne_eqb c 0x5F (λ e. omega arith)

  no_point : eqb c 0x2E ≡ false
  no_point = ne_eqb c 0x2E (λ e. omega arith)

  -- the tracker behind such a byte
  high_found : (r : List ℕ) (some : 1 ≤ n) → found' found wait p h n c r some ≡ past found wait
  high_found r some = rw (high_digit h c l, no_under, and_true (not (eqb wait 0)))

  high_hex : (r : List ℕ) (some : 1 ≤ n) → h' found wait p h n c r some ≡ h
  high_hex r some = simp (no_x, no_point, and_false, or_false, and_true)

  high_wait : (r : List ℕ) (some : 1 ≤ n) → wait' found wait p h n c r some ≡ 0
  high_wait r some = rw no_under

  high_step : (r : List ℕ) → 1 ≤ n → comes found wait p h n (c ∷ r) ≡ comes (past found wait) 0 c h (suc n) r
  high_step r some = byte_step found wait p h n c r some ∙ rw (high_found r some, high_hex r some, high_wait r some)

module _ (a b : ℕ) (k : 0x80 ≤ a) (l : 0x80 ≤ b) where
  odd_alike : (h : Bool) (n : ℕ) (r : List ℕ) → odd_from h n a r ≡ odd_from h n b r
  unfolding odd_from
  odd_alike h n [] = refl
  odd_alike h n (c ∷ r) =
      let i = high_digit h a k in
      let j = high_digit h b l in
      by_test (eqb c 0x5F)
      (λ u. odd_here h n a c r (rw (u, i)) ∙ sym (odd_here h n b c r (rw (u, j))))
      (λ u. odd_on h n a c r (rw u) ∙ sym (odd_on h n b c r (rw u)))

  high_alike : (found wait : ℕ) (h : Bool) (n : ℕ) (r : List ℕ) → comes found wait a h n r ≡ comes found wait b h n r
  unfolding comes
  high_alike found wait h n r =
      let i : eqb a 0x30 ≡ false = ne_eqb a 0x30 (λ e. omega arith) in
      let j : eqb b 0x30 ≡ false = ne_eqb b 0x30 (λ e. omega arith) in
      let z : hex_at h n a (get_or r 0 0) ≡ h = simp (i, and_false, or_false) in
      let w : hex_at h n b (get_or r 0 0) ≡ h = simp (j, and_false, or_false) in
      rw (z, w, odd_alike h n r)

highs : (ys : List ℕ) (y found wait p : ℕ) (h : Bool) (n x : ℕ) (r : List ℕ) → all (leb 0x80) (y ∷ ys) ≡ true → 0x80 ≤ x → 1 ≤ n →
    comes found wait p h n (y ∷ (ys ++ r)) ≡ comes (past found wait) 0 x h (n + length (y ∷ ys)) r
unfolding all
highs [] y found wait p h n x r e l some =
    let k : 0x80 ≤ y = leb-true 0x80 y (both (leb 0x80 y) true e).0 in
    let z : n + 1 ≡ suc n = omega arith in
    rw z (high_step found wait p h n y k r some ∙ high_alike y x k l (past found wait) 0 h (suc n) r)
highs (y' ∷ ys) y found wait p h n x r e l some =
    let i = both (leb 0x80 y) (all (leb 0x80) (y' ∷ ys)) e in
    let z : suc n + length (y' ∷ ys) ≡ n + length (y ∷ y' ∷ ys) = omega arith in
    high_step found wait p h n y (leb-true 0x80 y i.0) (y' ∷ (ys ++ r)) some
    ∙ highs ys y' (past found wait) 0 y h (suc n) x r i.1 l (omega arith) ∙ rw (past_past found wait, z)

-- these bytes, of which there is at least one
record Highs (c : ℕ) : Type 0 where
  y : ℕ
  ys : List ℕ
  is : encode c ≡ y ∷ ys
  high : all (leb 0x80) (y ∷ ys) ≡ true

encode_high : (c : ℕ) → 0x80 ≤ c → Highs c
unfolding encode all
encode_high c l =
    let n : ltb c 0x80 ≡ false = le-ltb c 0x80 l in
    let b : (v : ℕ) → leb 0x80 (0x80 + v) ≡ true = λ v. le-leb 0x80 (0x80 + v) (omega arith) in
    by_test (ltb c 0x800)
    (λ e. record { y = 0xC0 + c / 64; ys = (0x80 + c % 64) ∷ []; is = rw (n, e); high = rw (le-leb 0x80 (0xC0 + c / 64) (omega arith), b (c % 64)) })
    (λ e. by_test (ltb c 0x10000)
    (λ f. record { y = 0xE0 + c / 4096; ys = (0x80 + c / 64 % 64) ∷ (0x80 + c % 64) ∷ []; is = rw (n, e, f); high = rw (le-leb 0x80 (0xE0 + c / 4096) (omega arith), b (c / 64 % 64), b (c % 64)) })
    (λ f. record {
      y = 0xF0 + c / 262144;
      ys = (0x80 + c / 4096 % 64) ∷ (0x80 + c / 64 % 64) ∷ (0x80 + c % 64) ∷ [];
      is = rw (n, e, f);
      high = rw (le-leb 0x80 (0xF0 + c / 262144) (omega arith), b (c / 4096 % 64), b (c / 64 % 64), b (c % 64));
    }))

-- ---- one character, of whatever width
pub encode_low : (c : ℕ) → c < 0x80 → encode c ≡ c ∷ []
unfolding encode
encode_low c l = rw (lt-ltb c 0x80 l)

pub char_step : (found wait p : ℕ) (h : Bool) (n c : ℕ) (r : List ℕ) (some : 1 ≤ n) → c < 1114112 →
    comes found wait p h n (encode c ++ r) ≡ comes (found' found wait p h n c r some) (wait' found wait p h n c r some) c (h' found wait p h n c r some) (n + width c) r
char_step found wait p h n c r some top =
    by_test (ltb c 0x80)
    (λ e.
    let k = encode_low c (ltb-true c 0x80 e) in
    let z : n + width c ≡ suc n = omega (arith, ap length (sym k) ∙ encode_long c top) in
    rw (k, z) (byte_step found wait p h n c r some))
    (λ e.
    let l : 0x80 ≤ c = ltb-false c 0x80 e in
    let k = encode_high c l in
    let z : n + length (k.y ∷ k.ys) ≡ n + width c = ap (λ (m : ℕ). n + m) (ap length (sym k.is) ∙ encode_long c top) in
    rw (k.is, high_found found wait p h n c l r some, high_hex found wait p h n c l r some, high_wait found wait p h n c l r some, ← z) (highs k.ys k.y found wait p h n c r k.high l some))
