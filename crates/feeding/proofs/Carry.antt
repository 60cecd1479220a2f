-- THE CARRY IN TWO MOVES: what is kept are the bytes that the carry had of the token not handed out, moved to its front; and where none of these is lost, behind
-- them two parts of the chunk: the rest of the tokens begun before it, and the bytes not handed out.
-- Assumes nothing.
use Prim.Native.Nat.{ℕ, zero, suc, ◌+◌, ◌-◌, ◌≤◌, ◌<◌, min}
use native.Mathlib.Decide.{dec_lt}
use native.Mathlib.Omega.{arith}
use mathlib.Core.Path.{◌≡◌, refl, ap, sym, ◌∙◌}
use mathlib.Core.Bool.{Bool, true, false, ◌&&◌}
use mathlib.Core.List.{List, [], ◌∷◌, ◌++◌, append_assoc, append-nil}
use lib.Dec.{ltb}
use lib.ListN.{length, take, drop, length-take, length-drop}
use lib.Seq.{take_all, drop-cons}
use borrow.Author.Tests.{le-leb, lt-leb, lt-ltb, le-ltb}
use Rattle.lists.proofs.Bools.{and_false}
use Rattle.feeding.specs.Begun.{beyond}
use Rattle.feeding.specs.Lexer.{Lexer}
use Rattle.feeding.specs.Call.{places, bytes, fed_all, next_begun, early, sequence, stood, there, byte_of, up_to, keeps}
use Rattle.feeding.proofs.Running.{Runs}
use Rattle.feeding.proofs.Tiles.{next_within, given_early}

pub places_long : (n i : ℕ) → length (places i n) ≡ n
unfolding places
places_long zero i = refl
places_long (suc n) i = omega (arith, places_long n (suc i))

places_join : (n i m : ℕ) → places i (n + m) ≡ places i n ++ places (i + n) m
unfolding places
places_join zero i m =
    let y : 0 + m ≡ m = omega arith in
    let z : i + 0 ≡ i = omega arith in
    rw (y, z)
places_join (suc n) i m =
    let y : suc n + m ≡ suc (n + m) = omega arith in
    let z : i + suc n ≡ suc i + n = omega arith in
    rw (y, z) (ap (λ (l : List ℕ). i ∷ l) (places_join n (suc i) m))

one_less : (n a b s : ℕ) → suc n ≤ min (a - s) (b - s) → n ≤ min (a - suc s) (b - suc s)
one_less n a b s h = omega arith

none_left : (a b s : ℕ) → let m = s + min (a - s) (b - s) in min (a - m) (b - m) ≡ 0
none_left a b s = omega arith

not_more : (n m : ℕ) → n ≤ min n m → n ≤ m
not_more n m h = omega arith

-- how many of the bytes before the chunk that are not handed out stay
abbrev pub stay : Lexer → List ℕ → ℕ
stay x carry = min (x.fed - x.begun) (min (x.kept - x.packed) (length carry - x.packed))

part_most : (n k : ℕ) (l : List ℕ) → length (take n (drop k l)) ≤ length l
part_most n k l = omega (arith, length-take n (drop k l), length-drop k l)

module _ (x : Lexer) (last : Bool) (chunk carry : List ℕ) where
  -- ---- what is there of some places
  abbrev up : List ℕ → List ℕ
  up = up_to x last chunk carry

  pub up_more : (i : ℕ) (is : List ℕ) → there x last chunk carry i ≡ true → up (i ∷ is) ≡ byte_of x last chunk carry i ∷ up is
  unfolding up_to
  up_more i is e = rw (e, up_to)

  pub up_stop : (i : ℕ) (is : List ℕ) → there x last chunk carry i ≡ false → up (i ∷ is) ≡ []
  unfolding up_to
  up_stop i is e = rw (e, up_to)

  -- no more is kept than there is room
  pub kept_long : length (keeps x last chunk carry) ≤ length carry
  unfolding keeps
  kept_long = omega (arith, length-take (length carry) (up (sequence x last chunk)))

  -- in the chunk all
  up_chunk : (n i : ℕ) (rest : List ℕ) → x.fed ≤ i → i + n ≤ x.fed + length chunk → up (places i n ++ rest) ≡ take n (drop (i - x.fed) chunk) ++ up rest
  unfolding places
  up_chunk zero i rest a b = refl
  up_chunk (suc n) i rest a b =
      let f = le-leb x.fed i a in
      let z : suc i - x.fed ≡ suc (i - x.fed) = omega arith in
      let ih = rw z at (up_chunk n (suc i) rest (omega arith) (omega arith)) in
      up_more i (places (suc i) n ++ rest) (rw f) ∙ rw (f, drop-cons chunk (i - x.fed) 0 (omega arith), ih)

  -- before it as many as are kept and lent
  abbrev had : ℕ → ℕ
  had i = min (x.kept - stood x last chunk carry i) (length carry - stood x last chunk carry i)

  up_old : (n i : ℕ) (rest : List ℕ) → x.begun ≤ i → i + n ≤ x.fed → n ≤ had i → up (places i n ++ rest) ≡ take n (drop (stood x last chunk carry i) carry) ++ up rest
  unfolding places
  up_old zero i rest a b h = refl
  up_old (suc n) i rest a b h =
      let s = stood x last chunk carry i in
      let f = lt-leb x.fed i (omega arith) in
      let z : stood x last chunk carry (suc i) ≡ suc s = omega arith in
      let ih = rw z at (up_old n (suc i) rest (omega arith) (omega arith) (rw z (one_less n x.kept (length carry) s h))) in
      up_more i (places (suc i) n ++ rest) (rw (f, lt-ltb s x.kept (omega arith), lt-ltb s (length carry) (omega arith)))
      ∙ rw (f, drop-cons carry s 0 (omega arith), ih)

  stood_on : (i n : ℕ) → x.begun ≤ i → stood x last chunk carry (i + n) ≡ stood x last chunk carry i + n
  stood_on i n a = omega arith

  gone : (s : ℕ) → min (x.kept - s) (length carry - s) ≡ 0 → (ltb s x.kept && ltb s (length carry)) ≡ false
  gone s e = elim (dec_lt s x.kept) [ yes h ↦ rw (le-ltb s (length carry) (omega arith), and_false) | no h ↦ rw (le-ltb s x.kept (omega arith)) ]

  up_none : (n i : ℕ) (rest : List ℕ) → i < x.fed → had i ≡ 0 → up (places i (suc n) ++ rest) ≡ []
  unfolding places
  up_none n i rest l e = up_stop i (places (suc i) n ++ rest) (rw (lt-leb x.fed i l) (gone (stood x last chunk carry i) e))

  up_lost : (n i : ℕ) (rest : List ℕ) → x.begun ≤ i → i + n ≤ x.fed → had i < n → up (places i n ++ rest) ≡ take (had i) (drop (stood x last chunk carry i) carry)
  up_lost n i rest a b h =
      let q = had i in
      let m = n - q - 1 in
      let k : n ≡ q + suc m = omega arith in
      ap (λ (m : ℕ). up (places i m ++ rest)) k ∙ ap (λ (l : List ℕ). up (l ++ rest)) (places_join q i (suc m)) ∙ ap up (append_assoc (places i q) (places (i + q) (suc m)) rest)
      ∙ up_old q i (places (i + q) (suc m) ++ rest) a (omega arith) (omega arith)
      ∙ ap (λ (l : List ℕ). take q (drop (stood x last chunk carry i) carry) ++ l) (up_none m (i + q) rest (omega arith) (rw (stood_on i q a) (none_left x.kept (length carry) (stood x last chunk carry i)))) ∙ append-nil _

  -- ---- the sequence: all that was fed before the chunk and not handed out, the rest of the tokens begun there, and what is not handed out now
  module _ (r : Runs x) (h : (last ≡ true → length (beyond (bytes x last chunk)) ≡ 0)) where
    abbrev old : ℕ
    old = x.fed - x.begun

    -- where in the chunk the bytes start that are not handed out, in all places
    abbrev far : ℕ
    far = x.fed + (next_begun x last chunk - x.fed)

    abbrev chunked : List ℕ
    chunked = places x.fed (early x last chunk - x.fed) ++ places far (fed_all x last chunk - far)

    begun_fed : x.begun ≤ x.fed
    begun_fed = omega (arith, r.all)

    begun_old : x.begun + old ≤ x.fed
    begun_old = omega (arith, begun_fed)

    seq_is : sequence x last chunk ≡ places x.begun old ++ chunked
    unfolding sequence places
    seq_is =
        let e = early x last chunk in
        let n = next_begun x last chunk in
        let b = x.begun in
        let f = x.fed in
        let all = fed_all x last chunk in
        let g = begun_fed in
        let p = given_early x r last chunk h in
        let w = next_within x r last chunk in
        elim (dec_lt n f) [
          | yes l ↦
              let i : e ≡ n = p.all l in
              let j : b + (n - b) ≡ n = omega (arith, p.after) in
              let k : (n - b) + (all - n) ≡ old + (all - f) = omega (arith, p.after) in
              let j' : b + old ≡ f = omega arith in
              let c : n - f ≡ 0 = omega arith in
              let c' : f + 0 ≡ f = omega arith in
              ap (λ (m : ℕ). places b (m - b) ++ places n (all - n)) i ∙ ap (λ (m : ℕ). places b (n - b) ++ places m (all - n)) (sym j) ∙ sym (places_join (n - b) b (all - n))
              ∙ ap (places b) k ∙ places_join old b (all - f) ∙ rw (i, c, c', j')
          | no l ↦
              let i = p.past (omega arith) in
              let k : e - b ≡ old + (e - f) = omega arith in
              let j : b + old ≡ f = omega arith in
              let c : f + (n - f) ≡ n = omega arith in
              ap (λ (m : ℕ). places b m ++ places n (all - n)) k ∙ ap (λ (y : List ℕ). y ++ places n (all - n)) (places_join old b (e - f))
              ∙ append_assoc (places b old) (places (b + old) (e - f)) (places n (all - n)) ∙ rw (j, c)
        ]

    up_chunked : up chunked ≡ take (early x last chunk - x.fed) chunk ++ drop (next_begun x last chunk - x.fed) chunk
    unfolding up_to
    up_chunked =
        let e = early x last chunk - x.fed in
        let n = next_begun x last chunk - x.fed in
        let m = fed_all x last chunk - far in
        let p = given_early x r last chunk h in
        let w = next_within x r last chunk in
        let z : x.fed - x.fed ≡ 0 = omega arith in
        let y : far - x.fed ≡ n = omega arith in
        let end : up (places far m) ≡ drop n chunk =
        ap up (sym (append-nil (places far m))) ∙ up_chunk m far [] (omega arith) (omega arith) ∙ append-nil _
        ∙ ap (λ (k : ℕ). take m (drop k chunk)) y ∙ take_all m (drop n chunk) (omega (arith, length-drop n chunk)) in
        up_chunk e x.fed (places far m) (omega arith) (omega (arith, p.within)) ∙ rw (z, end)

    -- ---- TWO MOVES: what is kept where some of the bytes before the chunk are lost, and where none is
    stood_first : stood x last chunk carry x.begun ≡ x.packed
    stood_first = omega arith

    pub some_lost : stay x carry < x.fed - x.begun → keeps x last chunk carry ≡ take (stay x carry) (drop x.packed carry)
    unfolding keeps
    some_lost l =
        let s = drop x.packed carry in
        let n = stay x carry in
        let z : had x.begun ≡ n = rw stood_first (omega arith) in
        let u : up (sequence x last chunk) ≡ take n s = ap up seq_is ∙ up_lost old x.begun chunked (omega arith) begun_old (omega (arith, z)) ∙ rw (z, stood_first) in
        ap (take (length carry)) u ∙ take_all (length carry) (take n s) (part_most n x.packed carry)

    pub none_lost : x.fed - x.begun ≤ stay x carry → keeps x last chunk carry
        ≡ take (length carry) (take (x.fed - x.begun) (drop x.packed carry) ++ (take (early x last chunk - x.fed) chunk ++ drop (next_begun x last chunk - x.fed) chunk))
    unfolding keeps
    none_lost l =
        let n : old ≤ had x.begun = rw stood_first (not_more old (min (x.kept - x.packed) (length carry - x.packed)) l) in
        ap (take (length carry)) (ap up seq_is ∙ up_old old x.begun chunked (omega arith) begun_old n ∙ rw (stood_first, up_chunked))
