-- The lengths of tokens that lie one behind the other, and how many words their records have.
-- Assumes nothing.
use Prim.Native.Nat.{ℕ, ◌+◌, ◌*◌}
use native.Mathlib.Omega.{arith}
use mathlib.Core.Path.{◌≡◌, refl}
use mathlib.Core.List.{List, [], ◌∷◌, ◌++◌}
use lib.ListN.{length, length-append}
use Rattle.cutters.specs.Records.{Token, total, record_words, words_of, flat_from}

pub total_append : (ts us : List Token) → total (ts ++ us) ≡ total ts + total us
total_append [] us = omega arith
total_append (t ∷ ts) us = omega (arith, total_append ts us)

pub length_words : (s : List ℕ) (at : ℕ) (t : Token) → length (words_of s at t) ≡ record_words
length_words s at t = refl

pub length_flat : (s : List ℕ) (at : ℕ) (ts : List Token) → length (flat_from s at ts) ≡ record_words * length ts
unfolding flat_from
length_flat s at [] = refl
length_flat s at (t ∷ ts) =
    omega (arith, length-append (words_of s at t) (flat_from s (at + t.len) ts), length_words s at t, length_flat s (at + t.len) ts)
