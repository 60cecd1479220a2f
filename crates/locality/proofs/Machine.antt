-- The laws of `specs/Machine.antt`, for every machine: its steps, and the same by what is left of the text, with no counting.
-- Assumes nothing.
use Prim.Native.Nat.{ℕ, ◌+◌, ◌-◌, ◌≤◌}
use native.Mathlib.Omega.{arith}
use mathlib.Core.Path.{◌≡◌, refl, ap₂}
use mathlib.Core.Bool.{Bool, true, false, cond}
use mathlib.Core.List.{List, [], ◌∷◌}
use lib.ListN.{length}
use Rattle.lists.specs.Eat.{eat}
use Rattle.lists.proofs.Bools.{by_test}
use Rattle.lists.proofs.Eat.{eat_nil, eat_more, eat_stop}
use Rattle.characters.specs.Utf8.{width}
use Rattle.characters.specs.Text.{byte_length}
use Rattle.cutters.specs.Records.{Token}
use Rattle.lexer.specs.Cut.{Piece}
use Rattle.locality.specs.Machine.{Act, eats, halts, ended, run}

module _ {Q : Type 0} (act : Q → List ℕ → Act Q) where
  -- ---- one step
  pub run_eats : {q p : Q} {c : ℕ} {t : List ℕ} {b : Bool} (n m : ℕ) → act q (c ∷ t) ≡ eats b p → run act q n m (c ∷ t) ≡ run act p (n + width c) (cond b n m) t
  unfolding run
  run_eats n m h = rw (h, run)

  pub run_halts : {q : Q} {k : ℕ} (l : List ℕ) {b : Bool} (n m : ℕ) → act q l ≡ halts b k → run act q n m l ≡ (record { kind = k; len = n; suffix = cond b n m }, l)
  unfolding run
  run_halts [] n m h = rw h
  run_halts (c ∷ t) n m h = rw (h, run)

  -- by cases on what the machine does
  pub by_act : {P : Type 0} (a : Act Q) → ((b : Bool) (q : Q) → a ≡ eats b q → P) → ((b : Bool) (k : ℕ) → a ≡ halts b k → P) → P
  by_act (eats b q) f g = f b q refl
  by_act (halts b k) f g = g b k refl

  ended_rest : (a : Act Q) (n m : ℕ) → (ended act a n m).1 ≡ []
  ended_rest (eats b q) n m = refl
  ended_rest (halts b k) n m = refl

  -- nothing is left that was not there
  pub run_length : (q : Q) (n m : ℕ) (l : List ℕ) → length (run act q n m l).1 ≤ length l
  unfolding run
  run_length q n m [] = rw (ended_rest (act q []) n m) (omega arith)
  run_length q n m (c ∷ t) =
      let ih : (p : Q) (b : Bool) → length (run act p (n + width c) (cond b n m) t).1 ≤ length t = λ p b. run_length p (n + width c) (cond b n m) t in
      by_act (act q (c ∷ t)) (λ b p h. rw (run_eats n m h) (omega (arith, ih p b))) (λ b k h. rw (run_halts (c ∷ t) n m h) (omega arith))

  -- ---- by what is left, with no counting: the token whose suffix starts at m, where that has been met
  unfoldable pub walk : Q → List ℕ → List ℕ → Piece
  walk q m [] = elim (act q []) [ eats b p ↦ record { kind = 0; from_suffix = m; rest = [] } | halts b k ↦ record { kind = k; from_suffix = cond b [] m; rest = [] } ]
  walk q m (c ∷ t) =
      elim (act q (c ∷ t)) [
        | eats b p ↦ walk p (cond b (c ∷ t) m) t
        | halts b k ↦ record { kind = k; from_suffix = cond b (c ∷ t) m; rest = c ∷ t }
      ]

  pub walk_eats : {q p : Q} {c : ℕ} {t : List ℕ} {b : Bool} (m : List ℕ) → act q (c ∷ t) ≡ eats b p → walk q m (c ∷ t) ≡ walk p (cond b (c ∷ t) m) t
  unfolding walk
  walk_eats m h = rw (h, walk)

  pub walk_halts : {q : Q} {k : ℕ} {b : Bool} (m l : List ℕ) → act q l ≡ halts b k → walk q m l ≡ record { kind = k; from_suffix = cond b l m; rest = l }
  unfolding walk
  walk_halts m [] h = rw (h, walk)
  walk_halts m (c ∷ t) h = rw (h, walk)

  -- two states that do the same
  pub walk_same : {q p : Q} (m l : List ℕ) → act q l ≡ act p l → walk q m l ≡ walk p m l
  unfolding walk
  walk_same m [] h = rw (h, walk)
  walk_same m (c ∷ t) h = rw (h, walk)

  -- what the walk finds, counted from the start of a token of which `all` bytes were left
  abbrev pub counted_from : ℕ → Piece → Token × List ℕ
  counted_from all a = (record { kind = a.kind; len = all - byte_length a.rest; suffix = all - byte_length a.from_suffix }, a.rest)

  same_tok : (k : ℕ) (l : List ℕ) {n n' m m' : ℕ} → n ≡ n' → m ≡ m' → ◌≡◌ {A = Token × List ℕ} (record { kind = k; len = n; suffix = m }, l) (record { kind = k; len = n'; suffix = m' }, l)
  same_tok k l e f = ap₂ (λ (x y : ℕ). (record { kind = k; len = x; suffix = y }, l)) e f

  -- the suffix starts here, or where it was
  here_or_there : (b : Bool) (l from : List ℕ) (n m all : ℕ) → n + byte_length l ≡ all → m + byte_length from ≡ all → cond b n m + byte_length (cond b l from) ≡ all
  here_or_there true l from n m all e f = e
  here_or_there false l from n m all e f = f

  pub run_walk : (l : List ℕ) (q : Q) (n m all : ℕ) (from : List ℕ) → n + byte_length l ≡ all → m + byte_length from ≡ all → run act q n m l ≡ counted_from all (walk q from l)
  unfolding run walk byte_length
  run_walk [] q n m all from e f =
      by_act (act q []) (λ b p h. rw (h, run, walk) (same_tok 0 [] (omega arith) (omega arith)))
      (λ b k h. rw (run_halts [] n m h, walk_halts from [] h) (same_tok k [] (omega arith) (omega (arith, here_or_there b [] from n m all e f))))
  run_walk (c ∷ t) q n m all from e f =
      let ih : (p : Q) (n m : ℕ) (from : List ℕ) → n + byte_length t ≡ all → m + byte_length from ≡ all → run act p n m t ≡ counted_from all (walk p from t) = λ p n m from e f. run_walk t p n m all from e f in
      by_act (act q (c ∷ t))
      (λ b p h. rw (run_eats n m h, walk_eats from h) (ih p (n + width c) (cond b n m) (cond b (c ∷ t) from) (omega arith) (here_or_there b (c ∷ t) from n m all e f)))
      (λ b k h. rw (run_halts (c ∷ t) n m h, walk_halts from (c ∷ t) h) (same_tok k (c ∷ t) (omega arith) (omega (arith, here_or_there b (c ∷ t) from n m all e f))))

  -- ---- to eat while a test holds
  module _ {S : Type 0} (x : S → Q) (p : ℕ → Bool) (g : S → ℕ → S) (goes : (s : S) (c : ℕ) (t : List ℕ) → p c ≡ true → act (x s) (c ∷ t) ≡ eats false (x (g s c))) where
    pub walk_while : (s : S) (m l : List ℕ) → walk (x s) m l ≡ walk (x (eat p g s l).0) m (eat p g s l).1
    walk_while s m [] = rw (eat_nil p g s)
    walk_while s m (c ∷ t) =
        let ih = walk_while (g s c) m t in
        by_test (p c) (λ h. rw (eat_more p g s c t h, walk_eats m (goes s c t h)) ih) (λ h. rw (eat_stop p g s c t h))
