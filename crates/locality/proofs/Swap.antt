-- What follows a token may be swapped for something else that ends it too: for every machine with two characters of lookahead that ends
-- each token at the end of the text.
-- Assumes nothing.
use Prim.Native.Nat.{ℕ, suc, ◌+◌, ◌≤◌}
use native.Mathlib.Omega.{arith}
use mathlib.Core.Path.{◌≡◌, refl, ap, sym, ◌∙◌}
use mathlib.Core.Bool.{Bool, cond}
use mathlib.Core.List.{List, [], ◌∷◌, ◌++◌}
use lib.ListN.{length, length-append}
use Rattle.characters.specs.Utf8.{width}
use Rattle.cutters.specs.Records.{Token}
use Rattle.locality.specs.Machine.{Act, eats, halts, run, LooksAtTwo}
use Rattle.locality.proofs.Machine.{run_eats, run_halts, run_length, by_act}

module _ {Q : Type 0} (act : Q → List ℕ → Act Q) where
  -- r may be swapped for s behind a token whose kind is `ok`
  pub record Swap (ok : ℕ → Type 0) (r s : List ℕ) : Type 0 where
    -- where the token ends before the one, it ends before the other
    pub here : (q : Q) (b : Bool) (k : ℕ) → ok k → act q r ≡ halts b k → act q s ≡ halts b k
    -- a last character that is eaten before the one is eaten before the other
    pub last : (q p : Q) (c : ℕ) (b d : Bool) (k : ℕ) → ok k → act q (c ∷ r) ≡ eats b p → act p r ≡ halts d k → act q (c ∷ s) ≡ eats b p
    -- where the token ends one character before
    pub before : (q : Q) (c : ℕ) (b : Bool) (k : ℕ) → act q (c ∷ r) ≡ halts b k → act q (c ∷ s) ≡ halts b k

  -- any kind
  abbrev pub Always : List ℕ → List ℕ → Type 0
  Always = Swap (λ k. Unit {0})

  -- the machine halts where it stands
  record Stands (q : Q) (n m : ℕ) (k : Token) (l : List ℕ) : Type 0 where
    marks : Bool
    acts : act q l ≡ halts marks k.kind
    is : k ≡ record { kind = k.kind; len = n; suffix = cond marks n m }

  module _ (ends : (q p : Q) (b : Bool) → act q [] ≡ eats b p → ⊥) where
    -- a machine that eats leaves less
    less : (q p : Q) (b : Bool) (n m : ℕ) (l : List ℕ) → act q l ≡ eats b p → suc (length (run act q n m l).1) ≤ length l
    less q p b n m [] e = absurd (ends q p b e)
    less q p b n m (c ∷ t) e = rw (run_eats act n m e) (omega (arith, run_length act p (n + width c) (cond b n m) t))

    stands : (q : Q) (n m : ℕ) (k : Token) (r : List ℕ) → run act q n m r ≡ (k, r) → Stands q n m k r
    stands q n m k r h = go (act q r) refl
      where
        go : (a : Act Q) → act q r ≡ a → Stands q n m k r
        go (eats b p) e = absurd (omega (arith, less q p b n m r e, ap (λ (z : Token × List ℕ). length z.1) h))
        go (halts b j) e =
            let z : k ≡ record { kind = j; len = n; suffix = cond b n m } = ap (λ (w : Token × List ℕ). w.0) (sym h ∙ run_halts act r n m e) in
            let y : k.kind ≡ j = ap (λ (w : Token). w.kind) z in
            record { marks = b; acts = e ∙ ap (halts b) (sym y); is = z ∙ ap (λ (w : ℕ). record { kind = w; len = n; suffix = cond b n m }) (sym y) }

    module _ (two : LooksAtTwo act) where
      same_two : (q : Q) (x y : ℕ) (l m : List ℕ) → act q (x ∷ y ∷ l) ≡ act q (x ∷ y ∷ m)
      same_two q x y l m = two q x y l ∙ sym (two q x y m)

      -- one more character in front of both
      pub swap_more : {ok : ℕ → Type 0} {r s : List ℕ} (c : ℕ) → Swap ok r s → Always (c ∷ r) (c ∷ s)
      swap_more {r = r} {s = s} c w =
          record {
            here = λ q b k o h. w.before q c b k h;
            last = λ q p d b e k o h z. same_two q d c s r ∙ h;
            before = λ q d b k h. same_two q d c s r ∙ h;
          }

      -- more characters in front of both
      pub swap_front : {ok : ℕ → Type 0} {r s : List ℕ} → Swap ok r s → (c : ℕ) (a : List ℕ) → Always (c ∷ (a ++ r)) (c ∷ (a ++ s))
      swap_front w c [] = swap_more c w
      swap_front w c (d ∷ a) = swap_more c (swap_front w d a)

      -- behind two characters anything
      pub swap_two : (x y : ℕ) (r s : List ℕ) → Always (x ∷ y ∷ r) (x ∷ y ∷ s)
      swap_two x y r s =
          record {
            here = λ q b k o h. same_two q x y s r ∙ h;
            last = λ q p d b e k o h z. same_two q d x (y ∷ s) (y ∷ r) ∙ h;
            before = λ q d b k h. same_two q d x (y ∷ s) (y ∷ r) ∙ h;
          }

      -- a character that is eaten on the way to the end
      next : {ok : ℕ → Type 0} {r s : List ℕ} → Swap ok r s → (e : List ℕ) (q p : Q) (c : ℕ) (b : Bool) (n m : ℕ) (k : Token) → ok k.kind → act q (c ∷ e ++ r) ≡ eats b p →
          run act p n m (e ++ r) ≡ (k, r) → act q (c ∷ e ++ s) ≡ eats b p
      next {r = r} w [] q p c b n m k o a z = let t = stands p n m k r z in w.last q p c b t.marks k.kind o a t.acts
      next {r = r} {s = s} w (d ∷ e) q p c b n m k o a z = same_two q c d (e ++ s) (e ++ r) ∙ a

      -- the same token before both
      pub run_swap : {ok : ℕ → Type 0} {r s : List ℕ} → Swap ok r s → (e : List ℕ) (q : Q) (n m : ℕ) (k : Token) → ok k.kind → run act q n m (e ++ r) ≡ (k, r) → run act q n m (e ++ s) ≡ (k, s)
      run_swap {r = r} {s = s} w [] q n m k o h =
          let t = stands q n m k r h in
          run_halts act s n m (w.here q t.marks k.kind o t.acts) ∙ ap (λ (z : Token). (z, s)) (sym t.is)
      run_swap {r = r} {s = s} w (c ∷ e) q n m k o h =
          let ih : (p : Q) (b : Bool) → run act p (n + width c) (cond b n m) (e ++ r) ≡ (k, r) → run act p (n + width c) (cond b n m) (e ++ s) ≡ (k, s) =
          λ p b z. run_swap w e p (n + width c) (cond b n m) k o z in
          by_act act (act q (c ∷ e ++ r))
          (λ b p a.
          let z : run act p (n + width c) (cond b n m) (e ++ r) ≡ (k, r) = sym (run_eats act n m a) ∙ h in
          run_eats act n m (next w e q p c b (n + width c) (cond b n m) k o a z) ∙ ih p b z)
          (λ b j a.
          absurd (omega (arith, length-append e r, ap (λ (z : Token × List ℕ). length z.1) (sym (run_halts act (c ∷ e ++ r) n m a) ∙ h))))
