-- On characters: what stands behind tokens is swapped, for a newline above all.
-- Assumes nothing.
use Prim.Native.Nat.{ℕ}
use mathlib.Core.Path.{◌≡◌, refl, ap, sym, subst, ◌∙◌}
use mathlib.Core.List.{List, [], ◌∷◌, ◌++◌, append_assoc, append-nil}
use lib.Dec.{eqb}
use borrow.Author.Tests.{eqb-true, eqb-false}
use Rattle.lists.proofs.Bools.{by_test}
use Rattle.characters.specs.Utf8.{width}
use Rattle.cutters.specs.Kinds.{whitespace_kind}
use Rattle.cutters.specs.Records.{Token}
use Rattle.lexer.specs.Cut.{Letters, next_token}
use Rattle.locality.specs.Phases.{act, first, Usual}
use Rattle.locality.proofs.Phases.{next_run, two, ends}
use Rattle.locality.proofs.Swap.{Swap, Always, swap_front, run_swap}
use Rattle.locality.proofs.Newline.{NoUnit, lf_blank, lf_stops, blank_swap, Ended, end_swap}
use Rattle.locality.proofs.Cuts.{Item, counted, texts, Cuts, none, more, begins, Over, one_more}
use Rattle.locality.proofs.White.{white_none, lf_white, white_join, white_more, all_white, white_uncounted, next_white, spaces, kind_white}

module _ (u : Letters) (usual : Usual u) (profile : ℕ) where
  -- the same token before both
  pub next_swap : {ok : ℕ → Type 0} {r s : List ℕ} → Swap (act u) ok r s → (c : ℕ) (e : List ℕ) (k : Token) → ok k.kind → next_token u profile c (e ++ r) ≡ (k, r) → next_token u profile c (e ++ s) ≡ (k, s)
  next_swap {r = r} {s = s} w c e k o h =
      sym (next_run u usual profile c (e ++ s))
      ∙ run_swap (act u) (ends u) (two u) w e (first u profile c) (width c) 0 k o (next_run u usual profile c (e ++ r) ∙ h)

  -- ---- tokens, behind which anything stands that may be swapped
  pub cuts_swap : {r s : List ℕ} → Always (act u) r s → {i : List Item} {l : List ℕ} → Cuts u profile i l r → Cuts u profile i (texts i ++ s) s
  unfolding texts
  cuts_swap w none = none
  cuts_swap {s = s} w (more {i = []} {k = k} {c = c} {e = e} h z none) =
      more (ap (λ (v : List ℕ). c ∷ (v ++ s)) (append-nil e)) (next_swap w c e k tt z) none
  cuts_swap {s = s} w (more {i = a ∷ i} {k = k} {c = c} {e = e} h z rest) =
      let d = begins u profile rest in
      let m : (a.1 ++ texts i) ++ s ≡ d.head ∷ ((d.behind ++ texts i) ++ s) = ap (λ (v : List ℕ). (v ++ texts i) ++ s) d.text in
      let q = next_swap (swap_front (act u) (ends u) (two u) w d.head (d.behind ++ texts i)) c e k tt (rw d.whole at z) in
      more (ap (λ (v : List ℕ). c ∷ v) (append_assoc e (a.1 ++ texts i) s))
      (subst (λ (v : List ℕ). next_token u profile c (e ++ v) ≡ (k, v)) (sym m) q) (cuts_swap w rest)

  -- ---- what stands behind tokens is swapped, where that may be done behind the last of them
  abbrev pub Lasts : (Token → Type 0) → List Item → Type 0
  Lasts fine [] = Unit {0}
  Lasts fine (x ∷ []) = fine x.0
  Lasts fine (x ∷ y ∷ i) = Lasts fine (y ∷ i)

  module _ {ok : ℕ → Type 0} {r s : List ℕ} (swap : Swap (act u) ok r s) {j : List Item} (front : Over u profile j [] s) {fine : Token → Type 0}
      (alone : (k : Token) (c : ℕ) (e : List ℕ) → fine k → next_token u profile c (e ++ r) ≡ (k, r) → Over u profile j ((k, c ∷ e) ∷ []) (c ∷ (e ++ s))) where
    pub over_swap : {i : List Item} {l : List ℕ} → Cuts u profile i l r → Lasts fine i → Over u profile j i (texts i ++ s)
    unfolding texts
    over_swap none f = front
    over_swap (more {i = []} {k = k} {c = c} {e = e} h z none) f =
        subst (λ (y : List ℕ). Over u profile j ((k, c ∷ e) ∷ []) (c ∷ (y ++ s))) (sym (append-nil e)) (alone k c e f z)
    over_swap (more {i = a ∷ i} {k = k} {c = c} {e = e} h z rest) f =
        let ih : Over u profile j (a ∷ i) ((a.1 ++ texts i) ++ s) = over_swap rest f in
        let d = begins u profile rest in
        let w = swap_front (act u) (ends u) (two u) swap d.head (d.behind ++ texts i) in
        let m : (a.1 ++ texts i) ++ s ≡ d.head ∷ ((d.behind ++ texts i) ++ s) = ap (λ (y : List ℕ). (y ++ texts i) ++ s) d.text in
        let y = next_swap w c e k tt (rw d.whole at z) in
        one_more u profile k c e (ap (λ (v : List ℕ). c ∷ v) (append_assoc e (a.1 ++ texts i) s))
        (subst (λ (v : List ℕ). next_token u profile c (e ++ v) ≡ (k, v)) (sym m) y) ih

  any_last : (i : List Item) → Lasts (λ k. Unit {0}) i
  any_last [] = tt
  any_last (x ∷ []) = tt
  any_last (x ∷ y ∷ i) = any_last (y ∷ i)

  -- ---- a newline for r, and s behind it
  module _ {j : List Item} (r s : List ℕ) (behind : Cuts u profile j s []) where
    pub over_newline : Over u profile j [] (0x0A ∷ s)
    over_newline = spaces u profile 0x0A [] lf_white white_none behind

    -- behind white space
    white : (c : ℕ) (e : List ℕ) (k : Token) → next_token u profile c (e ++ r) ≡ (k, r) → k.kind ≡ whitespace_kind → Over u profile j [] (c ∷ (e ++ 0x0A ∷ s))
    white c e k z h =
        let b = kind_white u profile c (e ++ r) r k z h in
        let v = all_white e r (ap (λ (w : Token × List ℕ). w.1) (sym (next_white u profile c (e ++ r) b) ∙ z)) in
        subst (λ (m : List ℕ). Over u profile j [] (c ∷ m)) (append_assoc e (0x0A ∷ []) s) (spaces u profile c (e ++ 0x0A ∷ []) b (white_join v (white_more lf_white white_none)) behind)

    -- behind any token that a newline ends too
    pub newline_last : {ok : ℕ → Type 0} → Swap (act u) ok r (0x0A ∷ s) → (k : Token) (c : ℕ) (e : List ℕ) → ((k.kind ≡ whitespace_kind → ⊥) → ok k.kind) → next_token u profile c (e ++ r) ≡ (k, r) →
        Over u profile j ((k, c ∷ e) ∷ []) (c ∷ (e ++ 0x0A ∷ s))
    newline_last swap k c e f z =
        by_test (eqb k.kind whitespace_kind)
        (λ h.
        let q : k.kind ≡ whitespace_kind = eqb-true k.kind whitespace_kind h in
        let w = white c e k z q in
        record { new = w.new; cuts = w.cuts; same = w.same ∙ ap (λ (y : List Item). y ++ counted j) (sym (white_uncounted [] k (c ∷ e) q)) })
        (λ h. one_more u profile k c e refl (next_swap swap c e k (f (eqb-false k.kind whitespace_kind h)) z) over_newline)

  -- where x begins a run of tokens and s stands behind it
  pub newline : {i j : List Item} {l : List ℕ} (x : ℕ) (t s : List ℕ) → NoUnit x → Cuts u profile j s [] → Cuts u profile i l (x ∷ t) → Over u profile j i (texts i ++ 0x0A ∷ s)
  newline {i} x t s unit behind h =
      let w = blank_swap u usual x 0x0A (lf_blank u usual) t s unit in
      over_swap w (over_newline (x ∷ t) s behind) (λ k c e f z. newline_last (x ∷ t) s behind w k c e lf_stops z) h (any_last i)

  -- where the text ends behind a token that a newline does not change, or behind white space
  abbrev pub Closes : Token → Type 0
  Closes k = ((k.kind ≡ whitespace_kind → ⊥) → Ended k.kind)

  pub newline_end : {i : List Item} {l : List ℕ} → Cuts u profile i l [] → Lasts Closes i → Over u profile [] i (texts i ++ 0x0A ∷ [])
  newline_end h f =
      let w = end_swap u usual [] in
      over_swap w (over_newline [] [] none) (λ k c e f z. newline_last [] [] none w k c e f z) h f
