-- The walk over two texts, token by token, until they part.
-- Assumes nothing.
use Prim.Native.Nat.{ℕ, suc, ◌+◌, ◌-◌, ◌≤◌, ◌<◌}
use native.Mathlib.Decide.{dec_lt}
use native.Mathlib.Omega.{arith}
use mathlib.Core.Path.{◌≡◌, refl, ap, sym, ◌∙◌}
use mathlib.Core.Bool.{Bool, true, false, cond, ◌&&◌, false≢true}
use mathlib.Core.List.{List, []}
use lib.Dec.{eqb}
use lib.ListN.{length, drop, get_or}
use lib.Seq.{drop-drop, get_or-drop}
use borrow.Author.Tests.{eqb-true, eq-eqb}
use Rattle.lists.proofs.Bools.{by_test, both}
use Rattle.cutters.specs.Kinds.{eof}
use Rattle.cutters.specs.Records.{Token}
use Rattle.tokens.specs.Members.{Member, members_by}
use Rattle.same.specs.Compare.{Sight, alike, agree, sights, end_of, same, different, parted_by, showing}
use Rattle.same.specs.Steps.{member_at, sight_at, members_from, sights_from, Ahead}
use Rattle.same.proofs.Alike.{alike_equal, alike_self, agree_more, agree_stop}

-- ---- one text: the first counted token from a place on
module _ {cut : List ℕ → List Token} {s : List ℕ} {at kind start suffixAt end : ℕ} (p : Ahead cut s at kind start suffixAt end) where
  pub ends : (start < end → ⊥) → start ≡ end
  ends n = omega (arith, p.place.before_end)

  -- what is shown of it
  sight_first : (l : List Sight) (n : ℕ) → drop n l ≡ sights_from cut s at → get_or l n (end_of s) ≡ sight_at kind start end
  sight_first l n e =
      let z : n + 0 ≡ n = omega arith in
      let g : get_or (drop n l) 0 (end_of s) ≡ get_or l n (end_of s) = get_or-drop n l 0 (end_of s) ∙ rw z in
      sym g ∙ rw e
      (elim (dec_lt start end) [
        | yes h ↦ rw (p.some h).1
        | no h ↦
            let x = p.none (ends h) in
            let d : end - start ≡ 0 = omega (arith, ends h) in
            rw (x.4, d, x.0, x.1)
      ])

  none_member : start ≡ end → member_at s kind start suffixAt end ≡ record { kind = eof; len = 0; suffix = 0; bytes = [] }
  none_member h =
      let x = p.none h in
      let d : end - start ≡ 0 = omega arith in
      let m : suffixAt - start ≡ 0 = omega (arith, x.2) in
      rw (d, m, x.0)

  -- where nothing more is counted there is none
  none_left : length (members_from cut s at) ≡ 0 → start ≡ end
  none_left z = ends (λ h. omega (arith, ap length (p.some h).0))

-- ---- the walk: to go on from here comes to the same
pub record Parting (cut : List ℕ → List Token) (s s' : List ℕ) (a b n : ℕ) : Type 0 where
  pub few : n ≤ a
  pub within : a ≤ length s
  pub within' : b ≤ length s'
  pub agreed : n + agree (members_from cut s a) (members_from cut s' b) ≡ agree (members_by cut s) (members_by cut s')
  pub count : n + length (members_from cut s a) ≡ length (members_by cut s)
  pub count' : n + length (members_from cut s' b) ≡ length (members_by cut s')
  pub seen : drop n (sights 0 (cut s)) ≡ sights_from cut s a
  pub seen' : drop n (sights 0 (cut s')) ≡ sights_from cut s' b

pub parting_none : (cut : List ℕ → List Token) (s s' : List ℕ) → Parting cut s s' 0 0 0
parting_none cut s s' =
    record { few = omega arith; within = omega arith; within' = omega arith; agreed = omega arith; count = omega arith; count' = omega arith; seen = refl; seen' = refl }

module _ {cut : List ℕ → List Token} {s s' : List ℕ} {a b n kind start suffixAt end kind' start' suffixAt' end' : ℕ}
    (w : Parting cut s s' a b n) (p : Ahead cut s a kind start suffixAt end) (q : Ahead cut s' b kind' start' suffixAt' end') where
  abbrev m : Member
  m = member_at s kind start suffixAt end

  abbrev m' : Member
  m' = member_at s' kind' start' suffixAt' end'

  -- what is shown, where no more agree
  parted_is : (verdict : ℕ) → agree (members_from cut s a) (members_from cut s' b) ≡ 0 → cond (eqb n (length (members_by cut s)) && eqb n (length (members_by cut s'))) same different ≡ verdict →
      parted_by cut s s' ≡ showing verdict n (sight_at kind start end) (sight_at kind' start' end')
  unfolding parted_by
  parted_is verdict z v =
      let k : agree (members_by cut s) (members_by cut s') ≡ n = omega (arith, w.agreed) in
      rw (k, v, sight_first p (sights 0 (cut s)) n w.seen, sight_first q (sights 0 (cut s')) n w.seen')

  -- ---- the next two differ
  stop_none : alike m m' ≡ false → agree (members_from cut s a) (members_from cut s' b) ≡ 0
  unfolding agree
  stop_none e =
      elim (dec_lt start end) [
        | no h ↦ rw (p.none (ends p h)).3
        | yes h ↦
            elim (dec_lt start' end') [
              | no h' ↦ rw ((p.some h).0, (q.none (ends q h')).3)
              | yes h' ↦ rw ((p.some h).0, (q.some h').0) (agree_stop m m' (members_from cut s end) (members_from cut s' end') e)
            ]
      ]

  none_alike : start ≡ end → start' ≡ end' → alike m m' ≡ true
  none_alike h h' = rw (none_member p h, none_member q h') (alike_self (record { kind = eof; len = 0; suffix = 0; bytes = [] }))

  stop_verdict : alike m m' ≡ false → (eqb n (length (members_by cut s)) && eqb n (length (members_by cut s'))) ≡ false
  stop_verdict e =
      by_test (eqb n (length (members_by cut s)) && eqb n (length (members_by cut s')))
      (λ t.
      let x = both (eqb n (length (members_by cut s))) (eqb n (length (members_by cut s'))) t in
      let z : length (members_from cut s a) ≡ 0 = omega (arith, w.count, eqb-true n _ x.0) in
      let z' : length (members_from cut s' b) ≡ 0 = omega (arith, w.count', eqb-true n _ x.1) in
      absurd (false≢true (sym e ∙ none_alike (none_left p z) (none_left q z'))))
      (λ f. f)

  pub parting_stop : {r : Bool} → r ≡ alike m m' → r ≡ false → showing different n (sight_at kind start end) (sight_at kind' start' end') ≡ parted_by cut s s'
  parting_stop {r} e t =
      let f : alike m m' ≡ false = sym e ∙ t in
      sym (parted_is different (stop_none f) (rw (stop_verdict f)))

  -- ---- the next two are alike
  alike_long : alike m m' ≡ true → end - start ≡ end' - start'
  alike_long e = ap (λ (x : Member). x.len) (alike_equal m m' e)

  same_none : start ≡ end → start' ≡ end' → agree (members_from cut s a) (members_from cut s' b) ≡ 0
  unfolding agree
  same_none h h' = rw (p.none h).3

  same_verdict : start ≡ end → start' ≡ end' → (eqb n (length (members_by cut s)) && eqb n (length (members_by cut s'))) ≡ true
  same_verdict h h' =
      let k : n ≡ length (members_by cut s) = omega (arith, w.count, ap length (p.none h).3) in
      let k' : n ≡ length (members_by cut s') = omega (arith, w.count', ap length (q.none h').3) in
      rw (eq-eqb n _ k, eq-eqb n _ k')

  -- a token that shows no length is the end
  ended : end - start ≡ 0 → start ≡ end
  ended h = omega (arith, p.place.before_end)

  pub parting_same : {r : Bool} → r ≡ alike m m' → r ≡ true → end - start ≡ 0 → showing same n (sight_at kind start end) (sight_at kind' start' end') ≡ parted_by cut s s'
  parting_same {r} e t l =
      let f : alike m m' ≡ true = sym e ∙ t in
      let h = ended l in
      let h' : start' ≡ end' = omega (arith, alike_long f, q.place.before_end) in
      sym (parted_is same (same_none h h') (rw (same_verdict h h')))

  -- both are some, and what is left stands behind them
  pub parting_some : {r : Bool} → r ≡ alike m m' → r ≡ true → (end - start ≡ 0 → ⊥) → (start < end) × (start' < end')
  parting_some {r} e t h =
      let f : alike m m' ≡ true = sym e ∙ t in
      (omega (arith, p.place.before_end), omega (arith, alike_long f, p.place.before_end))

  pub parting_smaller : {r : Bool} → r ≡ alike m m' → r ≡ true → (end - start ≡ 0 → ⊥) → length s - end < length s - a
  parting_smaller e t h = omega (arith, p.after, p.place.within, (parting_some e t h).0)

  pub parting_on : {r : Bool} {n' : ℕ} → r ≡ alike m m' → r ≡ true → (end - start ≡ 0 → ⊥) → n' ≡ n + 1 → Parting cut s s' end end' n'
  parting_on {r} {n'} e t h k =
      let f : alike m m' ≡ true = sym e ∙ t in
      let h₁ : start < end = (parting_some e t h).0 in
      let h₂ : start' < end' = (parting_some e t h).1 in
      let x = p.some h₁ in
      let y = q.some h₂ in
      let g : agree (members_from cut s a) (members_from cut s' b) ≡ suc (agree (members_from cut s end) (members_from cut s' end')) =
      rw (x.0, y.0) (agree_more m m' (members_from cut s end) (members_from cut s' end') f)
      in
      record {
        few = omega (arith, w.few, p.after);
        within = p.place.within;
        within' = q.place.within;
        agreed = omega (arith, w.agreed, g);
        count = omega (arith, w.count, ap length x.0);
        count' = omega (arith, w.count', ap length y.0);
        seen = rw k (sym (drop-drop 1 n (sights 0 (cut s))) ∙ rw (w.seen, x.1));
        seen' = rw k (sym (drop-drop 1 n (sights 0 (cut s'))) ∙ rw (w.seen', y.1));
      }
