-- On characters: what may be put into a text without a change of the counted tokens.
-- Assumes nothing.
use Prim.Native.Nat.{ℕ, suc, ◌+◌, ◌-◌, ◌≤◌}
use native.Mathlib.Omega.{arith}
use mathlib.Core.Path.{◌≡◌, refl, ap, ap₂, sym, subst, ◌∙◌}
use mathlib.Core.Bool.{Bool, true, false, cond, not, false≢true}
use mathlib.Core.List.{List, [], ◌∷◌, ◌++◌, append_assoc, tail}
use mathlib.Core.Logic.{◌⊎◌, inl, inr}
use lib.Dec.{eqb, leb}
use lib.ListN.{length, length-append}
use borrow.Author.Tests.{eqb-true, eqb-false, not-true}
use Rattle.lists.specs.All.{all}
use Rattle.lists.proofs.Bools.{by_test, both}
use Rattle.lists.proofs.Ends.{ends_eat, ends_length}
use Rattle.characters.specs.Ranges.{in_table}
use Rattle.characters.specs.Text.{skip, keep}
use Rattle.characters.proofs.Text.{skip_more, skip_stop}
use Rattle.letters.specs.Chars.{is_whitespace, whitespace}
use Rattle.cutters.specs.Kinds.{line_comment, block_comment, unclosed_comment, whitespace_kind}
use Rattle.cutters.specs.Records.{Token}
use Rattle.cutters.specs.Digits.{peek}
use Rattle.lexer.specs.Cut.{Letters, Piece, not_lf, opens, closes, block, slash, is_unit, advance, next_token}
use Rattle.locality.specs.Phases.{Line, of_comment, of_pragma, of_annotation, line_kind, act, Usual}
use Rattle.tokens.specs.Members.{is_counted}
use Rattle.locality.specs.Newline.{none_count}
use Rattle.locality.specs.Changes.{last_is, is_line, is_kept}
use Rattle.locality.proofs.Swap.{Swap}
use Rattle.locality.proofs.Newline.{swap_one, cr_blank, lf_blank, Stops, blank_swap}
use Rattle.locality.proofs.Counted.{others_count}
use Rattle.locality.proofs.Cuts.{Item, counted, texts, toks, counted_join, Cuts, none, more, cuts_join, Over, one_more, over_self, over_first}
use Rattle.locality.proofs.White.{White, white_none, white_more, lf_white, cr_white, white_join, white_isnt, all_white, next_white, spaces, kind_white, over_white}
use Rattle.locality.proofs.Between.{next_swap, cuts_swap, Lasts, over_swap}

-- ---- a closed block comment is closed whatever stands behind it
-- it takes two characters at least
block_less : (l : List ℕ) (d : ℕ) → (block d l).0 ≡ true → 2 + length (block d l).1 ≤ length l
unfolding block
block_less [] d h = absurd (false≢true h)
block_less (c ∷ []) d h = absurd (false≢true h)
block_less (c ∷ x ∷ t) d h =
    let past : (e : ℕ) → (block e t).0 ≡ true → 2 + length (block e t).1 ≤ length t = λ e. block_less t e in
    let next : (block d (x ∷ t)).0 ≡ true → 2 + length (block d (x ∷ t)).1 ≤ length (x ∷ t) = block_less (x ∷ t) d in
    by_test (opens c x) (λ o. rw o (omega (arith, past (suc d) (rw o at h))))
    (λ o. by_test (closes c x)
    (λ k. by_test (leb d 1) (λ z. rw (o, k, z) (omega arith)) (λ z. rw (o, k, z) (omega (arith, past (d - 1) (rw (o, k, z) at h)))))
    (λ k. rw (o, k) (omega (arith, next (rw (o, k) at h)))))

-- so none is closed before it has begun
too_short : {P : Type 0} (d : ℕ) (b r : List ℕ) → length b ≤ 1 → block d (b ++ r) ≡ (true, r) → P
too_short d b r n h =
    absurd (omega (arith, block_less (b ++ r) d (ap (λ (y : Bool × List ℕ). y.0) h), ap (λ (y : Bool × List ℕ). length y.1) h, length-append b r))

no_more : (t r s : List ℕ) → t ++ r ≡ r → t ++ s ≡ s
no_more [] r s h = refl
no_more (c ∷ t) r s h = absurd (omega (arith, ap length h, length-append t r))

block_ahead : (b r s : List ℕ) (d : ℕ) → block d (b ++ r) ≡ (true, r) → block d (b ++ s) ≡ (true, s)
unfolding block
block_ahead [] r s d h = too_short d [] r (omega arith) h
block_ahead (c ∷ []) r s d h = too_short d (c ∷ []) r (omega arith) h
block_ahead (c ∷ x ∷ t) r s d h =
    let past : (e : ℕ) → block e (t ++ r) ≡ (true, r) → block e (t ++ s) ≡ (true, s) = λ e. block_ahead t r s e in
    let next : block d (x ∷ t ++ r) ≡ (true, r) → block d (x ∷ t ++ s) ≡ (true, s) = block_ahead (x ∷ t) r s d in
    by_test (opens c x) (λ o. rw o (past (suc d) (rw o at h)))
    (λ o. by_test (closes c x)
    (λ k. by_test (leb d 1)
    (λ z. rw (o, k, z) (ap (λ (y : List ℕ). (true, y)) (no_more t r s (ap (λ (y : Bool × List ℕ). y.1) (rw (o, k, z) at h)))))
    (λ z. rw (o, k, z) (past (d - 1) (rw (o, k, z) at h))))
    (λ k. rw (o, k) (next (rw (o, k) at h))))

-- behind the slash
record Closed (t r : List ℕ) : Type 0 where
  no_line : eqb (peek t) 0x2F ≡ false
  star : eqb (peek t) 0x2A ≡ true
  block_is : block 1 (tail t) ≡ (true, r)

slash_closed : (t r : List ℕ) → slash t ≡ (block_comment, r) → Closed t r
unfolding slash
slash_closed t r h =
    by_test (eqb (peek t) 0x2F) (λ a. absurd (omega (arith, ap (λ (y : ℕ × List ℕ). y.0) (rw a at h))))
    (λ a. by_test (eqb (peek t) 0x2A)
    (λ b.
    let g : (cond (block 1 (tail t)).0 block_comment unclosed_comment, (block 1 (tail t)).1) ≡ (block_comment, r) = rw (a, b) at h in
    record { no_line = a; star = b; block_is = ap₂ (λ (v : Bool) (w : List ℕ). (v, w)) (shut (block 1 (tail t)).0 (ap (λ (y : ℕ × List ℕ). y.0) g)) (ap (λ (y : ℕ × List ℕ). y.1) g) })
    (λ b. absurd (omega (arith, ap (λ (y : ℕ × List ℕ). y.0) (rw (a, b) at h)))))
  where
    shut : (v : Bool) → cond v block_comment unclosed_comment ≡ block_comment → v ≡ true
    shut true e = refl
    shut false e = absurd (omega arith)

tail_short : (l : List ℕ) → length (tail l) ≤ length l
tail_short [] = omega arith
tail_short (c ∷ l) = omega arith

slash_ahead : (e r s : List ℕ) → slash (e ++ r) ≡ (block_comment, r) → slash (e ++ s) ≡ (block_comment, s)
unfolding slash
slash_ahead [] r s h =
    let c = slash_closed r r h in
    absurd (omega (arith, block_less (tail r) 1 (ap (λ (y : Bool × List ℕ). y.0) c.block_is), ap (λ (y : Bool × List ℕ). length y.1) c.block_is, tail_short r))
slash_ahead (x ∷ e) r s h =
    let c = slash_closed (x ∷ e ++ r) r h in
    rw (c.no_line, c.star, block_ahead e r s 1 c.block_is)

-- ---- a line comment ends before an LF, or at the end
record Lined (t r : List ℕ) : Type 0 where
  twin : eqb (peek t) 0x2F ≡ true
  rest_is : skip not_lf (tail t) ≡ r

slash_line : (t r : List ℕ) → slash t ≡ (line_comment, r) → Lined t r
unfolding slash
slash_line t r h =
    by_test (eqb (peek t) 0x2F) (λ a. record { twin = a; rest_is = ap (λ (y : ℕ × List ℕ). y.1) (rw a at h) })
    (λ a. by_test (eqb (peek t) 0x2A) (λ b. absurd (other (block 1 (tail t)).0 (ap (λ (y : ℕ × List ℕ). y.0) (rw (a, b) at h))))
    (λ b. absurd (omega (arith, ap (λ (y : ℕ × List ℕ). y.0) (rw (a, b) at h)))))
  where
    other : (v : Bool) → cond v block_comment unclosed_comment ≡ line_comment → ⊥
    other true e = omega arith
    other false e = omega arith

-- what was eaten is eaten, whatever stands behind it
skip_ahead : (p : ℕ → Bool) (e r s : List ℕ) → skip p (e ++ r) ≡ r → skip p (e ++ s) ≡ skip p s
skip_ahead p [] r s h = refl
skip_ahead p (c ∷ e) r s h =
    let ih : skip p (e ++ r) ≡ r → skip p (e ++ s) ≡ skip p s = skip_ahead p e r s in
    by_test (p c) (λ a. skip_more p c (e ++ s) a ∙ ih (sym (skip_more p c (e ++ r) a) ∙ h))
    (λ a. absurd (omega (arith, ap length (sym (skip_stop p c (e ++ r) a) ∙ h), length-append e r)))

skip_short : (p : ℕ → Bool) (l : List ℕ) → length (skip p l) ≤ length l
unfolding skip
skip_short p l = ends_length (ends_eat p keep tt l)

line_ahead : (e r s : List ℕ) → slash (e ++ r) ≡ (line_comment, r) → slash (e ++ s) ≡ (line_comment, skip not_lf s)
unfolding slash
line_ahead [] r s h =
    let l = slash_line r r h in
    absurd (shorter r l.twin l.rest_is)
  where
    shorter : (r : List ℕ) → eqb (peek r) 0x2F ≡ true → skip not_lf (tail r) ≡ r → ⊥
    shorter [] a e = false≢true a
    shorter (c ∷ t) a e = omega (arith, ap length e, skip_short not_lf t)
line_ahead (x ∷ e) r s h =
    let l = slash_line (x ∷ e ++ r) r h in
    rw (l.twin, skip_ahead not_lf e r s l.rest_is)

-- ---- no unit begins with a slash or with white space
slash_no_unit : (x y : ℕ) → eqb x 0x2F ≡ true → is_unit x y ≡ false
unfolding is_unit
slash_no_unit x y h = rw (eqb-true x 0x2F h)

white_no_unit : (x y : ℕ) → is_whitespace x ≡ true → is_unit x y ≡ false
unfolding is_unit whitespace in_table
white_no_unit x y h =
    rw (white_isnt x 0x73 h refl, white_isnt x 0x64 h refl, white_isnt x 0x6E h refl, white_isnt x 0x75 h refl, white_isnt x 0x6D h refl, white_isnt x 0xB5 h refl, white_isnt x 0x69 h refl)

-- ---- white space, and a closed block comment
abbrev pub Free : ℕ → Type 0
Free k = (k ≡ block_comment) ⊎ (k ≡ whitespace_kind)

pub free_uncounted : {k : ℕ} → Free k → is_counted k ≡ false
unfolding is_counted
free_uncounted (inl w) = rw w
free_uncounted (inr w) = rw w

line_uncounted : {k : ℕ} → k ≡ line_comment → is_counted k ≡ false
unfolding is_counted
line_uncounted w = rw w

pub three : (k : ℕ) → is_counted k ≡ false → (k ≡ line_comment) ⊎ Free k
unfolding is_counted
three k h =
    by_test (eqb k line_comment) (λ a. inl (eqb-true k line_comment a))
    (λ a. by_test (eqb k block_comment) (λ b. inr (inl (eqb-true k block_comment b)))
    (λ b. by_test (eqb k whitespace_kind) (λ c. inr (inr (eqb-true k whitespace_kind c))) (λ c. absurd (false≢true (sym h ∙ rw (a, b, c))))))

module _ (u : Letters) (usual : Usual u) (profile : ℕ) where
  -- its first character is a slash, where it is a comment
  slash_first : (c : ℕ) (t : List ℕ) → is_counted (advance u profile c t).kind ≡ false → ((advance u profile c t).kind ≡ whitespace_kind → ⊥) → eqb c 0x2F ≡ true
  unfolding advance
  slash_first c t h n =
      by_test (eqb c 0x2F) (λ e. e)
      (λ e. by_test (is_whitespace c) (λ k. absurd (n (rw (e, k)))) (λ k. absurd (false≢true (sym h ∙ others_count u profile c t e k))))

  advance_slash : (c : ℕ) (t : List ℕ) → eqb c 0x2F ≡ true → advance u profile c t ≡ record { kind = (slash t).0; from_suffix = c ∷ t; rest = (slash t).1 }
  unfolding advance
  advance_slash c t h = rw h

  -- ---- behind white space and behind a closed block comment anything may stand
  over_behind : {j : List Item} (c : ℕ) (e r s : List ℕ) (k : Token) → next_token u profile c (e ++ r) ≡ (k, r) → Free k.kind → Over u profile j [] s → Over u profile j [] (c ∷ (e ++ s))
  unfolding next_token counted is_counted
  over_behind {j} c e r s k h (inr w) o =
      let b = kind_white u profile c (e ++ r) r k h w in
      let v = all_white e r (ap (λ (y : Token × List ℕ). y.1) (sym (next_white u profile c (e ++ r) b) ∙ h)) in
      let n = spaces u profile c e b v o.cuts in
      record { new = n.new; cuts = n.cuts; same = n.same ∙ o.same }
  over_behind {j} c e r s k h (inl w) o =
      let kind : (advance u profile c (e ++ r)).kind ≡ block_comment = ap (λ (y : Token × List ℕ). y.0.kind) h ∙ w in
      let f = slash_first c (e ++ r) (ap is_counted kind) (λ z. omega (arith, kind)) in
      let a = advance_slash c (e ++ r) f in
      let g : slash (e ++ r) ≡ (block_comment, r) =
      ap₂ (λ (x : ℕ) (y : List ℕ). (x, y)) (ap (λ (y : Piece). y.kind) (sym a) ∙ kind) (ap (λ (y : Piece). y.rest) (sym a) ∙ ap (λ (y : Token × List ℕ). y.1) h) in
      let b : advance u profile c (e ++ s) ≡ record { kind = block_comment; from_suffix = c ∷ (e ++ s); rest = s } = advance_slash c (e ++ s) f ∙ rw (slash_ahead e r s g) in
      over_first u profile c (e ++ s) (rw b) (rw b o)

  -- ---- behind a line comment stands white space
  kind_line : (c : ℕ) (e r : List ℕ) (k : Token) → next_token u profile c (e ++ r) ≡ (k, r) → k.kind ≡ line_comment → (eqb c 0x2F ≡ true) × (slash (e ++ r) ≡ (line_comment, r))
  unfolding next_token is_counted
  kind_line c e r k h w =
      let kind : (advance u profile c (e ++ r)).kind ≡ line_comment = ap (λ (y : Token × List ℕ). y.0.kind) h ∙ w in
      let f = slash_first c (e ++ r) (ap is_counted kind) (λ z. omega (arith, kind)) in
      let a = advance_slash c (e ++ r) f in
      (f, ap₂ (λ (x : ℕ) (y : List ℕ). (x, y)) (ap (λ (y : Piece). y.kind) (sym a) ∙ kind) (ap (λ (y : Piece). y.rest) (sym a) ∙ ap (λ (y : Token × List ℕ). y.1) h))

  over_line : {j : List Item} (c : ℕ) (e r s : List ℕ) (k : Token) → next_token u profile c (e ++ r) ≡ (k, r) → k.kind ≡ line_comment → Over u profile j [] (skip not_lf s) → Over u profile j [] (c ∷ (e ++ s))
  unfolding is_counted
  over_line c e r s k h w o =
      let l = kind_line c e r k h w in
      let b : advance u profile c (e ++ s) ≡ record { kind = line_comment; from_suffix = c ∷ (e ++ s); rest = skip not_lf s } = advance_slash c (e ++ s) l.0 ∙ rw (line_ahead e r s l.1) in
      over_first u profile c (e ++ s) (rw b) (rw b o)

  -- the rest of it begins with an LF, or is empty
  line_rest : (c : ℕ) (e r : List ℕ) (k : Token) → next_token u profile c (e ++ r) ≡ (k, r) → k.kind ≡ line_comment → skip not_lf r ≡ r
  line_rest c e r k h w =
      let l = kind_line c e r k h w in
      let q = line_ahead e r r l.1 in
      ap (λ (y : ℕ × List ℕ). y.1) (sym q ∙ l.1)

  over_blank : {j : List Item} {v : List ℕ} (r : List ℕ) → White v → skip not_lf r ≡ r → Cuts u profile j r [] → Over u profile j [] (skip not_lf (v ++ r))
  over_blank r white_none e c = rw e (over_self u profile c)
  over_blank r (white_more {c = d} {w = v} h x) e c =
      let ih = over_blank r x e c in
      by_test (not_lf d) (λ a. rw (skip_more not_lf d (v ++ r) a) ih) (λ a. rw (skip_stop not_lf d (v ++ r) a) (spaces u profile d v h x c))

  -- ---- tokens that do not count, the last of them no line comment, in front of anything
  -- what is left of a line comment, behind which there are tokens, begins with an LF: with more behind it too
  rest_more : (r z : List ℕ) → skip not_lf r ≡ r → 1 ≤ length r → skip not_lf (r ++ z) ≡ r ++ z
  rest_more [] z e n = absurd (omega arith)
  rest_more (x ∷ r) z e n =
      by_test (not_lf x) (λ a. absurd (omega (arith, ap length (sym (skip_more not_lf x r a) ∙ e), skip_short not_lf r)))
      (λ a. skip_stop not_lf x (r ++ z) a)

  some_left : {w : List Item} {r z : List ℕ} → Cuts u profile w r z → 1 ≤ length w → 1 ≤ length r
  some_left none n = absurd (omega arith)
  some_left (more h x rest) n = rw h (omega arith)

  absorb_one : {j : List Item} (c : ℕ) (e r s : List ℕ) (k : Token) → next_token u profile c (e ++ r) ≡ (k, r) → not (is_counted k.kind) ≡ true → (k.kind ≡ line_comment → skip not_lf s ≡ s) →
      Over u profile j [] s → Over u profile j [] (c ∷ (e ++ s))
  absorb_one {j} c e r s k h n f o =
      elim (three k.kind (not-true (is_counted k.kind) n)) [
        | inl w ↦ over_line c e r s k h w (subst (λ (y : List ℕ). Over u profile j [] y) (sym (f w)) o)
        | inr w ↦ over_behind c e r s k h w o
      ]

  pub absorbed : {w j : List Item} {v z y : List ℕ} → Cuts u profile w v y → y ≡ [] → none_count (toks w) ≡ true → last_is is_line (toks w) ≡ false → Over u profile j [] z → Over u profile j [] (v ++ z)
  unfolding all last_is
  absorbed none q a l o = rw q o
  absorbed {j = j} {z = z} (more {i = []} {k = k} {c = c} {e = e} {r = r} h x none) q a l o =
      let n = both (not (is_counted k.kind)) true a in
      rw (h, append_assoc e r z, q) (absorb_one c e r z k x n.0 (λ w. absurd (eqb-false k.kind line_comment l w)) o)
  absorbed {j = j} {z = z} (more {i = b ∷ i} {k = k} {c = c} {e = e} {r = r} h x rest) q a l o =
      let n = both (not (is_counted k.kind)) (none_count (toks (b ∷ i))) a in
      let ih : Over u profile j [] (r ++ z) = absorbed rest q n.1 l o in
      rw (h, append_assoc e r z) (absorb_one c e r (r ++ z) k x n.0 (λ w. rest_more r z (line_rest c e r k x w) (some_left rest (omega arith))) ih)

  -- ---- behind tokens, where the first character stays and begins no unit
  over_front : {i j : List Item} {l t s : List ℕ} (c : ℕ) → ((y : ℕ) → is_unit c y ≡ false) → Cuts u profile i l (c ∷ t) → Over u profile j [] (c ∷ s) → Over u profile j i (texts i ++ c ∷ s)
  unfolding counted
  over_front {i} {j} {l} {t} {s} c f h o =
      let x = cuts_swap u usual profile (swap_one u c t s f) h in
      record { new = i ++ o.new; cuts = cuts_join u profile x o.cuts; same = counted_join i o.new ∙ ap (λ (y : List Item). counted i ++ y) o.same }

  -- the first character of an uncounted token
  no_unit : (c : ℕ) (e r : List ℕ) (k : Token) → next_token u profile c (e ++ r) ≡ (k, r) → is_counted k.kind ≡ false → (y : ℕ) → is_unit c y ≡ false
  unfolding next_token
  no_unit c e r k h n y =
      by_test (eqb c 0x2F) (slash_no_unit c y)
      (λ a. by_test (is_whitespace c) (white_no_unit c y) (λ b. absurd (false≢true (sym (ap (λ (z : Token × List ℕ). is_counted z.0.kind) h ∙ n) ∙ others_count u profile c (e ++ r) a b))))

  -- ---- PUT DIRECTLY BEHIND white space or a closed block comment: any text of tokens that do not count, the last of them no line comment
  pub insert_chars : {i w j : List Item} {l r v : List ℕ} (c : ℕ) (e : List ℕ) (k : Token) → Cuts u profile i l (c ∷ (e ++ r)) → next_token u profile c (e ++ r) ≡ (k, r) → Free k.kind →
      Cuts u profile j r [] → Cuts u profile w v [] → none_count (toks w) ≡ true → last_is is_line (toks w) ≡ false → Over u profile j i (texts i ++ c ∷ (e ++ (v ++ r)))
  insert_chars {r = r} {v = v} c e k h x f b w n l =
      over_front c (no_unit c e r k x (free_uncounted f)) h (over_behind c e r (v ++ r) k x f (absorbed w refl n l (over_self u profile b)))

  -- PUT DIRECTLY BEHIND any token that does not count: white space
  pub insert_white : {i j : List Item} {l r v : List ℕ} (c : ℕ) (e : List ℕ) (k : Token) → Cuts u profile i l (c ∷ (e ++ r)) → next_token u profile c (e ++ r) ≡ (k, r) → is_counted k.kind ≡ false →
      Cuts u profile j r [] → White v → Over u profile j i (texts i ++ c ∷ (e ++ (v ++ r)))
  insert_white {r = r} {v = v} c e k h x n b w =
      over_front c (no_unit c e r k x n) h
      (elim (three k.kind n) [
        | inl z ↦ over_line c e r (v ++ r) k x z (over_blank r w (line_rest c e r k x z) b)
        | inr z ↦ over_behind c e r (v ++ r) k x z (over_white u profile w b)
      ])

  -- ---- a CR put before an LF in white space: y is the white space behind the LF
  module _ {j : List Item} (y z : List ℕ) (blank : White y) (behind : Cuts u profile j z []) where
    abbrev old : List ℕ
    old = 0x0A ∷ (y ++ z)

    abbrev new : List ℕ
    new = 0x0D ∷ 0x0A ∷ (y ++ z)

    over_lf : Over u profile j [] old
    over_lf = spaces u profile 0x0A y lf_white blank behind

    over_cr : Over u profile j [] new
    over_cr = spaces u profile 0x0D (0x0A ∷ y) cr_white (white_more lf_white blank) behind

    over_uncounted : {l : List ℕ} (k : Token) (w : List ℕ) → is_counted k.kind ≡ false → Over u profile j [] l → Over u profile j ((k, w) ∷ []) l
    unfolding counted
    over_uncounted k w h o = record { new = o.new; cuts = o.cuts; same = rw h o.same }

    -- the token before it is no Pragma and no Annotation
    abbrev pub Fine : Token → Type 0
    Fine k = is_kept k.kind ≡ false

    lines : (k : Token) → Fine k → eqb k.kind line_comment ≡ false → (l : Line) → line_kind l ≡ k.kind → ⊥
    lines k f h of_comment e = eqb-false k.kind line_comment h (sym e)
    lines k f h of_pragma e = false≢true (sym f ∙ ap is_kept (sym e))
    lines k f h of_annotation e = false≢true (sym f ∙ ap is_kept (sym e))

    skip_cr : skip not_lf new ≡ old
    unfolding not_lf
    skip_cr = skip_more not_lf 0x0D old refl ∙ skip_stop not_lf 0x0A (y ++ z) refl

    abbrev swap : Swap (act u) (Stops 0x0D) old new
    swap = blank_swap u usual 0x0A 0x0D (cr_blank u usual) (y ++ z) (0x0A ∷ (y ++ z)) (lf_blank u usual).second

    cr_alone : (k : Token) (c : ℕ) (e : List ℕ) → Fine k → next_token u profile c (e ++ old) ≡ (k, old) → Over u profile j ((k, c ∷ e) ∷ []) (c ∷ (e ++ new))
    cr_alone k c e f h =
        by_test (is_counted k.kind)
        (λ n.
        let space : k.kind ≡ whitespace_kind → ⊥ = λ w. false≢true (sym (free_uncounted (inr w)) ∙ n) in
        let line : eqb k.kind line_comment ≡ false = by_test (eqb k.kind line_comment) (λ w. absurd (false≢true (sym (line_uncounted (eqb-true k.kind line_comment w)) ∙ n))) (λ w. w) in
        one_more u profile k c e refl (next_swap u usual profile swap c e k (record { no_space = space; no_line = λ n. lines k f line }) h) over_cr)
        (λ n.
        over_uncounted k (c ∷ e) n
        (elim (three k.kind n) [
          | inl w ↦ over_line c e old new k h w (subst (λ (l : List ℕ). Over u profile j [] l) (sym skip_cr) over_lf)
          | inr w ↦ over_behind c e old new k h w over_cr
        ]))

    pub crlf_first : {i : List Item} {l : List ℕ} → Cuts u profile i l old → Lasts u usual profile Fine i → Over u profile j i (texts i ++ new)
    crlf_first h f = over_swap u usual profile swap over_cr cr_alone h f

    -- behind white space of the same token
    pub crlf_later : {i : List Item} {l : List ℕ} (c : ℕ) (x : List ℕ) → is_whitespace c ≡ true → White x → Cuts u profile i l (c ∷ (x ++ old)) → Over u profile j i (texts i ++ c ∷ (x ++ new))
    crlf_later c x a b h =
        over_front c (λ v. white_no_unit c v a) h
        (subst (λ (l : List ℕ). Over u profile j [] (c ∷ l)) (append_assoc x (0x0D ∷ 0x0A ∷ y) z) (spaces u profile c (x ++ 0x0D ∷ 0x0A ∷ y) a (white_join b (white_more cr_white (white_more lf_white blank))) behind))
