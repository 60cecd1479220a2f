-- What else leaves the counted tokens of a text of bytes as they are: one run of uncounted tokens for another; a newline at the end;
-- white space and comments put in; CR LF for LF.
-- Assumes nothing.
use Prim.Native.Nat.{ℕ, ◌+◌, ◌≤◌, ◌<◌}
use native.Mathlib.Omega.{arith}
use mathlib.Core.Path.{◌≡◌, refl, ap, ap₂, sym, subst, ◌∙◌}
use mathlib.Core.Bool.{Bool, true, false, ◌||◌, false≢true}
use mathlib.Core.List.{List, [], ◌∷◌, ◌++◌, append_assoc, append-nil, tail}
use mathlib.Core.Logic.{inl, inr}
use lib.Dec.{eqb}
use lib.ListN.{length, take, drop}
use lib.Seq.{take_at, drop_at}
use borrow.Author.Tests.{eqb-true}
use Rattle.lists.specs.All.{all}
use Rattle.lists.proofs.Bools.{by_test, both}
use Rattle.characters.specs.Utf8.{chars, width, is_scalar, encode, encode_all, WellFormed, Encoded}
use Rattle.characters.specs.Text.{byte_length}
use Rattle.characters.proofs.Text.{bytes_append}
use Rattle.characters.proofs.Valid.{width_some, well_formed_encoded, encode_append, encode_bytes, read_all}
use Rattle.characters.proofs.Ascii.{chars_ascii}
use Rattle.letters.specs.Chars.{is_whitespace}
use Rattle.cutters.specs.Kinds.{block_comment, whitespace_kind}
use Rattle.cutters.specs.Records.{Token, total}
use Rattle.lexer.specs.Cut.{next_token, tokens}
use Rattle.lexer.specs.Unicode.{unicode}
use Rattle.lexer.specs.Promises.{tokens3}
use Rattle.locality.specs.Phases.{Seen, bits, broken, other, seen_kind}
use Rattle.tokens.specs.Members.{is_counted, members3}
use Rattle.locality.specs.Newline.{none_count, Run, MadeOf, with_newline}
use Rattle.locality.specs.Changes.{last_is, is_line, is_open, is_kept, LfIn, EndsAt, inserted}
use Rattle.locality.proofs.Cuts.{Item, counted, texts, toks, counted_join, Cuts, more, cuts_text, cuts_join, first_cut, split, whole, cut_length, total_bytes, Over}
use Rattle.locality.proofs.White.{white_uncounted, White, white_none, white_more, all_white, next_white, kind_white}
use Rattle.locality.proofs.Between.{Lasts, Closes, newline_end}
use Rattle.lists.proofs.All.{all_append, all_join}
use Rattle.locality.proofs.Written.{written, counted_of, made_of}
use Rattle.locality.proofs.Clause.{unicode_usual, lf_scalar, newline_clause}
use Rattle.locality.proofs.Ahead.{read_front}
use Rattle.locality.proofs.Insert.{Free, free_uncounted, insert_chars, insert_white, Fine, crlf_first, crlf_later}

module _ (profile : ℕ) where
  -- ---- ONE RUN FOR ANOTHER: two texts that are the same before and behind a run of uncounted tokens each have the same counted tokens
  pub same_between : {s s' : List ℕ} {from to from' to' : ℕ} → WellFormed s → WellFormed s' → Run (tokens3 profile) s from to → Run (tokens3 profile) s' from' to' → take from s ≡ take from' s' → drop to s ≡ drop to' s' →
      members3 profile s ≡ members3 profile s'
  unfolding with_newline
  same_between f g r r' x y = sym (newline_clause profile f r).1 ∙ ap (members3 profile) (ap₂ (λ (a b : List ℕ). a ++ 0x0A ∷ b) x y) ∙ (newline_clause profile g r').1

  abbrev Cut : List Item → List ℕ → List ℕ → Type 0
  Cut = Cuts unicode profile

  -- ---- from characters to bytes: two texts of characters, with the same counted tokens
  same_bytes : {i j : List Item} {l m : List ℕ} → Cut i l [] → Cut j m [] → all is_scalar l ≡ true → all is_scalar m ≡ true → counted j ≡ counted i → members3 profile (encode_all m) ≡ members3 profile (encode_all l)
  same_bytes a b v w e = counted_of profile b w ∙ ap written e ∙ sym (counted_of profile a v)

  -- ---- A NEWLINE AT THE END
  open_quote : (z : Seen) (k : ℕ) → is_open k ≡ false → seen_kind false z ≡ k → ⊥
  open_quote (bits true low) k h e = false≢true (sym h ∙ ap is_open (sym e))
  open_quote (bits false low) k h e = false≢true (sym h ∙ ap is_open (sym e))
  open_quote (broken true) k h e = false≢true (sym h ∙ ap is_open (sym e))
  open_quote (broken false) k h e = false≢true (sym h ∙ ap is_open (sym e))
  open_quote other k h e = false≢true (sym h ∙ ap is_open (sym e))

  closes : (k : Token) → is_open k.kind ≡ false → Closes unicode unicode_usual profile k
  closes k h n = record { no_space = n; no_comment = λ e. false≢true (sym h ∙ ap is_open e); no_quote = λ z e. open_quote z k.kind h e }

  last_closes : (i : List Item) → last_is is_open (toks i) ≡ false → Lasts unicode unicode_usual profile (Closes unicode unicode_usual profile) i
  unfolding last_is
  last_closes [] h = tt
  last_closes (x ∷ []) h = closes x.0 h
  last_closes (x ∷ y ∷ i) h = last_closes (y ∷ i) h

  encode_lf : (x : List ℕ) → encode_all (x ++ 0x0A ∷ []) ≡ encode_all x ++ 0x0A ∷ []
  unfolding encode_all encode
  encode_lf x = encode_append x (0x0A ∷ [])

  end_bytes : {i : List Item} {l : List ℕ} → Cut i l [] → all is_scalar l ≡ true → last_is is_open (toks i) ≡ false →
      MadeOf (0x0A ∷ []) (encode_all l) (encode_all l ++ 0x0A ∷ []) × (members3 profile (encode_all l ++ 0x0A ∷ []) ≡ members3 profile (encode_all l))
  unfolding counted
  end_bytes {i} {l} c v h =
      let o = newline_end unicode unicode_usual profile c (last_closes i h) in
      let t : l ≡ texts i = cuts_text unicode profile c ∙ append-nil (texts i) in
      let z : encode_all (texts i ++ 0x0A ∷ []) ≡ encode_all l ++ 0x0A ∷ [] = encode_lf (texts i) ∙ ap (λ (y : List ℕ). encode_all y ++ 0x0A ∷ []) (sym t) in
      let w : all is_scalar (texts i ++ 0x0A ∷ []) ≡ true = all_join is_scalar (texts i) (0x0A ∷ []) (ap (all is_scalar) (sym t) ∙ v) lf_scalar in
      let e : counted o.new ≡ counted i = o.same ∙ append-nil (counted i) in
      let d = made_of (0x0A ∷ []) l (texts i ++ 0x0A ∷ []) lf_scalar v (λ p q h. all_join p (texts i) (0x0A ∷ []) (ap (all p) (sym t) ∙ h) q) in
      (rw (← z) d, rw (← z) (same_bytes c o.cuts v w e))

  -- a newline put at the end leaves the counted tokens, unless the last token is an unclosed comment or an unclosed quoted text
  pub newline_appended : (s : List ℕ) → WellFormed s → last_is is_open (tokens3 profile s) ≡ false → MadeOf (0x0A ∷ []) s (s ++ 0x0A ∷ []) × (members3 profile (s ++ 0x0A ∷ []) ≡ members3 profile s)
  unfolding tokens3
  newline_appended s f h =
      let e = well_formed_encoded s f in
      let v : chars s ≡ e.of = ap chars e.same ∙ read_all e.of e.scalars in
      let c = whole unicode profile e.of in
      let t : tokens unicode profile (chars s) ≡ toks c.items = ap (tokens unicode profile) v ∙ c.same in
      rw e.same (end_bytes c.cuts e.scalars (ap (last_is is_open) (sym t) ∙ h))

  -- ---- PUT IN
  -- the characters v behind x
  inserted_bytes : (x r v : List ℕ) (at : ℕ) → all is_scalar x ≡ true → at ≡ byte_length x → inserted (encode_all (x ++ r)) at (encode_all v) ≡ encode_all (x ++ (v ++ r))
  unfolding inserted
  inserted_bytes x r v at h e =
      let n : length (encode_all x) ≡ at = omega (arith, encode_bytes x h) in
      rw (encode_append x r, take_at (encode_all x) (encode_all r) at n, drop_at (encode_all x) (encode_all r) at n, encode_append x (v ++ r), encode_append v r)

  -- whose characters are the old ones and v
  with_more : {l n : List ℕ} (y v r : List ℕ) → l ≡ y ++ r → n ≡ y ++ (v ++ r) → (p : ℕ → Bool) → all p v ≡ true → all p l ≡ true → all p n ≡ true
  with_more y v r t m p g f =
      let q = all_append p y r (ap (all p) (sym t) ∙ f) in
      ap (all p) m ∙ all_join p y (v ++ r) q.0 (all_join p v r g q.1)

  insert_bytes : {i j : List Item} {l r : List ℕ} (c : ℕ) (e : List ℕ) (k : Token) (v : List ℕ) (at : ℕ) → Cut i l (c ∷ (e ++ r)) → next_token unicode profile c (e ++ r) ≡ (k, r) → is_counted k.kind ≡ false → Cut j r [] →
      Over unicode profile j i (texts i ++ c ∷ (e ++ (v ++ r))) → all is_scalar l ≡ true → all is_scalar v ≡ true → at ≡ total (toks i) + k.len →
      MadeOf v (encode_all l) (inserted (encode_all l) at (encode_all v)) × (members3 profile (inserted (encode_all l) at (encode_all v)) ≡ members3 profile (encode_all l))
  unfolding counted byte_length
  insert_bytes {i} {j} {l} {r} c e k v at a x n b o f g p =
      let y : List ℕ = texts i ++ c ∷ e in
      let t : l ≡ y ++ r = cuts_text unicode profile a ∙ sym (append_assoc (texts i) (c ∷ e) r) in
      let q = all_append is_scalar y r (ap (all is_scalar) (sym t) ∙ f) in
      let m : texts i ++ c ∷ (e ++ (v ++ r)) ≡ y ++ (v ++ r) = sym (append_assoc (texts i) (c ∷ e) (v ++ r)) in
      let h : at ≡ byte_length y = omega (arith, total_bytes unicode profile a, cut_length unicode profile c e r k x, bytes_append (texts i) (c ∷ e)) in
      let z : inserted (encode_all l) at (encode_all v) ≡ encode_all (texts i ++ c ∷ (e ++ (v ++ r))) =
      ap (λ (w : List ℕ). inserted (encode_all w) at (encode_all v)) t ∙ inserted_bytes y r v at q.0 h ∙ ap encode_all (sym m) in
      let u = with_more y v r t m in
      let w : all is_scalar (texts i ++ c ∷ (e ++ (v ++ r))) ≡ true = u is_scalar g f in
      let d : Cut (i ++ (k, c ∷ e) ∷ j) l [] = cuts_join unicode profile a (more refl x b) in
      let s : counted o.new ≡ counted (i ++ (k, c ∷ e) ∷ j) = o.same ∙ sym (counted_join i ((k, c ∷ e) ∷ j) ∙ rw n) in
      (rw z (made_of v l (texts i ++ c ∷ (e ++ (v ++ r))) g f u), rw z (same_bytes d o.cuts f w s))

  -- behind a token of a text
  insert_at : {s : List ℕ} {at : ℕ} {t : Token} (v : List ℕ) → WellFormed s → EndsAt (tokens3 profile) s at t → is_counted t.kind ≡ false → all is_scalar v ≡ true →
      ((i j : List Item) (l r : List ℕ) (c : ℕ) (e : List ℕ) → Cut i l (c ∷ (e ++ r)) → next_token unicode profile c (e ++ r) ≡ (t, r) → Cut j r [] → Over unicode profile j i (texts i ++ c ∷ (e ++ (v ++ r)))) →
      MadeOf v s (inserted s at (encode_all v)) × (members3 profile (inserted s at (encode_all v)) ≡ members3 profile s)
  unfolding tokens3
  insert_at {s} {at} {t} v f p n g over =
      let e = well_formed_encoded s f in
      let y : tokens unicode profile e.of ≡ p.before ++ (t ∷ p.behind) = ap (tokens unicode profile) (sym (ap chars e.same ∙ read_all e.of e.scalars)) ∙ p.is in
      let a = split unicode profile p.before (t ∷ p.behind) e.of y in
      let b = first_cut unicode profile t p.behind a.left a.rest in
      let j = whole unicode profile b.left in
      let c : Cut a.items e.of (b.head ∷ (b.text ++ b.left)) = rw b.is at a.cuts in
      let q : at ≡ total (toks a.items) + t.len = omega (arith, p.place, ap total a.same) in
      rw e.same
      (insert_bytes b.head b.text t v at c b.cut n j.cuts (over a.items j.items e.of b.left b.head b.text c b.cut j.cuts) e.scalars g q)

  -- v by its bytes
  as_bytes : {s : List ℕ} (at : ℕ) (v : List ℕ) (e : Encoded v) → MadeOf e.of s (inserted s at (encode_all e.of)) × (members3 profile (inserted s at (encode_all e.of)) ≡ members3 profile s) →
      MadeOf (chars v) s (inserted s at v) × (members3 profile (inserted s at v) ≡ members3 profile s)
  as_bytes {s} at v e r =
      let b : chars v ≡ e.of = ap chars e.same ∙ read_all e.of e.scalars in
      let d : MadeOf e.of s (inserted s at v) = subst (λ (w : List ℕ). MadeOf e.of s (inserted s at w)) (sym e.same) r.0 in
      (subst (λ (y : List ℕ). MadeOf y s (inserted s at v)) (sym b) d, ap (λ (w : List ℕ). members3 profile (inserted s at w)) e.same ∙ r.1)

  whites : (v : List ℕ) → all is_whitespace v ≡ true → White v
  unfolding all
  whites [] h = white_none
  whites (c ∷ v) h = let b = both (is_whitespace c) (all is_whitespace v) h in white_more b.0 (whites v b.1)

  free : (k : ℕ) → (eqb k block_comment || eqb k whitespace_kind) ≡ true → Free k
  free k h = by_test (eqb k block_comment) (λ e. inl (eqb-true k block_comment e)) (λ e. inr (eqb-true k whitespace_kind (rw e at h)))

  -- white space put directly behind a token that does not count
  pub white_inserted : {s : List ℕ} {at : ℕ} {t : Token} (v : List ℕ) → WellFormed s → EndsAt (tokens3 profile) s at t → is_counted t.kind ≡ false → WellFormed v → all is_whitespace (chars v) ≡ true →
      MadeOf (chars v) s (inserted s at v) × (members3 profile (inserted s at v) ≡ members3 profile s)
  white_inserted {s} {at} {t} v f p n g h =
      let e = well_formed_encoded v g in
      let b : chars v ≡ e.of = ap chars e.same ∙ read_all e.of e.scalars in
      let w = whites e.of (ap (all is_whitespace) (sym b) ∙ h) in
      as_bytes at v e (insert_at e.of f p n e.scalars (λ i j l r c d a x b. insert_white unicode unicode_usual profile c d t a x n b w))

  -- comments and white space put directly behind white space or a closed block comment: any text of tokens that do not count, of which the
  -- last is no line comment
  pub text_inserted : {s : List ℕ} {at : ℕ} {t : Token} (v : List ℕ) → WellFormed s → EndsAt (tokens3 profile) s at t → (eqb t.kind block_comment || eqb t.kind whitespace_kind) ≡ true → WellFormed v →
      none_count (tokens3 profile v) ≡ true → last_is is_line (tokens3 profile v) ≡ false → MadeOf (chars v) s (inserted s at v) × (members3 profile (inserted s at v) ≡ members3 profile s)
  unfolding tokens3
  text_inserted {s} {at} {t} v f p k g m h =
      let e = well_formed_encoded v g in
      let w = whole unicode profile e.of in
      let o : chars v ≡ e.of = ap chars e.same ∙ read_all e.of e.scalars in
      let y : tokens unicode profile (chars v) ≡ toks w.items = ap (tokens unicode profile) o ∙ w.same in
      let z = free t.kind k in
      as_bytes at v e
      (insert_at e.of f p (free_uncounted z) e.scalars
      (λ i j l r c d a x b. insert_chars unicode unicode_usual profile c d t a x z b w.cuts (ap none_count (sym y) ∙ m) (ap (last_is is_line) (sym y) ∙ h)))

-- ---- CR LF FOR LF
-- of two fronts of a list the one that takes no fewer bytes begins with the other
record Longer (x y r s : List ℕ) : Type 0 where
  between : List ℕ
  whole : y ≡ x ++ between
  left : r ≡ between ++ s

longer : (x y r s : List ℕ) → x ++ r ≡ y ++ s → byte_length x ≤ byte_length y → Longer x y r s
unfolding byte_length
longer [] y r s e n = record { between = y; whole = refl; left = e }
longer (c ∷ x) [] r s e n = absurd (omega (arith, width_some c))
longer (c ∷ x) (d ∷ y) r s e n =
    let h : c ≡ d = cc in
    let t : x ++ r ≡ y ++ s = cc in
    let i = longer x y r s t (omega (arith, ap width h)) in
    record { between = i.between; whole = ap₂ (λ (v : ℕ) (w : List ℕ). v ∷ w) (sym h) i.whole; left = i.left }

append_cancel : (a x y : List ℕ) → a ++ x ≡ a ++ y → x ≡ y
append_cancel [] x y h = h
append_cancel (c ∷ a) x y h = append_cancel a x y (cc)

module _ (profile : ℕ) where
  last_fine : {j : List Item} (y z : List ℕ) (w : White y) (b : Cut profile j z []) (i : List Item) → last_is is_kept (toks i) ≡ false → Lasts unicode unicode_usual profile (Fine unicode unicode_usual profile y z w b) i
  unfolding last_is
  last_fine y z w b [] h = tt
  last_fine y z w b (x ∷ []) h = h
  last_fine y z w b (x ∷ v ∷ i) h = last_fine y z w b (v ∷ i) h

  white_split : (x y : List ℕ) → White (x ++ y) → White x × White y
  white_split [] y w = (white_none, w)
  white_split (c ∷ x) y (white_more h w) = let i = white_split x y w in (white_more h i.0, i.1)

  white_head : {c : ℕ} {x : List ℕ} → White (c ∷ x) → (is_whitespace c ≡ true) × White x
  white_head (white_more h w) = (h, w)

  token_white : (c : ℕ) (e r : List ℕ) (k : Token) → next_token unicode profile c (e ++ r) ≡ (k, r) → k.kind ≡ whitespace_kind → White (c ∷ e)
  token_white c e r k h w =
      let b = kind_white unicode profile c (e ++ r) r k h w in
      white_more b (all_white e r (ap (λ (y : Token × List ℕ). y.1) (sym (next_white unicode profile c (e ++ r) b) ∙ h)))

  -- in a token of white space: x before the LF, y behind it
  crlf_chars : {i j : List Item} {l r : List ℕ} (c : ℕ) (e x y : List ℕ) (k : Token) → Cut profile i l (c ∷ (e ++ r)) → next_token unicode profile c (e ++ r) ≡ (k, r) → k.kind ≡ whitespace_kind → Cut profile j r [] →
      c ∷ e ≡ x ++ 0x0A ∷ y → (x ≡ [] → last_is is_kept (toks i) ≡ false) → Over unicode profile j i (texts i ++ (x ++ 0x0D ∷ 0x0A ∷ (y ++ r)))
  crlf_chars {i} {j} {l} {r} c e [] y k a h w b q f =
      let v = white_split (0x0A ∷ []) y (subst White q (token_white c e r k h w)) in
      crlf_first unicode unicode_usual profile y r v.1 b (subst (λ (z : List ℕ). Cut profile i l (z ++ r)) q a) (last_fine y r v.1 b i (f refl))
  crlf_chars {i} {j} {l} {r} c e (d ∷ x) y k a h w b q f =
      let v = white_split (d ∷ x) (0x0A ∷ y) (subst White q (token_white c e r k h w)) in
      let n = white_head v.0 in
      let o = white_split (0x0A ∷ []) y v.1 in
      let m : d ∷ (x ++ 0x0A ∷ y) ++ r ≡ d ∷ (x ++ 0x0A ∷ (y ++ r)) = ap (λ (z : List ℕ). d ∷ z) (append_assoc x (0x0A ∷ y) r) in
      crlf_later unicode unicode_usual profile y r o.1 b d x n.0 n.1 (subst (λ (z : List ℕ). Cut profile i l z) m (subst (λ (z : List ℕ). Cut profile i l (z ++ r)) q a))

  -- where the LF stands in a token
  record Within (c : ℕ) (e r A B : List ℕ) (i : List Item) : Type 0 where
    before : List ℕ
    after : List ℕ
    token : c ∷ e ≡ before ++ 0x0A ∷ after
    front : A ≡ texts i ++ before
    back : B ≡ after ++ r

  within : (c : ℕ) (e r A B : List ℕ) (i : List Item) → A ++ 0x0A ∷ B ≡ texts i ++ (c ∷ (e ++ r)) → byte_length (texts i) ≤ byte_length A → byte_length A < byte_length (texts i) + byte_length (c ∷ e) → Within c e r A B i
  within c e r A B i t m n =
      let x = longer (texts i) A (c ∷ (e ++ r)) (0x0A ∷ B) (sym t) m in
      let k : byte_length A ≡ byte_length (texts i) + byte_length x.between = ap byte_length x.whole ∙ bytes_append (texts i) x.between in
      let w = longer x.between (c ∷ e) (0x0A ∷ B) r (sym x.left) (omega arith) in
      go x.between x.whole k w.between w.whole w.left
    where
      go : (x : List ℕ) → A ≡ texts i ++ x → byte_length A ≡ byte_length (texts i) + byte_length x → (w : List ℕ) → c ∷ e ≡ x ++ w → 0x0A ∷ B ≡ w ++ r → Within c e r A B i
      go x a k [] q l = absurd (omega (arith, ap byte_length q, ap byte_length (append-nil x)))
      go x a k (d ∷ y) q l =
          let h : 0x0A ≡ d = cc in
          record { before = x; after = y; token = q ∙ ap (λ (z : ℕ). x ++ z ∷ y) (sym h); front = a; back = cc }

  crlf_cut : {i j : List Item} {l r : List ℕ} (c : ℕ) (e : List ℕ) (k : Token) (A B : List ℕ) → Cut profile i l (c ∷ (e ++ r)) → next_token unicode profile c (e ++ r) ≡ (k, r) → k.kind ≡ whitespace_kind → Cut profile j r [] →
      l ≡ A ++ 0x0A ∷ B → total (toks i) ≤ byte_length A → byte_length A < total (toks i) + k.len → (total (toks i) ≡ byte_length A → last_is is_kept (toks i) ≡ false) → Over unicode profile j i (A ++ 0x0D ∷ 0x0A ∷ B)
  crlf_cut {i} {j} {l} {r} c e k A B a h w b q m n f =
      let t = total_bytes unicode profile a in
      let v = within c e r A B i (sym q ∙ cuts_text unicode profile a) (omega arith) (omega (arith, cut_length unicode profile c e r k h)) in
      let x : texts i ++ (v.before ++ 0x0D ∷ 0x0A ∷ (v.after ++ r)) ≡ A ++ 0x0D ∷ 0x0A ∷ B =
      sym (append_assoc (texts i) v.before (0x0D ∷ 0x0A ∷ (v.after ++ r))) ∙ ap₂ (λ (y z : List ℕ). y ++ 0x0D ∷ 0x0A ∷ z) (sym v.front) (sym v.back) in
      let g : v.before ≡ [] → last_is is_kept (toks i) ≡ false = λ z. f (t ∙ ap byte_length (sym (v.front ∙ ap (λ (y : List ℕ). texts i ++ y) z ∙ append-nil (texts i)))) in
      subst (λ (y : List ℕ). Over unicode profile j i y) x (crlf_chars c e v.before v.after k a h w b v.token g)

  crlf_bytes : (A B : List ℕ) (k : Token) (p q : List Token) → all is_scalar (A ++ 0x0A ∷ B) ≡ true → tokens unicode profile (A ++ 0x0A ∷ B) ≡ p ++ (k ∷ q) → k.kind ≡ whitespace_kind →
      total p ≤ byte_length A → byte_length A < total p + k.len → (total p ≡ byte_length A → last_is is_kept p ≡ false) →
      MadeOf (0x0D ∷ []) (encode_all (A ++ 0x0A ∷ B)) (encode_all (A ++ 0x0D ∷ 0x0A ∷ B)) × (members3 profile (encode_all (A ++ 0x0D ∷ 0x0A ∷ B)) ≡ members3 profile (encode_all (A ++ 0x0A ∷ B)))
  unfolding all is_scalar
  crlf_bytes A B k p q v h w m n f =
      let a = split unicode profile p (k ∷ q) (A ++ 0x0A ∷ B) h in
      let b = first_cut unicode profile k q a.left a.rest in
      let j = whole unicode profile b.left in
      let c : Cut profile a.items (A ++ 0x0A ∷ B) (b.head ∷ (b.text ++ b.left)) = rw b.is at a.cuts in
      let e = ap total a.same in
      let o = crlf_cut b.head b.text k A B c b.cut w j.cuts refl (omega arith) (omega arith) (λ z. ap (last_is is_kept) a.same ∙ f (sym e ∙ z)) in
      let d : Cut profile (a.items ++ (k, b.head ∷ b.text) ∷ j.items) (A ++ 0x0A ∷ B) [] = cuts_join unicode profile c (more refl b.cut j.cuts) in
      let s : counted o.new ≡ counted (a.items ++ (k, b.head ∷ b.text) ∷ j.items) = o.same ∙ sym (counted_join a.items ((k, b.head ∷ b.text) ∷ j.items) ∙ ap (λ (y : List Item). counted a.items ++ y) (white_uncounted j.items k (b.head ∷ b.text) w)) in
      let g = with_more profile A (0x0D ∷ []) (0x0A ∷ B) refl refl in
      (made_of (0x0D ∷ []) (A ++ 0x0A ∷ B) (A ++ 0x0D ∷ 0x0A ∷ B) refl v g, same_bytes profile d o.cuts v (g is_scalar refl v) s)

  -- a CR put before an LF in white space that ends no Pragma and no Annotation
  pub crlf : (a b : List ℕ) → WellFormed a → WellFormed (a ++ 0x0A ∷ b) → LfIn (tokens3 profile) a b → MadeOf (0x0D ∷ []) (a ++ 0x0A ∷ b) (a ++ 0x0D ∷ 0x0A ∷ b) × (members3 profile (a ++ 0x0D ∷ 0x0A ∷ b) ≡ members3 profile (a ++ 0x0A ∷ b))
  unfolding tokens3 encode_all encode
  crlf a b f g p =
      let A = well_formed_encoded a f in
      let L = well_formed_encoded (a ++ 0x0A ∷ b) g in
      let B : List ℕ = chars b in
      let n : byte_length A.of ≡ length a = sym (ap length A.same ∙ encode_bytes A.of A.scalars) in
      let v : chars (a ++ 0x0A ∷ b) ≡ A.of ++ 0x0A ∷ B = read_front a (0x0A ∷ b) A ∙ ap (λ (z : List ℕ). A.of ++ z) (chars_ascii 0x0A b (omega arith)) in
      let l : L.of ≡ A.of ++ 0x0A ∷ B = sym (ap chars L.same ∙ read_all L.of L.scalars) ∙ v in
      let w : a ++ 0x0A ∷ b ≡ encode_all A.of ++ 0x0A ∷ encode_all B = L.same ∙ ap encode_all l ∙ encode_append A.of (0x0A ∷ B) in
      let c : encode_all B ≡ b = ap tail (append_cancel a (0x0A ∷ encode_all B) (0x0A ∷ b) (ap (λ (z : List ℕ). z ++ 0x0A ∷ encode_all B) A.same ∙ sym w)) in
      let x : encode_all (A.of ++ 0x0A ∷ B) ≡ a ++ 0x0A ∷ b = encode_append A.of (0x0A ∷ B) ∙ ap₂ (λ (y z : List ℕ). y ++ 0x0A ∷ z) (sym A.same) c in
      let y : encode_all (A.of ++ 0x0D ∷ 0x0A ∷ B) ≡ a ++ 0x0D ∷ 0x0A ∷ b = encode_append A.of (0x0D ∷ 0x0A ∷ B) ∙ ap₂ (λ (y z : List ℕ). y ++ 0x0D ∷ 0x0A ∷ z) (sym A.same) c in
      let r = crlf_bytes A.of B p.token p.before p.behind (ap (all is_scalar) (sym l) ∙ L.scalars) (ap (tokens unicode profile) (sym v) ∙ p.is) p.white
      (omega (arith, p.starts)) (omega (arith, p.ends)) (λ z. p.free (z ∙ n)) in
      (rw (x, y) at r.0, rw (x, y) at r.1)
