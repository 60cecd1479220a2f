-- A text of characters cut into tokens, each with its characters: the cuts of a text and its tokens say the same.
-- Assumes nothing.
use Prim.Native.Nat.{ℕ, ◌-◌}
use native.Mathlib.Omega.{arith}
use mathlib.Core.Path.{◌≡◌, refl, ap, ap₂, sym, subst, ◌∙◌}
use mathlib.Core.Bool.{Bool, true, false, cond}
use mathlib.Core.List.{List, [], ◌∷◌, ◌++◌, append_assoc, append-nil, cons≢nil}
use Rattle.characters.specs.Text.{byte_length}
use Rattle.characters.proofs.Text.{bytes_append}
use Rattle.cutters.specs.Records.{Token, total}
use Rattle.lexer.specs.Cut.{Letters, advance, next_token, tokens}
use Rattle.lexer.proofs.Shapes.{ends_advance, tokens_nil, tokens_cons}
use Rattle.tokens.specs.Members.{is_counted}

-- a token's record and its characters
abbrev pub Item : Type 0
Item = Token × List ℕ

-- those that count
unfoldable pub counted : List Item → List Item
counted [] = []
counted (i ∷ is) = cond (is_counted i.0.kind) (i ∷ counted is) (counted is)

-- the characters of tokens, one after the other
unfoldable pub texts : List Item → List ℕ
texts [] = []
texts (i ∷ is) = i.1 ++ texts is

abbrev pub toks : List Item → List Token
toks [] = []
toks (i ∷ is) = i.0 ∷ toks is

pub counted_join : (i j : List Item) → counted (i ++ j) ≡ counted i ++ counted j
unfolding counted
counted_join [] j = refl
counted_join (x ∷ i) j = both (is_counted x.0.kind) (counted_join i j)
  where
    both : (b : Bool) → counted (i ++ j) ≡ counted i ++ counted j → cond b (x ∷ counted (i ++ j)) (counted (i ++ j)) ≡ cond b (x ∷ counted i) (counted i) ++ counted j
    both true e = ap (λ (y : List Item). x ∷ y) e
    both false e = e

module _ (u : Letters) (profile : ℕ) where
  -- l is cut into these tokens, each with its characters, and z is left
  pub data Cuts : List Item → List ℕ → List ℕ → Type 0 where
    none : {l : List ℕ} → Cuts [] l l
    more : {l z : List ℕ} {i : List Item} {k : Token} {c : ℕ} {e r : List ℕ} → l ≡ c ∷ (e ++ r) → next_token u profile c (e ++ r) ≡ (k, r) → Cuts i r z → Cuts ((k, c ∷ e) ∷ i) l z

  -- what is cut off, and what is left, are the whole
  pub cuts_text : {i : List Item} {l z : List ℕ} → Cuts i l z → l ≡ texts i ++ z
  unfolding texts
  cuts_text none = refl
  cuts_text (more {z = z} {i = i} {c = c} {e = e} {r = r} h x rest) =
      h ∙ ap (λ (y : List ℕ). c ∷ (e ++ y)) (cuts_text rest) ∙ ap (λ (y : List ℕ). c ∷ y) (sym (append_assoc e (texts i) z))

  pub cuts_join : {i j : List Item} {l m z : List ℕ} → Cuts i l m → Cuts j m z → Cuts (i ++ j) l z
  cuts_join none y = y
  cuts_join (more h x rest) y = more h x (cuts_join rest y)

  -- how a cut text begins
  pub record Begins (j : Item) (i : List Item) (l z : List ℕ) : Type 0 where
    pub head : ℕ
    pub behind : List ℕ
    pub text : j.1 ≡ head ∷ behind
    pub whole : l ≡ head ∷ ((behind ++ texts i) ++ z)

  pub begins : {j : Item} {i : List Item} {l z : List ℕ} → Cuts (j ∷ i) l z → Begins j i l z
  begins (more {z = z} {i = i} {c = c} {e = e} h x rest) =
      record { head = c; behind = e; text = refl; whole = h ∙ ap (λ (y : List ℕ). c ∷ (e ++ y)) (cuts_text rest) ∙ ap (λ (y : List ℕ). c ∷ y) (sym (append_assoc e (texts i) z)) }

  -- ---- the cuts of a text, by its tokens
  pub record Split (p q : List Token) (l : List ℕ) : Type 0 where
    pub items : List Item
    pub left : List ℕ
    pub cuts : Cuts items l left
    pub same : toks items ≡ p
    pub rest : tokens u profile left ≡ q

  -- the first of them
  pub record First (k : Token) (q : List Token) (l : List ℕ) : Type 0 where
    pub head : ℕ
    pub text : List ℕ
    pub left : List ℕ
    pub is : l ≡ head ∷ (text ++ left)
    pub cut : next_token u profile head (text ++ left) ≡ (k, left)
    pub rest : tokens u profile left ≡ q

  pub first_cut : (k : Token) (q : List Token) (l : List ℕ) → tokens u profile l ≡ k ∷ q → First k q l
  unfolding next_token
  first_cut k q [] h = absurd (cons≢nil (sym h ∙ tokens_nil u profile))
  first_cut k q (c ∷ t) h =
      let r = (advance u profile c t).rest in
      let d = ends_advance u profile c t in
      let e : (next_token u profile c t).0 ∷ tokens u profile r ≡ k ∷ q = sym (tokens_cons u profile c t) ∙ h in
      let a : (next_token u profile c t).0 ≡ k = cc in
      let b : tokens u profile r ≡ q = cc in
      let f : next_token u profile c t ≡ (k, r) = ap (λ (x : Token). (x, r)) a in
      record { head = c; text = d.front; left = r; is = ap (λ (x : List ℕ). c ∷ x) d.is; cut = subst (λ (x : List ℕ). next_token u profile c x ≡ (k, r)) d.is f; rest = b }

  pub split : (p q : List Token) (l : List ℕ) → tokens u profile l ≡ p ++ q → Split p q l
  split [] q l h = record { items = []; left = l; cuts = none; same = refl; rest = h }
  split (k ∷ p) q l h =
      let f = first_cut k (p ++ q) l h in
      let s = split p q f.left f.rest in
      record { items = (k, f.head ∷ f.text) ∷ s.items; left = s.left; cuts = more f.is f.cut s.cuts; same = ap (λ (x : List Token). k ∷ x) s.same; rest = s.rest }

  -- and its tokens, by its cuts
  pub cuts_tokens : {i : List Item} {l z : List ℕ} → Cuts i l z → tokens u profile l ≡ toks i ++ tokens u profile z
  unfolding next_token
  cuts_tokens none = refl
  cuts_tokens (more {z = z} {i = i} {k = k} {c = c} {e = e} {r = r} h x rest) =
      ap (tokens u profile) h ∙ tokens_cons u profile c (e ++ r)
      ∙ ap₂ (λ (y : Token) (v : List ℕ). y ∷ tokens u profile v) (ap (λ (y : Token × List ℕ). y.0) x) (ap (λ (y : Token × List ℕ). y.1) x)
      ∙ ap (λ (y : List Token). k ∷ y) (cuts_tokens rest)

  -- the length of a token
  pub cut_length : (c : ℕ) (e r : List ℕ) (k : Token) → next_token u profile c (e ++ r) ≡ (k, r) → k.len ≡ byte_length (c ∷ e)
  unfolding next_token byte_length
  cut_length c e r k h =
      let n : byte_length (c ∷ (e ++ r)) - byte_length (advance u profile c (e ++ r)).rest ≡ k.len = ap (λ (y : Token × List ℕ). y.0.len) h in
      let m : (advance u profile c (e ++ r)).rest ≡ r = ap (λ (y : Token × List ℕ). y.1) h in
      omega (arith, n, ap byte_length m, bytes_append e r)

  pub total_bytes : {i : List Item} {l z : List ℕ} → Cuts i l z → total (toks i) ≡ byte_length (texts i)
  unfolding texts byte_length
  total_bytes none = refl
  total_bytes (more {i = i} {k = k} {c = c} {e = e} {r = r} h x rest) =
      omega (arith, cut_length c e r k x, total_bytes rest, bytes_append e (texts i))

  -- ---- a text is cut to its end
  ended : (l : List ℕ) → tokens u profile l ≡ [] → l ≡ []
  ended [] h = refl
  ended (c ∷ t) h = absurd (cons≢nil (sym (tokens_cons u profile c t) ∙ h))

  pub record Whole (l : List ℕ) : Type 0 where
    pub items : List Item
    pub cuts : Cuts items l []
    pub same : tokens u profile l ≡ toks items

  pub whole : (l : List ℕ) → Whole l
  whole l =
      let s = split (tokens u profile l) [] l (sym (append-nil (tokens u profile l))) in
      record { items = s.items; cuts = rw (ended s.left s.rest) at s.cuts; same = sym s.same }

  -- ---- l is cut into tokens of which the counted ones are those of i and then those of j
  pub record Over (j i : List Item) (l : List ℕ) : Type 0 where
    pub new : List Item
    pub cuts : Cuts new l []
    pub same : counted new ≡ counted i ++ counted j

  pub one_more : {j i : List Item} {l m : List ℕ} (k : Token) (c : ℕ) (e : List ℕ) → l ≡ c ∷ (e ++ m) → next_token u profile c (e ++ m) ≡ (k, m) → Over j i m → Over j ((k, c ∷ e) ∷ i) l
  unfolding counted
  one_more {j} {i} k c e h x o = record { new = (k, c ∷ e) ∷ o.new; cuts = more h x o.cuts; same = both (is_counted k.kind) }
    where
      both : (b : Bool) → cond b ((k, c ∷ e) ∷ counted o.new) (counted o.new) ≡ cond b ((k, c ∷ e) ∷ counted i) (counted i) ++ counted j
      both true = ap (λ (y : List Item). (k, c ∷ e) ∷ y) o.same
      both false = o.same

  pub over_self : {j : List Item} {l : List ℕ} → Cuts j l [] → Over j [] l
  unfolding counted
  over_self {j} c = record { new = j; cuts = c; same = refl }

  -- ---- an uncounted token first
  pub over_first : {j : List Item} (c : ℕ) (t : List ℕ) → is_counted (advance u profile c t).kind ≡ false → Over j [] (advance u profile c t).rest → Over j [] (c ∷ t)
  unfolding counted next_token
  over_first {j} c t h o =
      let d = ends_advance u profile c t in
      let k = (next_token u profile c t).0 in
      record {
        new = (k, c ∷ d.front) ∷ o.new;
        cuts = more (ap (λ (y : List ℕ). c ∷ y) d.is) (subst (λ (y : List ℕ). next_token u profile c y ≡ (k, (advance u profile c t).rest)) d.is refl) o.cuts;
        same = rw h o.same;
      }
