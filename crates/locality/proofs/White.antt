-- White space: its characters, its tokens, and that in front of a text it changes none of the counted tokens.
-- Assumes nothing.
use Prim.Native.Nat.{ℕ, ◌-◌}
use native.Mathlib.Omega.{arith}
use mathlib.Core.Path.{◌≡◌, refl, ap, sym, ◌∙◌}
use mathlib.Core.Bool.{true, false, false≢true}
use mathlib.Core.List.{List, [], ◌∷◌, ◌++◌, append_assoc}
use lib.Dec.{eqb}
use lib.ListN.{length, length-append}
use borrow.Author.Tests.{eqb-true}
use Rattle.lists.proofs.Bools.{by_test}
use Rattle.characters.specs.Ranges.{in_table}
use Rattle.characters.specs.Text.{byte_length, skip}
use Rattle.characters.proofs.Text.{skip_nil, skip_more, skip_stop}
use Rattle.letters.specs.Chars.{is_whitespace, whitespace}
use Rattle.cutters.specs.Kinds.{whitespace_kind}
use Rattle.cutters.specs.Records.{Token}
use Rattle.lexer.specs.Cut.{Letters, advance, next_token}
use Rattle.tokens.specs.Members.{is_counted}
use Rattle.locality.proofs.Counted.{white_first}
use Rattle.locality.proofs.Cuts.{Item, counted, Cuts, none, more, Over, over_self}

pub white_uncounted : (i : List Item) (k : Token) (w : List ℕ) → k.kind ≡ whitespace_kind → counted ((k, w) ∷ i) ≡ counted i
unfolding counted is_counted
white_uncounted i k w h = rw h

-- ---- characters of white space
pub data White : List ℕ → Type 0 where
  white_none : White []
  white_more : {c : ℕ} {w : List ℕ} → is_whitespace c ≡ true → White w → White (c ∷ w)

pub lf_white : is_whitespace 0x0A ≡ true
unfolding whitespace in_table
lf_white = refl

pub cr_white : is_whitespace 0x0D ≡ true
unfolding whitespace in_table
cr_white = refl

pub white_join : {v w : List ℕ} → White v → White w → White (v ++ w)
white_join white_none y = y
white_join (white_more h x) y = white_more h (white_join x y)

skip_white : {w : List ℕ} (r : List ℕ) → White w → skip is_whitespace (w ++ r) ≡ skip is_whitespace r
skip_white r white_none = refl
skip_white r (white_more {c = c} {w = w} h x) = skip_more is_whitespace c (w ++ r) h ∙ skip_white r x

pub all_white : (e r : List ℕ) → skip is_whitespace (e ++ r) ≡ r → White e
all_white [] r h = white_none
all_white (d ∷ e) r h =
    let ih : skip is_whitespace (e ++ r) ≡ r → White e = λ z. all_white e r z in
    by_test (is_whitespace d) (λ s. white_more s (ih (sym (skip_more is_whitespace d (e ++ r) s) ∙ h)))
    (λ s. absurd (omega (arith, ap length (sym (skip_stop is_whitespace d (e ++ r) s) ∙ h), length-append e r)))

-- what is no white space is no character of it
pub white_isnt : (x d : ℕ) → is_whitespace x ≡ true → is_whitespace d ≡ false → eqb x d ≡ false
white_isnt x d h n = by_test (eqb x d) (λ e. absurd (false≢true (sym n ∙ ap is_whitespace (sym (eqb-true x d e)) ∙ h))) (λ e. e)

module _ (u : Letters) (profile : ℕ) where
  -- ---- white space in front
  pub next_white : (c : ℕ) (t : List ℕ) → is_whitespace c ≡ true →
      next_token u profile c t ≡ (record { kind = whitespace_kind; len = byte_length (c ∷ t) - byte_length (skip is_whitespace t); suffix = byte_length (c ∷ t) - byte_length (c ∷ t) }, skip is_whitespace t)
  unfolding next_token advance whitespace in_table
  next_white c t h = rw (white_isnt c 0x2F h refl, h)

  -- one token of white space, that reaches to r
  lead : {j i : List Item} {l r : List ℕ} (c : ℕ) (e : List ℕ) → is_whitespace c ≡ true → l ≡ c ∷ (e ++ r) → skip is_whitespace (e ++ r) ≡ r → Cuts u profile i r [] → counted i ≡ counted j → Over u profile j [] l
  unfolding counted
  lead {j} {i} {l} {r} c e h q s x z =
      let k : Token = record { kind = whitespace_kind; len = byte_length (c ∷ (e ++ r)) - byte_length (skip is_whitespace (e ++ r)); suffix = byte_length (c ∷ (e ++ r)) - byte_length (c ∷ (e ++ r)) } in
      record { new = (k, c ∷ e) ∷ i; cuts = more q (next_white c (e ++ r) h ∙ ap (λ (y : List ℕ). (k, y)) s) x; same = white_uncounted i k (c ∷ e) refl ∙ z }

  pub spaces : {j : List Item} {r : List ℕ} (c : ℕ) (w : List ℕ) → is_whitespace c ≡ true → White w → Cuts u profile j r [] → Over u profile j [] (c ∷ (w ++ r))
  spaces c w h x none = lead c w h refl (skip_white [] x ∙ skip_nil is_whitespace) none refl
  spaces {r = r} c w h x (more {i = i} {k = k} {c = d} {e = e} {r = t} q y rest) =
      by_test (is_whitespace d)
      (λ s.
      let z = sym (next_white d (e ++ t) s) ∙ y in
      let a : whitespace_kind ≡ k.kind = ap (λ (v : Token × List ℕ). v.0.kind) z in
      let b : skip is_whitespace (e ++ t) ≡ t = ap (λ (v : Token × List ℕ). v.1) z in
      let m : w ++ r ≡ (w ++ d ∷ e) ++ t = ap (λ (v : List ℕ). w ++ v) q ∙ sym (append_assoc w (d ∷ e) t) in
      lead c (w ++ d ∷ e) h (ap (λ (v : List ℕ). c ∷ v) m)
      (ap (skip is_whitespace) (append_assoc w (d ∷ e) t) ∙ skip_white (d ∷ e ++ t) x ∙ skip_more is_whitespace d (e ++ t) s ∙ b) rest (sym (white_uncounted i k (d ∷ e) (sym a))))
      (λ s. lead c w h refl (skip_white r x ∙ ap (skip is_whitespace) q ∙ skip_stop is_whitespace d (e ++ t) s ∙ sym q) (more q y rest) refl)

  -- the kind of a token, and what white space was eaten
  pub kind_white : (c : ℕ) (t z : List ℕ) (k : Token) → next_token u profile c t ≡ (k, z) → k.kind ≡ whitespace_kind → is_whitespace c ≡ true
  unfolding next_token
  kind_white c t z k h e = white_first u profile c t (ap (λ (v : Token × List ℕ). v.0.kind) h ∙ e)

  -- in front of a text
  pub over_white : {j : List Item} {v r : List ℕ} → White v → Cuts u profile j r [] → Over u profile j [] (v ++ r)
  over_white white_none c = over_self u profile c
  over_white (white_more {c = d} {w = v} h x) c = spaces d v h x c
