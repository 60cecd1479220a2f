-- HANDED OUT, EXACTLY: a token of the whole characters so far has been handed out exactly where two whole characters or more stand behind it. (What is handed
-- out are the first so many of these tokens: `handed_out`.)
-- Assumes nothing.
use Prim.Native.Nat.{ℕ, suc, ◌+◌, ◌-◌, ◌≤◌, ◌<◌}
use native.Mathlib.Omega.{arith}
use mathlib.Core.Path.{◌≡◌, refl, ap, ap₂, sym, ◌∙◌}
use mathlib.Core.Logic.{◌↔◌}
use mathlib.Core.Bool.{true}
use mathlib.Core.List.{List, [], ◌∷◌, ◌++◌, append_assoc, append-nil}
use lib.Dec.{leb}
use lib.ListN.{length, drop, length-append}
use borrow.Author.Tests.{le-leb, leb-true}
use Rattle.lists.proofs.Bools.{by_test}
use Rattle.characters.specs.Utf8.{chars}
use Rattle.characters.specs.Text.{byte_length}
use Rattle.characters.proofs.Text.{chars_behind}
use Rattle.characters.proofs.Valid.{width_some}
use Rattle.cutters.specs.Records.{Token, total}
use Rattle.cutters.proofs.Records.{total_append}
use Rattle.lexer.specs.Unicode.{unicode}
use Rattle.lexer.specs.Promises.{tokens_of, tokens3, profile3}
use Rattle.lexer.proofs.Places.{known3}
use Rattle.locality.proofs.Cuts as cuts
use Rattle.locality.proofs.Cuts.{Item, texts, Cuts, cuts_text, split, total_bytes, begins}
use Rattle.feeding.specs.Begun.{whole}
use Rattle.feeding.specs.History.{within, but_two, settled}
use Rattle.feeding.proofs.Fed.{toks}
use Rattle.feeding.proofs.History.{out}
use Rattle.feeding.proofs.HandedOut.{handed_out}

-- ---- a front lies before the last two characters exactly where two or more are behind it
front_two : (f : List ℕ) (x y : ℕ) (r : List ℕ) → byte_length f ≤ but_two (f ++ x ∷ y ∷ r)
unfolding but_two byte_length
front_two [] x y r = omega arith
front_two (c ∷ []) x y r = omega arith
front_two (c ∷ d ∷ []) x y r = omega (arith, front_two (d ∷ []) x y r)
front_two (c ∷ d ∷ e ∷ f) x y r = omega (arith, front_two (d ∷ e ∷ f) x y r)

two_none : (c : ℕ) (f : List ℕ) → but_two (c ∷ f) < byte_length (c ∷ f)
unfolding but_two byte_length
two_none c [] = omega (arith, width_some c)
two_none c (d ∷ []) = omega (arith, width_some c)
two_none c (d ∷ e ∷ f) = omega (arith, two_none d (e ∷ f))

two_one : (c : ℕ) (f : List ℕ) (x : ℕ) → but_two (c ∷ (f ++ x ∷ [])) < byte_length (c ∷ f)
unfolding but_two byte_length
two_one c [] x = omega (arith, width_some c)
two_one c (d ∷ []) x = omega (arith, two_one d [] x, width_some d)
two_one c (d ∷ e ∷ f) x = omega (arith, two_one d (e ∷ f) x)

two_long : (c : ℕ) (f r : List ℕ) → byte_length (c ∷ f) ≤ but_two (c ∷ (f ++ r)) → 2 ≤ length r
two_long c f [] h = absurd (omega (arith, two_none c f, ap (λ (y : List ℕ). but_two (c ∷ y)) (append-nil f)))
two_long c f (x ∷ []) h = absurd (omega (arith, two_one c f x))
two_long c f (x ∷ y ∷ r) h = omega arith

long_two : (f r : List ℕ) → 2 ≤ length r → byte_length f ≤ but_two (f ++ r)
long_two f [] h = absurd (omega arith)
long_two f (x ∷ []) h = absurd (omega arith)
long_two f (x ∷ y ∷ r) h = front_two f x y r

-- ---- which tokens lie within n bytes
within_more : (n : ℕ) (a : List Token) (t : Token) (b : List Token) → total a + t.len ≤ n → length a < length (within n (a ++ t ∷ b))
unfolding within
within_more n [] t b h = rw (le-leb t.len n (omega arith)) (omega arith)
within_more n (k ∷ a) t b h = rw (le-leb k.len n (omega arith)) (omega (arith, within_more (n - k.len) a t b (omega arith)))

within_less : (n : ℕ) (a : List Token) (t : Token) (b : List Token) → length a < length (within n (a ++ t ∷ b)) → total a + t.len ≤ n
unfolding within
within_less n [] t b h = by_test (leb t.len n) (λ e. omega (arith, leb-true t.len n e)) (λ e. absurd (omega (arith, rw e at h)))
within_less n (k ∷ a) t b h =
    by_test (leb k.len n)
    (λ e.
    let i : suc (length a) < suc (length (within (n - k.len) (a ++ t ∷ b))) = rw e at h in
    omega (arith, leb-true k.len n e, within_less (n - k.len) a t b (omega arith)))
    (λ e. absurd (omega (arith, rw e at h)))

-- a token has at least one character
some_text : (p : ℕ) (items : List Item) (l z : List ℕ) → Cuts unicode p items l z → 1 ≤ length items → 1 ≤ length (texts items)
unfolding texts
some_text p [] l z c h = absurd (omega arith)
some_text p (j ∷ i) l z c h = let g = begins unicode p c in omega (arith, ap (λ (y : List ℕ). length (y ++ texts i)) g.text)

toks_long : (items : List Item) → length (cuts.toks items) ≡ length items
toks_long [] = refl
toks_long (j ∷ i) = ap suc (toks_long i)

by_front : (f r : List ℕ) (n : ℕ) → 1 ≤ length f → n ≡ byte_length f → (2 ≤ length r) ↔ (n ≤ but_two (f ++ r))
by_front [] r n h e = absurd (omega arith)
by_front (c ∷ f) r n h e = ((λ g. omega (arith, long_two (c ∷ f) r g)), (λ g. two_long c f r (omega arith)))

-- EXACTLY
pub handed_exactly : (p : ℕ) → profile3 p ≡ true → (s : List ℕ) (a : List Token) (t : Token) (b : List Token) → tokens_of p (whole s) ≡ a ++ t ∷ b →
    (2 ≤ length (chars (drop (total a + t.len) (whole s)))) ↔ (length a < length (toks (out p s)))
unfolding tokens3 settled
handed_exactly p known s a t b h =
    let l = chars (whole s) in
    let n = total a + t.len in
    let w = split unicode p (a ++ t ∷ []) b l (sym (known3 p (whole s) known) ∙ h ∙ sym (append_assoc a (t ∷ []) b)) in
    let f = texts w.items in
    let r = w.left in
    let e : l ≡ f ++ r = cuts_text unicode p w.cuts in
    let z : total (a ++ t ∷ []) ≡ n = total_append a (t ∷ []) ∙ omega arith in
    let k : n ≡ byte_length f = omega (arith, total_bytes unicode p w.cuts, ap total w.same, z) in
    let m : 1 ≤ length w.items = omega (arith, toks_long w.items, ap length w.same, length-append a (t ∷ [])) in
    let v : chars (drop n (whole s)) ≡ r = ap (λ (y : ℕ). chars (drop y (whole s))) k ∙ chars_behind f r (whole s) e in
    let g = by_front f r n (some_text p w.items l r w.cuts m) k in
    let u : toks (out p s) ≡ within (but_two (f ++ r)) (a ++ t ∷ b) = handed_out p known s ∙ ap₂ (λ (x : List ℕ) (y : List Token). within (but_two x) y) e h in (
      (λ i. omega (arith, ap length u, within_more (but_two (f ++ r)) a t b (g.0 (omega (arith, ap length v))))),
      (λ i. omega (arith, ap length v, g.1 (within_less (but_two (f ++ r)) a t b (omega (arith, ap length u))))),
    )
