-- The counted tokens of a text of bytes, by the cuts of its characters, and what characters a text is made of.
-- Assumes nothing.
use Prim.Native.Nat.{ℕ}
use mathlib.Core.Path.{◌≡◌, refl, ap, ap₂, sym, ◌∙◌}
use mathlib.Core.Bool.{Bool, true}
use mathlib.Core.List.{List, [], ◌∷◌, ◌++◌, append-nil}
use lib.ListN.{length, drop}
use lib.Seq.{take_at, drop_at}
use Rattle.lists.specs.All.{all}
use Rattle.lists.proofs.All.{all_append}
use Rattle.lists.proofs.Bools.{by_test}
use Rattle.characters.specs.Utf8.{chars, is_scalar, encode_all}
use Rattle.characters.proofs.Valid.{encoded_well_formed, encode_append, encode_bytes, read_all}
use Rattle.cutters.specs.Records.{Token}
use Rattle.lexer.specs.Cut.{Letters, tokens}
use Rattle.lexer.specs.Unicode.{unicode}
use Rattle.lexer.specs.Promises.{tokens3}
use Rattle.lexer.proofs.Shapes.{tokens_nil}
use Rattle.tokens.specs.Members.{Member, is_counted, counted as members, members_by, members3}
use Rattle.locality.specs.Newline.{MadeOf}
use Rattle.locality.proofs.Cuts.{Item, counted, toks, Cuts, none, more, cuts_tokens, cut_length}

-- ---- tokens with their bytes
abbrev member : Item → Member
member i = record { kind = i.0.kind; len = i.0.len; suffix = i.0.suffix; bytes = encode_all i.1 }

unfoldable pub written : List Item → List Member
written [] = []
written (i ∷ is) = member i ∷ written is

module _ (u : Letters) (profile : ℕ) where
  cuts_bytes : {i : List Item} {l z : List ℕ} → Cuts u profile i l z → all is_scalar l ≡ true → members (encode_all l) (toks i) ≡ written (counted i)
  unfolding members counted written
  cuts_bytes none a = refl
  cuts_bytes (more {i = i} {k = k} {c = c} {e = e} {r = r} h x rest) a =
      let b = all_append is_scalar (c ∷ e) r (ap (all is_scalar) (sym h) ∙ a) in
      let n : length (encode_all (c ∷ e)) ≡ k.len = encode_bytes (c ∷ e) b.0 ∙ sym (cut_length u profile c e r k x) in
      let ih : members (drop k.len (encode_all (c ∷ e) ++ encode_all r)) (toks i) ≡ written (counted i) = rw (drop_at (encode_all (c ∷ e)) (encode_all r) k.len n) (cuts_bytes rest b.1) in
      rw (h, encode_append (c ∷ e) r)
      (by_test (is_counted k.kind) (λ t. rw (t, members) (ap₂ (λ (y : List ℕ) (z : List Member). record { kind = k.kind; len = k.len; suffix = k.suffix; bytes = y } ∷ z) (take_at (encode_all (c ∷ e)) (encode_all r) k.len n) ih)) (λ t. rw (t, members) ih))

pub counted_of : (profile : ℕ) {i : List Item} {l : List ℕ} → Cuts unicode profile i l [] → all is_scalar l ≡ true → members3 profile (encode_all l) ≡ written (counted i)
unfolding members3 members_by tokens3
counted_of profile {i} {l} c h =
    let t : tokens unicode profile (chars (encode_all l)) ≡ toks i =
    ap (tokens unicode profile) (read_all l h) ∙ cuts_tokens unicode profile c ∙ ap (λ (y : List Token). toks i ++ y) (tokens_nil unicode profile) ∙ append-nil (toks i) in
    rw t (cuts_bytes unicode profile c h)

-- a text of characters l, and one of characters each of which is one of l or of `extra`
pub made_of : (extra l m : List ℕ) → all is_scalar extra ≡ true → all is_scalar l ≡ true → ((p : ℕ → Bool) → all p extra ≡ true → all p l ≡ true → all p m ≡ true) → MadeOf extra (encode_all l) (encode_all m)
made_of extra l m g h e =
    let k = e is_scalar g h in
    record { good = encoded_well_formed m k; each = λ p q r. rw (read_all m k) (e p q (rw (read_all l h) at r)) }
