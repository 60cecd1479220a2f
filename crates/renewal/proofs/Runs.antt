-- The tokens at the front of a text, of any cutter, and what they add to the key.
-- Assumes nothing.
use Prim.Native.Nat.{ℕ, zero, suc, ◌+◌, ◌*◌, ◌≤◌}
use native.Mathlib.Omega.{arith}
use mathlib.Core.Path.{◌≡◌, refl, ap, sym, ◌∙◌}
use mathlib.Core.Bool.{Bool, true, false, cond, not}
use mathlib.Core.List.{List, [], ◌∷◌, ◌++◌, append_assoc}
use lib.Dec.{eqb}
use lib.ListN.{length, take, drop, length-append, length-drop}
use lib.Seq.{length-take-le, drop-drop}
use Rattle.lists.proofs.Cut.{by_length}
use Rattle.text.specs.Answer.{longest}
use Rattle.cutters.specs.Records.{Token, total}
use Rattle.cutters.proofs.Cutter.{cut_none, cut_first}
use Rattle.tokens.specs.Members.{is_counted, member_of, counted, members_by}
use Rattle.renewal.specs.Key.{no_body, body_length, encode, key_of, key_by}
use Rattle.renewal.specs.Rules.{Ruled, Keyable}
use Rattle.renewal.specs.Steps.{member, entry, entries}
use Rattle.renewal.proofs.Writing.{entry_few}

-- ---- one token of the key
key_cons : (s : List ℕ) (t : Token) (ts : List Token) → t.len ≤ length s → eqb (body_length t.kind) no_body ≡ not (is_counted t.kind) →
    key_of (counted s (t ∷ ts)) ≡ entry (member t.kind t.suffix (take t.len s)) ++ key_of (counted (drop t.len s) ts)
unfolding counted key_of entry
key_cons s t ts l k =
    let e : length (take t.len s) ≡ t.len = length-take-le t.len s l in
    rw (k, e) (go (is_counted t.kind))
  where
    go : (b : Bool) → key_of (elim b [ true ↦ member_of s t ∷ counted (drop t.len s) ts | false ↦ counted (drop t.len s) ts ])
        ≡ cond (not b) [] (encode (member_of s t)) ++ key_of (counted (drop t.len s) ts)
    go true = refl
    go false = refl

-- ---- the tokens at the front, as many as are taken
-- how much of the text they are, what they add to the key, which goes on with the key of what is left, and how much that is at most
pub record Taken (cutter : List ℕ → List Token) (s : List ℕ) (ts : List Token) : Type 0 where
  pub within : total ts ≤ length s
  pub view : key_by cutter s ≡ entries s ts ++ key_by cutter (drop (total ts) s)
  pub few : length (entries s ts) ≤ 11 * total ts

-- ---- the first token of a text that is not empty, and the tokens of what is left
pub record First (cutter : List ℕ → List Token) (s : List ℕ) : Type 0 where
  pub token : Token
  pub some : 1 ≤ token.len
  pub within : token.len ≤ length s
  pub view : cutter s ≡ token ∷ cutter (drop token.len s)
  pub known : eqb (body_length token.kind) no_body ≡ not (is_counted token.kind)
  pub ruled : (length s ≤ longest → is_counted token.kind ≡ true → Ruled (member_of s token))

module _ {cutter : List ℕ → List Token} (k : Keyable cutter) where
  pub none_of : cutter [] ≡ []
  none_of = k.cuts [] ∙ cut_none k.cutter

  pub first_of : (a : ℕ) (s : List ℕ) → First cutter (a ∷ s)
  first_of a s =
      let c = k.cutter in
      let t = c.next a s in
      record {
        token = t;
        some = c.some a s;
        within = c.within a s;
        view = k.cuts (a ∷ s) ∙ cut_first c a s ∙ ap (λ (l : List Token). t ∷ l) (sym (k.cuts (drop t.len (a ∷ s))));
        known = k.known a s;
        ruled = k.ruled a s;
      }

  -- the first adds at most eleven bytes for each of its own
  module _ {s : List ℕ} (f : First cutter s) where
    abbrev t : Token
    t = f.token

    abbrev adds : List ℕ
    adds = entry (member t.kind t.suffix (take t.len s))

    key_first : key_by cutter s ≡ adds ++ key_by cutter (drop t.len s)
    unfolding key_by members_by
    key_first = rw f.view (key_cons s t (cutter (drop t.len s)) f.within f.known)

    adds_few : length adds ≤ 11 * t.len
    adds_few =
        let n : length (take t.len s) ≡ t.len = length-take-le t.len s f.within in
        omega (arith, entry_few t.kind t.suffix (take t.len s) (omega (arith, f.some)))

    taken_first : {ts : List Token} → Taken cutter (drop t.len s) ts → Taken cutter s (t ∷ ts)
    unfolding entries
    taken_first {ts} r =
        let far : drop (total ts) (drop t.len s) ≡ drop (t.len + total ts) s = drop-drop (total ts) t.len s in
        let rest = entries (drop t.len s) ts in
        record {
          within = omega (arith, f.within, r.within, length-drop t.len s);
          view = key_first ∙ ap (λ (l : List ℕ). adds ++ l) r.view ∙ sym (append_assoc adds rest (key_by cutter (drop (total ts) (drop t.len s)))) ∙ rw far;
          few = omega (arith, length-append adds rest, adds_few, r.few);
        }

  taken_none : (s : List ℕ) → Taken cutter s []
  unfolding entries
  taken_none s = record { within = omega arith; view = refl; few = omega arith }

  pub taken : (m : ℕ) (s : List ℕ) → Taken cutter s (take m (cutter s))
  taken zero s = taken_none s
  taken (suc m) [] = rw none_of (taken_none [])
  taken (suc m) (a ∷ s) =
      let f = first_of a s in
      rw f.view (taken_first f (taken m (drop f.token.len (a ∷ s))))

  -- one at least, of one byte at least, where there is text
  pub taken_some : (m : ℕ) (s : List ℕ) → 1 ≤ length s → 1 ≤ total (take (suc m) (cutter s))
  taken_some m [] h = absurd (omega arith)
  taken_some m (a ∷ s) h = let f = first_of a s in rw f.view (omega (arith, f.some))

  -- all of them: at most eleven bytes for each byte of the text
  pub key_few_by : (s : List ℕ) → length (key_by cutter s) ≤ 11 * length s
  unfolding key_by members_by counted key_of
  key_few_by =
      by_length (λ (s : List ℕ). length (key_by cutter s) ≤ 11 * length s) (rw none_of (omega arith))
      (λ a s ih.
      let f = first_of a s in
      let n = f.token.len in
      omega (arith, ap length (key_first f), length-append (adds f) (key_by cutter (drop n (a ∷ s))), adds_few f, f.some, f.within, ih (drop n (a ∷ s)) (omega (arith, f.some, length-drop n (a ∷ s))), length-drop n (a ∷ s)))
