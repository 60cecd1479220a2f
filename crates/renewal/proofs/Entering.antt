-- A run of tokens, whose words stand in a list, entered into the key token by token: to go on from here comes to the same.
-- Assumes nothing.
use Prim.Native.Nat.{ℕ, suc, ◌+◌, ◌-◌, ◌*◌, ◌≤◌, ◌<◌}
use native.Mathlib.Omega.{arith}
use native.Mathlib.Nat.{add-zero}
use mathlib.Core.Path.{◌≡◌, refl, ap, sym, ◌∙◌}
use mathlib.Core.Bool.{Bool}
use mathlib.Core.List.{List, [], ◌∷◌, ◌++◌}
use lib.ListN.{length, take, drop, get_or, length-append, length-take}
use lib.Seq.{drop-drop, get_or-drop}
use Rattle.lists.specs.Steps.{PutIf}
use Rattle.lists.proofs.Store.{StoringFrom, storing_from, storing_on, storing_put}
use Rattle.cutters.specs.Records.{Token, total, record_words, flat_from}
use Rattle.renewal.specs.Steps.{member, entry, toks, entries, Ready, RunReady}

-- what is still to be entered
abbrev pub onwards : List ℕ → List ℕ → ℕ → ℕ → ℕ → List ℕ
onwards text list count at i = entries (drop at text) (toks list i (count - i))

pub record Entering (write : Bool) (key₀ : List ℕ) (k : ℕ) (text : List ℕ) (from : ℕ) (list : List ℕ) (count at i n : ℕ) (key : List ℕ) : Type 0 where
  pub some : i ≤ count
  pub place : at + total (toks list i (count - i)) ≡ from + total (toks list 0 count)
  pub storing : StoringFrom k (entries (drop from text) (toks list 0 count)) write key₀ (onwards text list count at i) n key

pub entering_none : (write : Bool) (key : List ℕ) (k : ℕ) (text : List ℕ) (from : ℕ) (list : List ℕ) (count : ℕ) → Entering write key k text from list count from 0 k key
entering_none write key k text from list count =
    let z : count - 0 ≡ count = omega arith in
    record { some = omega arith; place = rw z; storing = rw z (storing_from k (entries (drop from text) (toks list 0 count)) write key) }

module _ {table key₀ text list key : List ℕ} {write : Bool} {k from count at i n : ℕ}
    (q : RunReady table write k text from list count key₀) (w : Entering write key₀ k text from list count at i n key) (h : i < count) where
  abbrev rest : List Token
  rest = toks list (suc i) (count - suc i)

  front : toks list i (count - i) ≡ record { kind = get_or list (record_words * i) 0; len = get_or list (record_words * i + 1) 0; suffix = get_or list (record_words * i + 2) 0 } ∷ rest
  unfolding toks
  front = let e : count - i ≡ suc (count - suc i) = omega arith in rw e

  module _ {end : ℕ} (u : end ≡ at + get_or list (record_words * i + 1) 0) where
    abbrev own : List ℕ
    own = entry (member (get_or list (record_words * i) 0) (get_or list (record_words * i + 2) 0) (take (end - at) (drop at text)))

    pub enter_within : end ≤ length text
    enter_within = omega (arith, w.place, q.within, ap total front)

    view : onwards text list count at i ≡ own ++ onwards text list count end (suc i)
    unfolding entries
    view =
        let m : get_or list (record_words * i + 1) 0 ≡ end - at = omega arith in
        let s : at + (end - at) ≡ end = omega arith in
        let far : drop (end - at) (drop at text) ≡ drop end text = drop-drop (end - at) at text ∙ rw s in
        ap (entries (drop at text)) front ∙ rw (m, far)

    long : length (onwards text list count at i) ≡ length own + length (onwards text list count end (suc i))
    long = ap length view ∙ length-append own (onwards text list count end (suc i))

    pub enter_ready : {kind suffix : ℕ} → kind ≡ get_or list (record_words * i) 0 → suffix ≡ get_or list (record_words * i + 2) 0 → Ready table write n kind suffix (take (end - at) (drop at text)) key
    enter_ready a b =
        rw (a, b)
        (record {
          table_is = q.table_is;
          short = omega (arith, enter_within, q.short, length-take (end - at) (drop at text));
          low = omega (arith, w.storing.count, q.low);
          room = λ t. omega (arith, w.storing.count, w.storing.long, q.room t, long);
        })

    pub enter_on : {kind suffix i' n' : ℕ} {key' : List ℕ} → kind ≡ get_or list (record_words * i) 0 → suffix ≡ get_or list (record_words * i + 2) 0 → i' ≡ i + 1 → PutIf write key n (entry (member kind suffix (take (end - at) (drop at text)))) key' n' → Entering write key₀ k text from list count end i' n' key'
    enter_on {kind} {suffix} {i'} {n'} {key'} a b c p₀ =
        let p : PutIf write key n own key' n' = rw (a, b) at p₀ in
        let e : i' ≡ suc i = omega arith in
        rw e
        (record {
          some = omega arith;
          place = omega (arith, w.place, ap total front);
          storing = storing_on (rw view at w.storing) p;
        })

pub enter_end : {key₀ text list key : List ℕ} {write : Bool} {k from count at i n : ℕ} → Entering write key₀ k text from list count at i n key → count ≤ i → PutIf write key₀ k (entries (drop from text) (toks list 0 count)) key n
unfolding entries toks
enter_end {key₀} {text} {list} {key} {write} {k} {from} {count} {at} {i} w h =
    let z : onwards text list count at i ≡ [] = (let e : count - i ≡ 0 = omega arith in rw e) in
    storing_put (rw z at w.storing)

-- ---- the words of a run are its tokens
pub toks_of : (s : List ℕ) (at : ℕ) (ts : List Token) (x list : List ℕ) (i : ℕ) → drop (record_words * i) list ≡ flat_from s at ts ++ x → toks list i (length ts) ≡ ts
unfolding toks flat_from
toks_of s at [] x list i e = refl
toks_of s at (t ∷ ts) x list i e =
    let k : get_or list (record_words * i) 0 ≡ t.kind = ap (λ (n : ℕ). get_or list n 0) (sym (add-zero (record_words * i))) ∙ sym (get_or-drop (record_words * i) list 0 0) ∙ ap (λ (l : List ℕ). get_or l 0 0) e in
    let m : get_or list (record_words * i + 1) 0 ≡ t.len = sym (get_or-drop (record_words * i) list 1 0) ∙ ap (λ (l : List ℕ). get_or l 1 0) e in
    let f : get_or list (record_words * i + 2) 0 ≡ t.suffix = sym (get_or-drop (record_words * i) list 2 0) ∙ ap (λ (l : List ℕ). get_or l 2 0) e in
    let n : record_words * suc i ≡ record_words * i + record_words = omega arith in
    let far : drop (record_words * suc i) list ≡ flat_from s (at + t.len) ts ++ x =
    ap (λ (n : ℕ). drop n list) n ∙ sym (drop-drop record_words (record_words * i) list) ∙ ap (drop record_words) e in
    rw (k, m, f, toks_of s (at + t.len) ts x list (suc i) far)
