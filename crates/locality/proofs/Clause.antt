-- THE NEWLINE CLAUSE, on characters and on bytes.
-- Assumes nothing.
use Prim.Native.Nat.{ℕ, ◌+◌, ◌≤◌, ◌<◌}
use native.Mathlib.Omega.{arith}
use mathlib.Core.Path.{◌≡◌, refl, ap, ap₂, sym, ◌∙◌}
use mathlib.Core.Bool.{Bool, true, false, not, false≢true}
use mathlib.Core.List.{List, [], ◌∷◌, ◌++◌, append_assoc}
use lib.Dec.{eqb}
use lib.ListN.{length, take, drop, length-append, length-take, length-drop}
use lib.Seq.{take_at, drop_at}
use borrow.Author.Tests.{eqb-true, not-true}
use Rattle.lists.specs.All.{all, Each}
use Rattle.lists.proofs.Bools.{by_test, both}
use Rattle.characters.specs.Ranges.{in_table}
use Rattle.ucd.specs.Ucd.{xid_start, xid_continue}
use Rattle.characters.specs.Utf8.{chars, is_scalar, encode, encode_all, WellFormed}
use Rattle.characters.specs.Text.{byte_length}
use Rattle.characters.proofs.Valid.{well_formed_encoded, encode_append, encode_bytes, read_all}
use Rattle.letters.specs.Chars.{is_whitespace, whitespace}
use Rattle.cutters.specs.Records.{Token, total}
use Rattle.cutters.proofs.Records.{total_append}
use Rattle.lexer.specs.Cut.{Letters, advance, next_token, tokens}
use Rattle.lexer.specs.Unicode.{unicode}
use Rattle.lexer.specs.Promises.{tokens3}
use Rattle.tokens.specs.Tiling.{Formed}
use Rattle.tokens.proofs.Tiling.{tiles}
use Rattle.locality.specs.Phases.{Usual}
use Rattle.tokens.specs.Members.{is_counted, members3}
use Rattle.locality.specs.Newline.{none_count, Run, MadeOf, with_newline}
use Rattle.locality.proofs.Newline.{NoUnit}
use Rattle.locality.proofs.Counted.{others_count}
use Rattle.locality.proofs.Cuts.{Item, counted, texts, toks, counted_join, Cuts, none, more, cuts_text, cuts_join, split, whole, total_bytes, Over}
use Rattle.locality.proofs.White.{white_isnt}
use Rattle.locality.proofs.Between.{newline}
use Rattle.lists.proofs.All.{all_append, all_join}
use Rattle.locality.proofs.Written.{written, counted_of, made_of}

-- ---- the letters of Unicode are usual
pub unicode_usual : Usual unicode
unfolding unicode xid_start xid_continue in_table all
unicode_usual = record { word = refl; no_start = refl; no_more = refl; cr_start = refl; cr_more = refl; no_nul = refl }

-- ---- a slash and white space are no letters of a unit
slash_unit : (x : ℕ) → eqb x 0x2F ≡ true → NoUnit x
slash_unit x h = rw (eqb-true x 0x2F h) (record { no_t = refl; no_s = refl; no_m = refl })

white_unit : (x : ℕ) → is_whitespace x ≡ true → NoUnit x
unfolding whitespace in_table
white_unit x h = record { no_t = white_isnt x 0x74 h refl; no_s = white_isnt x 0x73 h refl; no_m = white_isnt x 0x6D h refl }

none_counted : (w : List Item) → none_count (toks w) ≡ true → counted w ≡ []
unfolding all counted
none_counted [] h = refl
none_counted (x ∷ w) h =
    let a = both (not (is_counted x.0.kind)) (none_count (toks w)) h in
    rw (not-true (is_counted x.0.kind) a.0) (none_counted w a.1)

module _ (u : Letters) (usual : Usual u) (profile : ℕ) where
  -- the first character of an uncounted token
  first_unit : (c : ℕ) (t : List ℕ) → is_counted (advance u profile c t).kind ≡ false → NoUnit c
  first_unit c t h =
      by_test (eqb c 0x2F) (slash_unit c)
      (λ e. by_test (is_whitespace c) (white_unit c) (λ k. absurd (false≢true (sym h ∙ others_count u profile c t e k))))

  -- ---- how a run of uncounted tokens begins
  record Starts (l : List ℕ) : Type 0 where
    at : ℕ
    then : List ℕ
    is : l ≡ at ∷ then
    unit : NoUnit at

  starts : {w : List Item} {l z : List ℕ} → Cuts u profile w l z → 1 ≤ length (toks w) → none_count (toks w) ≡ true → Starts l
  unfolding all next_token
  starts none n h = absurd (omega arith)
  starts (more {i = i} {k = k} {c = c} {e = e} {r = r} q x rest) n h =
      let a = both (not (is_counted k.kind)) (none_count (toks i)) h in
      let b : is_counted (advance u profile c (e ++ r)).kind ≡ false = ap (λ (y : Token × List ℕ). is_counted y.0.kind) x ∙ not-true (is_counted k.kind) a.0 in
      record { at = c; then = e ++ r; is = q; unit = first_unit c (e ++ r) b }

  -- ---- THE NEWLINE CLAUSE on characters: tokens i, a run w of tokens that do not count, and behind it j
  pub newline_chars : {i w j : List Item} {l m r : List ℕ} → Cuts u profile i l m → Cuts u profile w m r → 1 ≤ length (toks w) → none_count (toks w) ≡ true →
      Cuts u profile j r [] → Over u profile (w ++ j) i (texts i ++ 0x0A ∷ r)
  newline_chars {i} {w} {j} {l} {m} {r} a b n h c =
      let s = starts b n h in
      let o = newline u usual profile s.at s.then r s.unit c (rw s.is at a) in
      record { new = o.new; cuts = o.cuts; same = o.same ∙ ap (λ (y : List Item). counted i ++ y) (sym (counted_join w j ∙ ap (λ (y : List Item). y ++ counted j) (none_counted w h))) }

-- ---- on bytes
-- the bytes of the new text
new_bytes : (x y r : List ℕ) (from to : ℕ) → all is_scalar (x ++ (y ++ r)) ≡ true → from ≡ byte_length x → to ≡ byte_length x + byte_length y → with_newline (encode_all (x ++ (y ++ r))) from to ≡ encode_all (x ++ 0x0A ∷ r)
unfolding with_newline encode_all encode
new_bytes x y r from to h e f =
    let a = all_append is_scalar x (y ++ r) h in
    let b = all_append is_scalar y r a.1 in
    let m : length (encode_all x) ≡ from = omega (arith, encode_bytes x a.0) in
    let n : length (encode_all x ++ encode_all y) ≡ to = omega (arith, length-append (encode_all x) (encode_all y), encode_bytes x a.0, encode_bytes y b.0) in
    let v : encode_all (x ++ (y ++ r)) ≡ encode_all x ++ encode_all (y ++ r) = encode_append x (y ++ r) in
    let w : encode_all (x ++ (y ++ r)) ≡ (encode_all x ++ encode_all y) ++ encode_all r =
    v ∙ ap (λ (z : List ℕ). encode_all x ++ z) (encode_append y r) ∙ sym (append_assoc (encode_all x) (encode_all y) (encode_all r)) in
    let p : take from (encode_all (x ++ (y ++ r))) ≡ encode_all x = ap (take from) v ∙ take_at (encode_all x) (encode_all (y ++ r)) from m in
    let q : drop to (encode_all (x ++ (y ++ r))) ≡ encode_all r = ap (drop to) w ∙ drop_at (encode_all x ++ encode_all y) (encode_all r) to n in
    ap₂ (λ (a b : List ℕ). a ++ 0x0A ∷ b) p q ∙ sym (encode_append x (0x0A ∷ r))

-- the new characters are old ones and LF
new_each : (p : ℕ → Bool) (x y r : List ℕ) → all p (0x0A ∷ []) ≡ true → all p (x ++ (y ++ r)) ≡ true → all p (x ++ 0x0A ∷ r) ≡ true
new_each p x y r q h =
    let a = all_append p x (y ++ r) h in
    all_join p x (0x0A ∷ r) a.0 (all_join p (0x0A ∷ []) r q (all_append p y r a.1).1)

pub lf_scalar : all is_scalar (0x0A ∷ []) ≡ true
unfolding all is_scalar
lf_scalar = refl

module _ (profile : ℕ) where
  clause_bytes : {i w : List Item} {l m r : List ℕ} (from to : ℕ) → Cuts unicode profile i l m → Cuts unicode profile w m r → 1 ≤ length (toks w) →
      none_count (toks w) ≡ true → all is_scalar l ≡ true → from ≡ total (toks i) → to ≡ total (toks i) + total (toks w) →
      MadeOf (0x0A ∷ []) (encode_all l) (with_newline (encode_all l) from to) × (members3 profile (with_newline (encode_all l) from to) ≡ members3 profile (encode_all l))
  clause_bytes {i} {w} {l} {m} {r} from to a b n h v e f =
      let j = whole unicode profile r in
      let o = newline_chars unicode unicode_usual profile a b n h j.cuts in
      let t : l ≡ texts i ++ (texts w ++ r) = cuts_text unicode profile a ∙ ap (λ (y : List ℕ). texts i ++ y) (cuts_text unicode profile b) in
      let g : all is_scalar (texts i ++ (texts w ++ r)) ≡ true = ap (all is_scalar) (sym t) ∙ v in
      let z : with_newline (encode_all l) from to ≡ encode_all (texts i ++ 0x0A ∷ r) =
      ap (λ (y : List ℕ). with_newline (encode_all y) from to) t
      ∙ new_bytes (texts i) (texts w) r from to g (omega (arith, total_bytes unicode profile a)) (omega (arith, total_bytes unicode profile a, total_bytes unicode profile b)) in
      let d = made_of (0x0A ∷ []) l (texts i ++ 0x0A ∷ r) lf_scalar v (λ p q o. new_each p (texts i) (texts w) r q (ap (all p) (sym t) ∙ o)) in
      let k = new_each is_scalar (texts i) (texts w) r lf_scalar g in
      let old = counted_of profile (cuts_join unicode profile a (cuts_join unicode profile b j.cuts)) v in
      let new = counted_of profile o.cuts k in
      (rw z d, rw z (new ∙ ap written (o.same ∙ sym (counted_join i (w ++ j.items))) ∙ sym old))

  -- THE NEWLINE CLAUSE: one newline in place of any unbroken run of one or more uncounted tokens leaves the counted tokens as they are,
  -- one by one, with kind, length, suffix start and bytes; and the new text is well-formed as the old one is, of its characters and LF
  pub newline_clause : {s : List ℕ} {from to : ℕ} → WellFormed s → Run (tokens3 profile) s from to → MadeOf (0x0A ∷ []) s (with_newline s from to) × (members3 profile (with_newline s from to) ≡ members3 profile s)
  unfolding tokens3
  newline_clause {s} {from} {to} f r =
      let e = well_formed_encoded s f in
      let v : tokens unicode profile e.of ≡ r.before ++ (r.run ++ r.behind) = ap (tokens unicode profile) (sym (ap chars e.same ∙ read_all e.of e.scalars)) ∙ r.is in
      let a = split unicode profile r.before (r.run ++ r.behind) e.of v in
      let b = split unicode profile r.run r.behind a.left a.rest in
      let n : 1 ≤ length (toks b.items) = omega (arith, r.some, ap length b.same) in
      let h : none_count (toks b.items) ≡ true = ap none_count b.same ∙ r.uncounted in
      let x : from ≡ total (toks a.items) = omega (arith, r.starts, ap total a.same) in
      let y : to ≡ total (toks a.items) + total (toks b.items) = omega (arith, r.ends, ap total a.same, ap total b.same) in
      rw e.same (clause_bytes from to a.cuts b.cuts n h e.scalars x y)

-- ---- and it is no longer than the old one
each_behind : (a b : List Token) → Each Formed (a ++ b) → Each Formed b
each_behind [] b e = e
each_behind (t ∷ a) b e = each_behind a b e.1

total_some : (a b : List Token) → Each Formed (a ++ b) → 1 ≤ length a → 1 ≤ total a
total_some [] b e n = absurd (omega arith)
total_some (t ∷ a) b e n = omega (arith, e.0.some)

pub run_places : (profile : ℕ) {s : List ℕ} {from to : ℕ} → Run (tokens3 profile) s from to → (from < to) × (to ≤ length s)
run_places profile {s} {from} {to} r =
    let t = rw r.is at (tiles profile s) in
    let n = total_some r.run r.behind (each_behind r.before (r.run ++ r.behind) t.each) r.some in
    (omega (arith, r.starts, r.ends), omega (arith, r.ends, t.all, total_append r.before (r.run ++ r.behind), total_append r.run r.behind))

pub newline_shorter : (profile : ℕ) {s : List ℕ} {from to : ℕ} → Run (tokens3 profile) s from to → length (with_newline s from to) ≤ length s
unfolding with_newline
newline_shorter profile {s} {from} {to} r =
    let p = run_places profile r in
    omega (arith, p.0, p.1, length-append (take from s) (0x0A ∷ drop to s), length-take from s, length-drop to s)
