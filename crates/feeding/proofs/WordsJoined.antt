-- WORDS JOINED: the records handed out, with the place and the fifth word, are those of the tokens of the whole text; so are all of them, with the finish. For a
-- record starts where the tokens before it end, and its fifth word is what is found in its own bytes.
-- Assumes nothing.
use Prim.Native.Nat.{ℕ, ◌+◌, ◌<◌}
use native.Mathlib.Omega.{arith}
use mathlib.Core.Path.{◌≡◌, refl, ap, sym, ◌∙◌, subst}
use mathlib.Core.Bool.{Bool, true, cond}
use mathlib.Core.List.{List, [], ◌∷◌, ◌++◌, append_assoc}
use lib.ListN.{length, take, drop, length-append, length-drop, take-append-drop, drop_of_length-le}
use lib.Seq.{take_at, drop_at, drop-drop, take_all}
use borrow.Author.Tests.{eqb-true}
use Rattle.lists.specs.All.{all, Each}
use Rattle.lists.proofs.Bools.{both}
use Rattle.characters.specs.Utf8.{chars, width, encode, encode_all, is_scalar, valid_up_to, WellFormed}
use Rattle.characters.proofs.Encode.{scalar, encode_long}
use Rattle.characters.proofs.Valid.{well_formed_encoded, longest_well_formed, read_all, valid_within}
use Rattle.text.specs.Answer.{done}
use Rattle.cutters.specs.Records.{misplaced_at, flat_from}
use Rattle.cutters.specs.Underscores.{misplaced_of}
use Rattle.lexer.specs.Cut.{Letters}
use Rattle.lexer.specs.Unicode.{unicode}
use Rattle.lexer.specs.Promises.{tokens_by, tokens3, profile3, tokens_of}
use Rattle.lexer.proofs.Places.{known3}
use Rattle.locality.specs.Machine.{eats, halts}
use Rattle.locality.specs.Phases.{Phase, act, first, Usual}
use Rattle.locality.proofs.Machine.{by_act}
use Rattle.locality.proofs.Clause.{unicode_usual}
use Rattle.feeding.specs.Tracker.{Tracker, fresh, seen, word_by}
use Rattle.feeding.specs.Fed.{Rec, words, State, idle, busy, held, feed, feeds, last_of, finish}
use Rattle.feeding.specs.Begun.{whole, beyond}
use Rattle.feeding.specs.Lexer.{started, taken}
use Rattle.feeding.specs.Call.{bytes, fed_to, given, answer}
use Rattle.feeding.specs.History.{Taken, after, handed_in, text_of_all, settled}
use Rattle.feeding.proofs.Fed.{toks, joined}
use Rattle.feeding.proofs.History.{from_start, out, on, fed_are, state_of_history, handed_history}
use Rattle.feeding.proofs.Refusals.{passed}
use Rattle.feeding.proofs.Tiles.{Tiles, tiles_join, feeds_tiles, finish_tiles}
use Rattle.feeding.proofs.HandedOut.{handed_out}
use Rattle.feeding.proofs.Odds.{Inv, Good, inv_step, inv_first, none_end}

-- ---- a token in the text t that starts at `at`: its bytes so far, and what stands behind them
record Own (t rest : List ℕ) (at : ℕ) (q : Phase) (n m : ℕ) (o : Tracker) : Type 0 where
  b : List ℕ
  text : drop at t ≡ b ++ rest
  size : length b ≡ n
  inv : Inv b n m o q

abbrev At : List ℕ → List ℕ → ℕ → State → Type 0
At t rest at idle = drop at t ≡ rest
At t rest at (busy q n m o) = Own t rest at q n m o
At t rest at (held q n m o x) = Own t (encode x ++ rest) at q n m o × (x < 1114112)

-- records that say what is found in their bytes, which stand in the text t
abbrev Told : List ℕ → List Rec → Type 0
Told t = Each (λ r. r.misplaced ≡ misplaced_at t r.start r.token)

told_join : (t : List ℕ) (a b : List Rec) → Told t a → Told t b → Told t (a ++ b)
told_join t [] b h k = k
told_join t (r ∷ a) b h k = (h.0, told_join t a b h.1 k)

words_told : (t : List ℕ) (rs : List Rec) (at end : ℕ) → Tiles at rs end → Told t rs → words rs ≡ flat_from t at (toks rs)
unfolding words flat_from toks
words_told t [] at end s h = refl
words_told t (r ∷ rs) at end s h = rw (h.0, s.0, words_told t rs (at + r.token.len) end s.1 h.1)

module _ (u : Letters) (p : ℕ) (t : List ℕ) where
  own_rest : {rest : List ℕ} {at : ℕ} {q : Phase} {n m : ℕ} {o : Tracker} → Own t rest at q n m o → drop (at + n) t ≡ rest
  own_rest {rest} {at} {q} {n} w = sym (drop-drop n at t) ∙ ap (drop n) w.text ∙ drop_at w.b rest n w.size

  -- a token starts
  begins : (rest : List ℕ) (at x : ℕ) → x < 1114112 → drop at t ≡ encode x ++ rest → Own t rest at (first u p x) (width x) 0 (fresh x)
  begins rest at x l e = record { b = encode x; text = e; size = encode_long x l; inv = inv_first u p x }

  -- a character more is eaten
  grows : {rest : List ℕ} {at : ℕ} {q : Phase} {n m : ℕ} {o : Tracker} (x : ℕ) (l : List ℕ) (e : Bool) (r : Phase) → x < 1114112 → act u q l ≡ eats e r → Own t (encode x ++ rest) at q n m o →
      Own t rest at r (n + width x) (cond e n m) (seen o e n x)
  grows {rest} {at} {q} {n} {m} {o} x l e r h k w =
      let g : Good w.b n m o (eats e r) = rw k at (inv_step w.b n m o u q l w.inv) in
      record {
        b = w.b ++ encode x;
        text = w.text ∙ sym (append_assoc w.b (encode x) rest);
        size = omega (arith, length-append w.b (encode x), w.size, encode_long x h);
        inv = g x h;
      }

  -- the token ends, and its word is right
  ended_told : {rest : List ℕ} {at : ℕ} {q : Phase} {n m : ℕ} {o : Tracker} (l : List ℕ) (e : Bool) (k : ℕ) → act u q l ≡ halts e k → Own t rest at q n m o →
      word_by o k ≡ misplaced_of k (cond e n m) (take n (drop at t))
  ended_told {rest} {at} {q} {n} {m} {o} l e k h w =
      let g : Good w.b n m o (halts e k) = rw h at (inv_step w.b n m o u q l w.inv) in
      g ∙ ap (misplaced_of k (cond e n m)) (sym (ap (take n) w.text ∙ take_at w.b rest n w.size))

  told_step : (at : ℕ) (x : State) (c : ℕ) (rest : List ℕ) → c < 1114112 → At t (encode c ++ rest) at x → Told t (feed u p at x c).0 × At t rest (feed u p at x c).1.1 (feed u p at x c).1.0
  unfolding feed
  told_step at idle c rest l h = (tt, begins rest at c l h)
  told_step at (busy q n m o) c rest l h = (tt, (h, l))
  told_step at (held q n m o x) c rest l h =
      by_act (act u) (act u q (x ∷ c ∷ []))
      (λ e r k. rw (k, feed) (tt, (grows x (x ∷ c ∷ []) e r h.1 k h.0, l)))
      (λ e i k. rw (k, feed) ((ended_told (x ∷ c ∷ []) e i k h.0, tt), (begins (encode c ++ rest) (at + n) x h.1 (own_rest h.0), l)))

  told_steps : (l : List ℕ) (at : ℕ) (x : State) (rest : List ℕ) → all is_scalar l ≡ true → At t (encode_all l ++ rest) at x →
      Told t (feeds u p at x l).0 × At t rest (feeds u p at x l).1.1 (feeds u p at x l).1.0
  unfolding feeds encode_all all
  told_steps [] at x rest s h = (tt, h)
  told_steps (c ∷ l) at x rest s h =
      let k = both (is_scalar c) (all is_scalar l) s in
      let r = feed u p at x c in
      let f = feeds u p r.1.1 r.1.0 l in
      let i = told_step at x c (encode_all l ++ rest) (omega (arith, (scalar c k.0).top)) (rw append_assoc at h) in
      let j = told_steps l r.1.1 r.1.0 rest k.1 i.1 in
      (told_join t r.0 f.0 i.0 j.0, j.1)

  last_told : {rest : List ℕ} (at : ℕ) (q : Phase) (n m : ℕ) (o : Tracker) → Own t rest at q n m o → Told t (last_of u p at n m o (act u q []))
  unfolding last_of
  last_told at q n m o w =
      by_act (act u) (act u q [])
      (λ e r k. rw (k, last_of) (none_end (take n (drop at t)) m o 0 refl refl, tt))
      (λ e i k. rw (k, last_of) (ended_told [] e i k w, tt))

  finish_told : (at : ℕ) (x : State) → At t [] at x → Told t (finish u p at x)
  unfolding finish
  finish_told at idle h = tt
  finish_told at (busy q n m o) h = last_told at q n m o h
  finish_told at (held q n m o x) h =
      by_act (act u) (act u q (x ∷ []))
      (λ e r k. rw (k, finish) (last_told at r (n + width x) (cond e n m) (seen o e n x) (grows x (x ∷ []) e r h.1 k h.0)))
      (λ e i k. rw (k, finish) (ended_told (x ∷ []) e i k h.0, last_told (at + n) (first u p x) (width x) 0 (fresh x) (begins [] (at + n) x h.1 (own_rest h.0))))

-- ---- a text
module _ (s : List ℕ) where
  abbrev l : List ℕ
  l = chars (whole s)

  whole_scalars : all is_scalar l ≡ true
  whole_scalars = let e = well_formed_encoded (whole s) (longest_well_formed s) in rw (ap chars e.same ∙ read_all e.of e.scalars) e.scalars

  whole_written : s ≡ encode_all l ++ beyond s
  whole_written =
      let e = well_formed_encoded (whole s) (longest_well_formed s) in
      let w : whole s ≡ encode_all l = e.same ∙ ap encode_all (sym (ap chars e.same ∙ read_all e.of e.scalars)) in
      sym (take-append-drop (valid_up_to s) s) ∙ ap (λ (y : List ℕ). y ++ beyond s) w

  module _ (u : Letters) (p : ℕ) where
    abbrev r : List Rec × (State × ℕ)
    r = feeds u p 0 idle l

    fed_told : Told s r.0 × At s (beyond s) r.1.1 r.1.0
    fed_told = told_steps u p s l 0 idle (beyond s) whole_scalars whole_written

    -- over any letters: on the way the words of what was handed out, and with the finish those of every token
    words_fed : words r.0 ≡ flat_from s 0 (toks r.0)
    words_fed = words_told s r.0 0 r.1.1 (feeds_tiles u p l 0 idle).0 fed_told.0

    pub words_joined : Usual u → WellFormed s → let f = feeds u p 0 idle (chars (whole s)) in words (f.0 ++ finish u p f.1.1 f.1.0) ≡ flat_from s 0 (tokens_by u p s)
    words_joined usual g =
        let at = r.1.1 in
        let f = finish u p at r.1.0 in
        let w : whole s ≡ s = take_all (valid_up_to s) s (omega (arith, g)) in
        let n : beyond s ≡ [] = drop_of_length-le s {i = valid_up_to s} (omega (arith, g)) in
        let j = finish_told u p s at r.1.0 (subst (λ (y : List ℕ). At s y at r.1.0) n fed_told.1) in
        let e = at + taken r.1.0 in
        words_told s (r.0 ++ f) 0 e (tiles_join r.0 f 0 at e (feeds_tiles u p l 0 idle).0 (finish_tiles u p at r.1.0).0) (told_join s r.0 f fed_told.0 j)
        ∙ ap (flat_from s 0) (joined u p usual l ∙ ap (tokens_by u p) w)

-- ON THE WAY: behind the text s the words of its settled tokens have been handed out
pub words_handed : (p : ℕ) → profile3 p ≡ true → (s : List ℕ) → words (out p s) ≡ flat_from s 0 (settled p s)
words_handed p known s = words_fed s unicode p ∙ ap (flat_from s 0) (handed_out p known s)

-- IN PARTS AS AT ONCE: whatever the parts and the carries, if the finish is accepted then all calls together have handed out the words of the whole text
pub words_history : (p : ℕ) (cs : List Taken) (chunk : List ℕ) (room : ℕ) →
    let x = after (started p) cs in
    let t = text_of_all cs ++ chunk in
    (answer x true chunk room).0 ≡ done → WellFormed t × (words (handed_in (started p) cs ++ given x true chunk) ≡ flat_from t 0 (tokens_of p t))
unfolding given tokens3
words_history p cs chunk room h =
    let x = after (started p) cs in
    let t = text_of_all cs ++ chunk in
    let st = state_of_history p cs in
    let ok = passed x true chunk room h in
    let r = from_start p t in
    let k = fed_to x true chunk in
    let e : length (beyond (bytes x true chunk)) ≡ 0 = eqb-true (length (beyond (bytes x true chunk))) 0 ok.goes in
    let d : length (beyond t) ≡ 0 = ap length (sym (on st chunk []).rest) ∙ e in
    let g : WellFormed t = omega (arith, d, length-drop (valid_up_to t) t, valid_within t) in
    let q : x.profile ≡ p = st.same in
    let known : profile3 p ≡ true = rw q at ok.known in
    let f : r ≡ (out p (text_of_all cs) ++ k.0, k.1) = fed_are st chunk in
    let end = finish unicode x.profile k.1.1 k.1.0 in
    let v : handed_in (started p) cs ++ (k.0 ++ end) ≡ r.0 ++ finish unicode p r.1.1 r.1.0 =
    sym (append_assoc (handed_in (started p) cs) k.0 end) ∙ rw (f, q, handed_history p cs) in
    (g, ap words v ∙ words_joined t unicode p unicode_usual g ∙ ap (flat_from t 0) (sym (known3 p t known)))
