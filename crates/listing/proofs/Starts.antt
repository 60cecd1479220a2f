-- Where tokens start: what the fourth words of a list say, and that a run from where a token starts gives the same records as the whole list.
-- Assumes nothing.
use Prim.Native.Nat.{ℕ, ◌+◌, ◌-◌, ◌*◌, ◌/◌, ◌<◌, ◌≤◌, min}
use native.Mathlib.Omega.{arith}
use mathlib.Core.Path.{◌≡◌, ap, sym, ◌∙◌}
use mathlib.Core.List.{List, ◌++◌}
use lib.ListN.{length, take, drop, get_or, length-take, length-drop, take-append-drop}
use borrow.Author.Tests.{eq-eqb, le-ltb}
use Rattle.lists.specs.Over.{over}
use Rattle.text.specs.Answer.{done, longest, check_cut}
use Rattle.text.proofs.Room.{was_done}
use Rattle.text.proofs.Checks.{cut_accepted}
use Rattle.cutters.specs.Records.{Token, total, record_words, flat_from}
use Rattle.cutters.specs.Starts.{Starts, length_word, start_word}
use Rattle.cutters.proofs.Starts.{flat_start, flat_starts, flat_part}
use Rattle.cutters.proofs.Cutter.{from_boundary}
use Rattle.lexer.specs.Cut.{Letters}
use Rattle.lexer.specs.Unicode.{unicode}
use Rattle.lexer.specs.Promises.{tokens3, tokens_of, tokens_by}
use Rattle.lexer.proofs.Places.{known3}
use Rattle.tokens.proofs.Tiling.{tiles}
use Rattle.tokens.proofs.OpenQasm.{open_qasm, tokens_cut}
use Rattle.listing.specs.Promises.{answer_of, listed, Listed, run, CutRun}

-- ---- A RUN: its starts are those in the whole text, from the place on, and the place behind it is the last one's end
pub run_starts : {u : Letters} {profile : ℕ} {s list list' : List ℕ} {from at count : ℕ} → CutRun u profile s from list at count list' → Starts (start_word list') (length_word list') from count at
run_starts {u} {profile} {s} {list} {from = from} r =
    let ts = run u profile s from (length list / record_words) in
    rw (r.words, r.many, r.reached) (flat_starts s from ts (drop (length (flat_from s from ts)) list))

module _ {s list list' : List ℕ} {profile number also : ℕ} (l : Listed s profile list number also list') (z : number ≡ done) where
  -- what a call that is done has said and written
  pub told : ((check_cut s profile).0 ≡ done) × (length (tokens_of profile s) ≤ length list / record_words) × (also ≡ length (tokens_of profile s))
  unfolding answer_of
  told = was_done (check_cut s profile) (length list / record_words) (length (tokens_of profile s)) l.answer z

  pub written : list' ≡ over (flat_from s 0 (tokens_of profile s)) list
  unfolding listed
  written = l.words ∙ rw (eq-eqb _ _ (sym l.answer.number_is ∙ z))

  own : tokens_of profile s ≡ tokens3 profile s
  own = known3 profile s (cut_accepted s profile told.0).known

  -- ---- THE LIST: each record starts behind all before it, the first at 0, and the last ends where the text does
  pub list_starts : Starts (start_word list') (length_word list') 0 also (length s)
  list_starts =
      let ts = tokens_of profile s in
      let e : 0 + total ts ≡ length s = omega (arith, ap total own, (tiles profile s).all) in
      rw (written, told.2, ← e) (flat_starts s 0 ts (drop (length (flat_from s 0 ts)) list))

  module _ (i : ℕ) (h : i < also) where
    abbrev before : List Token
    before = take i (tokens_of profile s)

    abbrev behind : List Token
    behind = drop i (tokens_of profile s)

    -- where record i starts, and the tokens from there on
    pub starts_at : start_word list' i ≡ total before
    starts_at =
        let ts = tokens_of profile s in
        ap (λ (w : List ℕ). start_word w i) written ∙ flat_start s 0 ts (drop (length (flat_from s 0 ts)) list) i (omega (arith, told.2)) ∙ omega arith

    pub from_there : tokens_by unicode profile (drop (total before) s) ≡ behind
    unfolding tokens3
    from_there =
        sym (from_boundary (open_qasm unicode profile) before behind s (sym (tokens_cut unicode profile s) ∙ sym own ∙ sym (take-append-drop i (tokens_of profile s))) ∙ sym (tokens_cut unicode profile (drop (total before) s)))

    run_from_lem : (room : ℕ) → run unicode profile s (start_word list' i) room ≡ take room behind
    unfolding run
    run_from_lem room =
        let short = (cut_accepted s profile told.0).text.short in
        rw (le-ltb longest (length s) short, starts_at, from_there)

    -- the words of such a run are the list's
    run_words : {list₂ list₂' : List ℕ} {at count : ℕ} → CutRun unicode profile s (start_word list' i) list₂ at count list₂' → (j : ℕ) → j < record_words * count → get_or list₂' j 0 ≡ get_or list' (record_words * i + j) 0
    run_words {list₂} {list₂'} {at} {count} r j k =
        let room = length list₂ / record_words in
        let ts = tokens_of profile s in
        let x = drop (length (flat_from s 0 ts)) list in
        let y = drop (length (flat_from s (total before) (take room behind))) list₂ in
        let e : list₂' ≡ flat_from s (total before) (take room behind) ++ y = r.words ∙ rw (run_from_lem room, starts_at) in
        let z : 0 + total before ≡ total before = omega arith in
        let n : j < record_words * length (take room behind) = omega (arith, k, r.many, ap length (run_from_lem room)) in
        rw (e, written) (rw z at (flat_part s 0 ts x i room y (omega (arith, h, told.2)) j n))

    -- ---- A RUN FROM WHERE A TOKEN STARTS, over Unicode's letters, has the records that the whole list has from that one on, as many as there is room for, word
    -- for word
    pub run_in_list : {list₂ list₂' : List ℕ} {at count : ℕ} → CutRun unicode profile s (start_word list' i) list₂ at count list₂' →
        (count ≡ min (length list₂ / record_words) (also - i)) × ((j : ℕ) → j < record_words * count → get_or list₂' j 0 ≡ get_or list' (record_words * i + j) 0)
    run_in_list {list₂} r = (r.many ∙ ap length (run_from_lem room) ∙ omega (arith, told.2, length-take room behind, length-drop i (tokens_of profile s)), run_words r)
      where
        room : ℕ
        room = length list₂ / record_words
