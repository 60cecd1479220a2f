-- What the fifth words of a list say: each is told by its own record and the bytes where that stands.
-- Assumes nothing.
use Prim.Native.Nat.{ℕ, ◌/◌, ◌<◌}
use native.Mathlib.Omega.{arith}
use mathlib.Core.Path.{◌≡◌, ap, ◌∙◌}
use mathlib.Core.List.{List}
use lib.ListN.{length, take, drop, get_or}
use lib.Seq.{drop-cons}
use Rattle.text.specs.Answer.{done}
use Rattle.cutters.specs.Records.{Token, record_words, flat_from}
use Rattle.cutters.specs.Underscores.{read_bytes, hex_first}
use Rattle.cutters.specs.First.{First}
use Rattle.cutters.specs.Starts.{length_word, start_word}
use Rattle.cutters.specs.Told.{Told, kind_word, suffix_word, misplaced_word}
use Rattle.cutters.proofs.Told.{flat_kind, flat_told}
use Rattle.cutters.proofs.Exactly.{token_first, read_front, read_none}
use Rattle.lexer.specs.Cut.{Letters}
use Rattle.lexer.specs.Unicode.{unicode}
use Rattle.lexer.specs.Promises.{tokens_of, tokens_by, front}
use Rattle.lexer.proofs.Found.{front_unread}
use Rattle.listing.specs.Promises.{Listed, run, CutRun}
use Rattle.listing.proofs.Starts.{told, written, starts_at, from_there}

-- ---- A RUN, of any bytes
pub run_told : {u : Letters} {profile : ℕ} {s list list' : List ℕ} {from at count : ℕ} → CutRun u profile s from list at count list' →
    Told s (kind_word list') (length_word list') (suffix_word list') (start_word list') (misplaced_word list') count
run_told {u} {profile} {s} {list} {from = from} r =
    let ts = run u profile s from (length list / record_words) in
    rw (r.words, r.many) (flat_told s from ts (drop (length (flat_from s from ts)) list))

-- ---- THE LIST
pub list_told : {s list list' : List ℕ} {profile number also : ℕ} → Listed s profile list number also list' → number ≡ done →
    Told s (kind_word list') (length_word list') (suffix_word list') (start_word list') (misplaced_word list') also
list_told {s} {list} {profile = profile} l z =
    let ts = tokens_of profile s in
    rw (written l z, (told l z).2) (flat_told s 0 ts (drop (length (flat_from s 0 ts)) list))

-- ---- THE FIRST MISPLACED ONE, AND 0 EXACTLY WHERE NONE IS: so it is of each record of the list, and of the bytes that the readers went through
module _ {s list list' : List ℕ} {profile number also : ℕ} (l : Listed s profile list number also list') (z : number ≡ done) (i : ℕ) (h : i < also) where
  abbrev bytes : List ℕ
  bytes = take (length_word list' i) (drop (start_word list' i) s)

  abbrev read : List ℕ
  read = read_bytes (kind_word list' i) (suffix_word list' i) bytes

  -- its kind is that of the token that stands first where it starts
  kind_there : kind_word list' i ≡ (front (tokens_by unicode profile (drop (start_word list' i) s))).kind
  unfolding front
  kind_there =
      let ts = tokens_of profile s in
      let n : i < length ts = omega (arith, h, (told l z).2) in
      let d : Token = record { kind = 0; len = 0; suffix = 0 } in
      let e : tokens_by unicode profile (drop (start_word list' i) s) ≡ drop i ts = ap (λ (k : ℕ). tokens_by unicode profile (drop k s)) (starts_at l z i h) ∙ from_there l z i h in
      ap (λ (w : List ℕ). kind_word w i) (written l z) ∙ flat_kind s 0 ts (drop (length (flat_from s 0 ts)) list) d i n ∙ rw (e, drop-cons ts i d n)

  no_underscore : get_or read 0 0 ≡ 0x5F → ⊥
  no_underscore e =
      let u = front_unread profile (drop (start_word list' i) s) (read_front (kind_word list' i) (suffix_word list' i) (length_word list' i) (drop (start_word list' i) s) e) in
      omega (arith, e, read_none (kind_word list' i) (suffix_word list' i) bytes (rw kind_there u.number) (rw kind_there u.wire))

  pub list_first : First (hex_first read) read 0 (length read) (misplaced_word list' i)
  list_first = rw ((list_told l z).each i h) (token_first (kind_word list' i) (suffix_word list' i) bytes no_underscore)
