-- The cutter of the profiles is a cutter on bytes that the key can be made of.
-- Assumes nothing.
use Prim.Native.Nat.{ℕ, ◌+◌, ◌-◌, ◌*◌, ◌/◌, ◌≤◌, ◌<◌}
use native.Mathlib.Decide.{dec_lt, ℕ_discrete}
use native.Mathlib.Omega.{arith}
use mathlib.Core.Path.{◌≡◌, ap, sym, ◌∙◌}
use mathlib.Core.Bool.{Bool, true, not}
use mathlib.Core.List.{List, [], ◌∷◌, ◌++◌, cons≢nil}
use lib.Dec.{eqb}
use lib.ListN.{length, take, drop, get_or, length-append, length-drop}
use lib.Seq.{length-take-le}
use borrow.Author.Tests.{lt-ltb, le-ltb}
use Rattle.lists.specs.Steps.{PutIf}
use Rattle.characters.specs.Utf8.{first, chars, width}
use Rattle.characters.specs.Text.{byte_length}
use Rattle.characters.proofs.Text.{chars_nil, chars_first, bytes_chars}
use Rattle.characters.proofs.Ascii.{chars_ascii, wide_code}
use Rattle.text.specs.Answer.{longest, known_profile}
use Rattle.cutters.specs.Records.{Token, total, record_words, flat_from}
use Rattle.cutters.proofs.Records.{length_flat}
use Rattle.lexer.specs.Cut.{Letters, Piece, advance, next_token}
use Rattle.lexer.specs.Unicode.{unicode}
use Rattle.lexer.specs.Promises.{tokens3, tokens_of, tokens_by}
use Rattle.listing.specs.Promises.{run, CutRun}
use Rattle.lexer.proofs.Shapes.{Shape, plain, literal, advance_shape}
use Rattle.lexer.proofs.Places.{known3}
use Rattle.tokens.proofs.Tiling.{formed_of}
use Rattle.tokens.proofs.OpenQasm.{head, tail, chars_are, open_qasm, tokens_cut}
use Rattle.tokens.specs.Members.{is_counted, member_of}
use Rattle.renewal.specs.Key.{no_body, body_length}
use Rattle.renewal.specs.Rules.{Ruled, mark, stored, Keyable, own_bytes}
use Rattle.renewal.specs.Rules as rules
use Rattle.renewal.specs.Steps.{bodies, toks, entries, RunReady, Walked}
use Rattle.renewal.proofs.Bodies.{plain_known, literal_known, plain_body, literal_body, empty_mark}
use Rattle.renewal.proofs.Marks.{advance_mark}
use Rattle.renewal.proofs.Runs.{none_of, taken, taken_some}
use Rattle.renewal.proofs.Entering.{toks_of}
use Rattle.renewal.proofs.Walking.{Walking, walk_ready, walk_on, walk_end}

-- ---- an ASCII character is one byte, and its own
ascii_byte : (c : ℕ) (t s : List ℕ) → chars s ≡ c ∷ t → c < 0x80 → take 1 s ≡ c ∷ []
ascii_byte c t [] e h = absurd (cons≢nil (sym e ∙ chars_nil))
ascii_byte c t (a ∷ s) e h =
    elim (dec_lt a 0x80) [
      | yes l ↦ ap (λ (l : List ℕ). get_or l 0 0 ∷ []) (sym (chars_ascii a s l) ∙ e)
      | no n ↦
          let f : (first (a ∷ s)).0 ≡ c = ap (λ (l : List ℕ). get_or l 0 0) (sym (chars_first (a ∷ s) (omega arith)) ∙ e) in
          absurd (omega (arith, wide_code a s (omega arith)))
    ]

module _ (u : Letters) (profile : ℕ) where
  -- ---- the kinds that stand in keys are those that are counted
  shape_known : (c : ℕ) (t : List ℕ) (a : Piece) → Shape c t a → eqb (body_length a.kind) no_body ≡ not (is_counted a.kind)
  shape_known c t a (plain k m e) = plain_known a.kind k
  shape_known c t a (literal k m e) = literal_known a.kind k

  token_known : (c : ℕ) (t : List ℕ) → eqb (body_length (advance u profile c t).kind) no_body ≡ not (is_counted (advance u profile c t).kind)
  token_known c t = shape_known c t (advance u profile c t) (advance_shape u profile c t)

  module _ (c : ℕ) (t s : List ℕ) (v : chars s ≡ c ∷ t) where
    -- the first token of the text s
    abbrev front : Token
    front = record { kind = (advance u profile c t).kind; len = byte_length (c ∷ t) - byte_length (advance u profile c t).rest; suffix = byte_length (c ∷ t) - byte_length (advance u profile c t).from_suffix }

    front_within : front.len ≤ length s
    front_within = omega (arith, bytes_chars s, ap byte_length v)

    front_bytes : length (take front.len s) ≡ front.len
    front_bytes = length-take-le front.len s front_within

    -- a mark is one byte, its own
    front_mark : body_length front.kind ≡ 0 → (front.len ≡ 1) × (take front.len s ≡ own_bytes front.kind) × (own_bytes front.kind ≡ c ∷ [])
    unfolding byte_length width
    front_mark z =
        let o = advance_mark u profile c t (empty_mark front.kind z) in
        let w : width c ≡ 1 = rw (lt-ltb c 0x80 o.small) in
        let l : front.len ≡ 1 = omega (arith, w, ap byte_length o.rest) in
        (l, ap (λ (n : ℕ). take n s) l ∙ ascii_byte c t s v o.small ∙ sym o.bytes, o.bytes)

    front_ruled : Shape c t (advance u profile c t) → length s ≤ longest → is_counted front.kind ≡ true → Ruled (member_of s front)
    front_ruled (plain k m e) h n =
        let f = formed_of c t (advance u profile c t) (plain k m e) in
        elim (ℕ_discrete (body_length front.kind) 0) [
          | yes z ↦ let o = front_mark z in mark z (o.0 ∙ sym (ap length o.2)) (f.plain k) o.1
          | no z ↦ stored z (rules.plain (plain_body front.kind k n z) f.some (omega (arith, front_within)) (f.plain k) front_bytes)
        ]
    front_ruled (literal k m e) h n =
        let f = formed_of c t (advance u profile c t) (literal k m e) in
        let b = literal_body front.kind k in
        stored (λ z. omega arith) (rules.literal b (f.literal k).0 (f.literal k).1 (omega (arith, front_within)) front_bytes)

  pub keyable : Keyable (tokens_by u profile)
  unfolding open_qasm next_token
  keyable =
      record {
        cutter = open_qasm u profile;
        cuts = tokens_cut u profile;
        known = λ a s. token_known (head a s) (tail a s);
        ruled = λ a s. front_ruled (head a s) (tail a s) (a ∷ s) (chars_are a s) (advance_shape u profile (head a s) (tail a s));
      }

-- that of the profiles
pub profile_keyable : (profile : ℕ) → known_profile profile ≡ true → Keyable (tokens_of profile)
unfolding tokens3
profile_keyable profile h =
    let k = keyable unicode profile in
    record { cutter = k.cutter; cuts = λ s. known3 profile s h ∙ k.cuts s; known = k.known; ruled = k.ruled }

-- ---- what `cut_run` gives are the tokens at the front
module _ {u : Letters} {profile : ℕ} {s list list' : List ℕ} {at at' count : ℕ} (l : length list ≡ 64 * record_words) (short : length s ≤ longest) (r : CutRun u profile s at list at' count list') where
  abbrev ts : List Token
  ts = take 64 (tokens_by u profile (drop at s))

  run_is : run u profile s at (length list / record_words) ≡ ts
  unfolding run
  run_is = let e : length list / record_words ≡ 64 = ap (λ (n : ℕ). n / record_words) l in rw (le-ltb longest (length s) short, e)

  count_is : count ≡ length ts
  count_is = r.many ∙ ap length run_is

  words_are : list' ≡ flat_from s at ts ++ drop (length (flat_from s at ts)) list
  words_are = r.words ∙ rw run_is

  tokens_are : toks list' 0 count ≡ ts
  tokens_are = rw count_is (toks_of s at ts (drop (length (flat_from s at ts)) list) list' 0 words_are)

  run_words : record_words * count ≤ length list'
  run_words = omega (arith, count_is, ap length words_are, length-append (flat_from s at ts) (drop (length (flat_from s at ts)) list), length_flat s at ts)

  run_end : at' ≡ at + total ts
  run_end = r.reached ∙ rw run_is

  pub run_less : at < length s → at < at'
  run_less h = omega (arith, run_end, taken_some (keyable u profile) 63 (drop at s) (omega (arith, length-drop at s)))

  module _ {write : Bool} {key₀ key : List ℕ} {n : ℕ} (w : Walking (tokens_by u profile) s write key₀ at n key) where
    pub run_ready : {table : List ℕ} → table ≡ bodies → RunReady table write n s at list' count key
    run_ready b = walk_ready list' count w (taken (keyable u profile) 64 (drop at s)) tokens_are b short run_words

    pub run_on : {n' : ℕ} {key' : List ℕ} → PutIf write key n (entries (drop at s) (toks list' 0 count)) key' n' → Walking (tokens_by u profile) s write key₀ at' n' key'
    run_on = walk_on list' count w (taken (keyable u profile) 64 (drop at s)) tokens_are run_end

pub run_done : (u : Letters) (profile : ℕ) {s key₀ key : List ℕ} {write : Bool} {at n : ℕ} → Walking (tokens_by u profile) s write key₀ at n key → length s ≤ at → Walked (tokens_by u profile) s write key₀ n key
run_done u profile w h = walk_end (none_of (keyable u profile)) w h
