-- The token at a place, as the first of the tokens from there on; and what that says of its places.
-- Assumes nothing.
use Prim.Native.Nat.{ℕ, ◌+◌, ◌-◌, ◌≤◌, ◌<◌, min, max}
use native.Mathlib.Decide.{dec_lt}
use native.Mathlib.Omega.{arith}
use mathlib.Core.Path.{◌≡◌, refl, ap, sym, ◌∙◌}
use mathlib.Core.Bool.{true}
use mathlib.Core.List.{List, [], ◌∷◌}
use lib.ListN.{length, drop, length-drop}
use lib.Seq.{drop-drop}
use Rattle.lists.proofs.Cut.{cut_few}
use Rattle.lists.proofs.Ends.{ends_cons}
use Rattle.characters.specs.Utf8.{first, next, chars}
use Rattle.characters.specs.Text.{byte_length, left}
use Rattle.characters.proofs.Text.{point_at, left_end, between, bytes_chars, chars_behind, ends_bytes}
use Rattle.characters.proofs.Valid.{width_some}
use Rattle.cutters.specs.Records.{Token}
use Rattle.cutters.specs.Underscores.{misplaced_in, misplaced_of}
use Rattle.cutters.proofs.Underscores.{word_most}
use Rattle.cutters.specs.Kinds.{eof}
use Rattle.lexer.specs.Cut.{Letters, advance, advance_token, next_token, tokens}
use Rattle.lexer.specs.Steps.{Cuts}
use Rattle.lexer.specs.Promises.{tokens_by, tokens3, profile3, tokens_of, front, Advanced}
use Rattle.lexer.proofs.Shapes.{ends_advance, tokens_nil, tokens_cons}

module _ (u : Letters) (profile : ℕ) where
  -- ---- no more records than bytes
  pub few_tokens : (s : List ℕ) → length (tokens_by u profile s) ≤ length s
  unfolding tokens chars
  few_tokens s = omega (arith, cut_few (next_token u profile) (chars s), cut_few next s)

  -- the record of the token at the front
  abbrev record_of : List ℕ → Token
  record_of l = record { kind = (advance_token u profile l).kind; len = byte_length l - byte_length (advance_token u profile l).rest; suffix = byte_length l - byte_length (advance_token u profile l).from_suffix }

  tokens_step : (c : ℕ) (t : List ℕ) → tokens u profile (c ∷ t) ≡ record_of (c ∷ t) ∷ tokens u profile (advance_token u profile (c ∷ t)).rest
  unfolding advance_token next_token
  tokens_step c t = tokens_cons u profile c t

  -- the first token at a place before the end
  pub tokens_at : {s : List ℕ} {at kind suffixAt found end : ℕ} → at < length s → Cuts u profile s at kind suffixAt found end →
      tokens_by u profile (drop at s) ≡ record { kind = kind; len = end - at; suffix = suffixAt - at } ∷ tokens_by u profile (drop end s)
  tokens_at {s} {at} {kind} {suffixAt} {end} h a =
      let c = point_at s at h in
      let q : tokens_by u profile (drop at s) ≡ record_of (left s at) ∷ tokens u profile (advance_token u profile (left s at)).rest = (rw c.view (tokens_step _ _)) in
      q ∙ rw (← a.kind_is, between (omega arith) a.end_place, between (omega arith) a.suffix_place, ← a.end_place.there)

  -- there is one, of at least one byte
  pub tokens_some : (s : List ℕ) (at : ℕ) → at < length s → 1 ≤ length (tokens_by u profile (drop at s))
  tokens_some s at h = let c = point_at s at h in rw (c.view, tokens_cons u profile) (omega arith)

  -- ---- by bytes: the first token, and behind it the tokens of the bytes that are left
  pub tokens_first : (c : ℕ) (t s : List ℕ) → chars s ≡ c ∷ t →
      tokens u profile (chars s) ≡ (next_token u profile c t).0 ∷ tokens u profile (chars (drop (next_token u profile c t).0.len s))
  unfolding next_token
  tokens_first c t s e =
      let r = (advance u profile c t).rest in
      let n = ends_cons c (ends_advance u profile c t) in
      let long : byte_length (c ∷ t) - byte_length r ≡ byte_length n.front = omega (arith, ends_bytes n) in
      let behind : chars (drop (byte_length n.front) s) ≡ r = chars_behind n.front r s (e ∙ n.is) in
      ap (tokens u profile) e ∙ tokens_cons u profile c t ∙ rw (long, behind)

  -- it has at least one byte, and it and its suffix start lie within the text
  pub next_some : (c : ℕ) (t : List ℕ) → 1 ≤ (next_token u profile c t).0.len
  unfolding next_token byte_length
  next_some c t = omega (arith, ends_bytes (ends_advance u profile c t), width_some c)

  pub next_within : (c : ℕ) (t s : List ℕ) → chars s ≡ c ∷ t → ((next_token u profile c t).0.len ≤ length s) × ((next_token u profile c t).0.suffix ≤ length s)
  unfolding next_token
  next_within c t s e = (omega (arith, ap byte_length e, bytes_chars s), omega (arith, ap byte_length e, bytes_chars s))

-- ---- what `advance_token` answers
pub advanced : {u : Letters} {profile : ℕ} {s : List ℕ} {at kind suffixAt found end : ℕ} → at < length s → Cuts u profile s at kind suffixAt found end → Advanced u profile s at kind suffixAt found end
unfolding front
advanced {u} {profile} h c =
    let v = tokens_at u profile h c in
    record {
      kind_is = rw v;
      suffix_is = rw v (omega (arith, c.suffix_place.after));
      found_is = rw v c.found_is;
      end_is = rw v (omega (arith, c.end_place.after));
    }

-- at the end there is none
pub none_left : (u : Letters) (profile : ℕ) (s : List ℕ) (at : ℕ) → length s ≤ at → tokens_by u profile (drop at s) ≡ []
none_left u profile s at l = ap (tokens u profile) (left_end s at l) ∙ tokens_nil u profile

pub none_at_end : {u : Letters} {profile : ℕ} {s : List ℕ} {at kind suffixAt found end : ℕ} → length s ≤ at → kind ≡ eof → suffixAt ≡ at → found ≡ 0 → end ≡ at → Advanced u profile s at kind suffixAt found end
unfolding front misplaced_of misplaced_in
none_at_end {u} {profile} {s} {at} l k m f e =
    let v = none_left u profile s at l in
    record { kind_is = rw v k; suffix_is = rw v (omega arith); found_is = rw v f; end_is = rw v (omega arith) }

module _ (u : Letters) (profile : ℕ) (s : List ℕ) (at kind suffixAt found end : ℕ) (a : Advanced u profile s at kind suffixAt found end) where
  -- ---- before the end
  module _ (h : at < length s) where
    abbrev c : ℕ
    c = (first (drop at s)).0

    abbrev r : List ℕ
    r = left s (at + (first (drop at s)).1)

    abbrev t : Token
    t = (next_token u profile c r).0

    view : tokens_by u profile (drop at s) ≡ t ∷ tokens_by u profile (drop t.len (drop at s))
    view = tokens_first u profile c r (drop at s) (point_at s at h).view

    end_here : end ≡ at + t.len
    unfolding front
    end_here = a.end_is ∙ ap (λ (l : List Token). at + (front l).len) view

    suffix_here : suffixAt ≡ at + t.suffix
    unfolding front
    suffix_here = a.suffix_is ∙ ap (λ (l : List Token). at + (front l).suffix) view

    within : (t.len ≤ length s - at) × (t.suffix ≤ length s - at)
    within =
        let w = next_within u profile c r (drop at s) (point_at s at h).view in
        (omega (arith, w.0, length-drop at s), omega (arith, w.1, length-drop at s))

    -- the tokens from there on are this one, and those from its end on
    pub advanced_view : tokens_by u profile (drop at s) ≡ record { kind = kind; len = end - at; suffix = suffixAt - at } ∷ tokens_by u profile (drop end s)
    unfolding front
    advanced_view =
        let k : kind ≡ t.kind = a.kind_is ∙ ap (λ (l : List Token). (front l).kind) view in
        let l : end - at ≡ t.len = omega (arith, end_here) in
        let m : suffixAt - at ≡ t.suffix = omega (arith, suffix_here) in
        let e : at + t.len ≡ end = sym end_here in
        let far : drop t.len (drop at s) ≡ drop end s = drop-drop t.len at s ∙ rw e in
        view ∙ rw (k, l, m) (ap (λ (q : List ℕ). t ∷ tokens_by u profile q) far)

  end_there : length s ≤ at → end ≡ at + 0
  unfolding front
  end_there l = a.end_is ∙ ap (λ (q : List Token). at + (front q).len) (none_left u profile s at l)

  suffix_there : length s ≤ at → suffixAt ≡ at + 0
  unfolding front
  suffix_there l = a.suffix_is ∙ ap (λ (q : List Token). at + (front q).suffix) (none_left u profile s at l)

  -- ---- its places, at every place: rules for `omega`
  pub end_some : at + min 1 (length s - at) ≤ end
  end_some =
      elim (dec_lt at (length s)) [ yes h ↦ omega (arith, end_here h, next_some u profile (c h) (r h)) | no n ↦ omega (arith, end_there (omega arith)) ]

  pub end_within : end ≤ max at (length s)
  end_within = elim (dec_lt at (length s)) [ yes h ↦ omega (arith, end_here h, (within h).0) | no n ↦ omega (arith, end_there (omega arith)) ]

  pub found_within : found ≤ length s
  found_within = omega (arith, a.found_is, word_most s at (front (tokens_by u profile (drop at s))))

  pub suffix_after : at ≤ suffixAt
  suffix_after = omega (arith, a.suffix_is)

  pub suffix_within : suffixAt ≤ max at (length s)
  suffix_within =
      elim (dec_lt at (length s)) [ yes h ↦ omega (arith, suffix_here h, (within h).1) | no n ↦ omega (arith, suffix_there (omega arith)) ]

-- ---- under the profiles of OpenQASM 3 the tokens are its own
pub known3 : (profile : ℕ) (s : List ℕ) → profile3 profile ≡ true → tokens_of profile s ≡ tokens3 profile s
unfolding tokens_of
known3 profile s h = refl
