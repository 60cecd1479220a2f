-- The first counted token from a place on: the walk that looks for it.
-- Assumes nothing.
use Prim.Native.Nat.{ℕ, ◌+◌, ◌-◌, ◌≤◌, ◌<◌}
use native.Mathlib.Decide.{dec_lt}
use native.Mathlib.Omega.{arith}
use mathlib.Core.Path.{◌≡◌, refl, ap, sym, ◌∙◌}
use mathlib.Core.Bool.{Bool, true, false, false≢true}
use mathlib.Core.List.{List, [], ◌∷◌}
use lib.ListN.{length, drop, length-drop, drop_of_length-le}
use lib.Seq.{drop-drop}
use borrow.Author.Tests.{le-ltb}
use Rattle.text.specs.Answer.{longest}
use Rattle.cutters.specs.Kinds.{eof}
use Rattle.cutters.specs.Records.{Token}
use Rattle.lexer.specs.Cut.{Letters}
use Rattle.lexer.specs.Promises.{front, tokens_by}
use Rattle.lexer.proofs.Places.{none_left}
use Rattle.listing.specs.Promises.{run, token_at, TokenAt}
use Rattle.listing.proofs.Whole.{one_start, one_end, first_of as first_one}
use Rattle.tokens.specs.Members.{is_counted, member_of, counted, members_by}
use Rattle.renewal.specs.Rules.{Keyable}
use Rattle.renewal.proofs.Runs.{First, none_of, first_of}
use Rattle.renewal.proofs.Keyable.{keyable}
use Rattle.same.specs.Compare.{sights}
use Rattle.same.specs.Steps.{member_at, sight_at, members_from, sights_from, Ahead}

-- ---- a token in front is counted, or is not
module _ (t : Token) (ts : List Token) where
  counted_yes : (s : List ℕ) → is_counted t.kind ≡ true → counted s (t ∷ ts) ≡ member_of s t ∷ counted (drop t.len s) ts
  unfolding counted
  counted_yes s e = rw (e, counted)

  counted_no : (s : List ℕ) → is_counted t.kind ≡ false → counted s (t ∷ ts) ≡ counted (drop t.len s) ts
  unfolding counted
  counted_no s e = rw (e, counted)

  sights_yes : (at : ℕ) → is_counted t.kind ≡ true → sights at (t ∷ ts) ≡ record { kind = t.kind; start = at; len = t.len } ∷ sights (at + t.len) ts
  unfolding sights
  sights_yes at e = rw (e, sights)

  sights_no : (at : ℕ) → is_counted t.kind ≡ false → sights at (t ∷ ts) ≡ sights (at + t.len) ts
  unfolding sights
  sights_no at e = rw (e, sights)

-- ---- the token at a place
same_token : (t : Token) {k l m : ℕ} → k ≡ t.kind → l ≡ t.len → m ≡ t.suffix → ◌≡◌ {A = Token} (record { kind = k; len = l; suffix = m }) t
same_token t e f g = rw (e, f, g)

some_first : {cut : List ℕ → List Token} → Keyable cut → (s : List ℕ) → 1 ≤ length s → First cut s
some_first c [] h = absurd (omega arith)
some_first c (a ∷ s) h = first_of c a s

module _ {u : Letters} {profile : ℕ} {s : List ℕ} {at kind suffixAt found end : ℕ} (short : length s ≤ longest) (h : at < length s) (a : TokenAt u profile s at kind suffixAt found end) where
  abbrev tok : Token
  tok = record { kind = kind; len = end - at; suffix = suffixAt - at }

  abbrev cut : List ℕ → List Token
  cut = tokens_by u profile

  here : First cut (drop at s)
  here = some_first (keyable u profile) (drop at s) (omega (arith, length-drop at s))

  here_is : front (run u profile s at 1) ≡ here.token
  unfolding run front
  here_is = rw (le-ltb longest (length s) short, here.view)

  tok_is : tok ≡ here.token
  tok_is =
      let l : end - at ≡ here.token.len = omega (arith, a.end_is, ap (λ (t : Token). t.len) here_is) in
      let m : suffixAt - at ≡ here.token.suffix = omega (arith, a.suffix_is, ap (λ (t : Token). t.suffix) here_is) in
      same_token here.token (a.kind_is ∙ ap (λ (t : Token). t.kind) here_is) l m

  reach : at + (end - at) ≡ end
  reach = omega (arith, a.end_is)

  far : drop (end - at) (drop at s) ≡ drop end s
  far = drop-drop (end - at) at s ∙ rw reach

  view : cut (drop at s) ≡ tok ∷ cut (drop end s)
  view = here.view ∙ rw (← tok_is) (ap (λ (l : List ℕ). tok ∷ cut l) far)

  pub token_some : at < end
  token_some = omega (arith, here.some, ap (λ (t : Token). t.len) tok_is)

  within : end ≤ length s
  within = omega (arith, (one_end a).1)

  members_yes : is_counted kind ≡ true → members_from cut s at ≡ member_at s kind at suffixAt end ∷ members_from cut s end
  unfolding members_by
  members_yes e = rw view (counted_yes tok (cut (drop end s)) (drop at s) e ∙ rw far)

  members_no : is_counted kind ≡ false → members_from cut s at ≡ members_from cut s end
  unfolding members_by
  members_no e = rw view (counted_no tok (cut (drop end s)) (drop at s) e ∙ rw far)

  seen_yes : is_counted kind ≡ true → sights_from cut s at ≡ sight_at kind at end ∷ sights_from cut s end
  seen_yes e = rw view (sights_yes tok (cut (drop end s)) at e ∙ rw reach)

  seen_no : is_counted kind ≡ false → sights_from cut s at ≡ sights_from cut s end
  seen_no e = rw view (sights_no tok (cut (drop end s)) at e ∙ rw reach)

-- ---- looking for it: what is counted from here on is what is counted from there on
pub record Seeking (cut : List ℕ → List Token) (s : List ℕ) (from at : ℕ) : Type 0 where
  pub after : from ≤ at
  pub within : at ≤ length s
  pub members : members_from cut s from ≡ members_from cut s at
  pub seen : sights_from cut s from ≡ sights_from cut s at

pub seeking_none : (cut : List ℕ → List Token) (s : List ℕ) (from : ℕ) → from ≤ length s → Seeking cut s from from
seeking_none cut s from h = record { after = omega arith; within = h; members = refl; seen = refl }

module _ {u : Letters} {profile : ℕ} {s : List ℕ} {from at kind suffixAt found end : ℕ} (w : Seeking (tokens_by u profile) s from at) (short : length s ≤ longest) (h : at < length s) (a : TokenAt u profile s at kind suffixAt found end) where
  pub seeking_found : {b : Bool} → b ≡ is_counted kind → b ≡ true → Ahead (tokens_by u profile) s from kind at suffixAt end
  seeking_found b e =
      let c : is_counted kind ≡ true = sym b ∙ e in
      record {
        place = record { before_suffix = (one_start a).0; before_end = (one_end a).0; within = within short h a };
        after = w.after;
        none = λ z. absurd (omega (arith, token_some short h a));
        some = λ z. (w.members ∙ members_yes short h a c, w.seen ∙ seen_yes short h a c);
      }

  pub seeking_on : {b : Bool} → b ≡ is_counted kind → b ≡ false → Seeking (tokens_by u profile) s from end
  seeking_on b e =
      let c : is_counted kind ≡ false = sym b ∙ e in
      record {
        after = omega (arith, w.after, token_some short h a);
        within = within short h a;
        members = w.members ∙ members_no short h a c;
        seen = w.seen ∙ seen_no short h a c;
      }

pub seeking_end : (u : Letters) (profile : ℕ) {s : List ℕ} {from at : ℕ} → Seeking (tokens_by u profile) s from at → length s ≤ at → Ahead (tokens_by u profile) s from eof at at at
unfolding members_by counted sights
seeking_end u profile {s} {from} {at} w h =
    let z : tokens_by u profile (drop at s) ≡ [] = rw (drop_of_length-le s {i = at} h) (none_of (keyable u profile)) in
    record {
      place = record { before_suffix = omega arith; before_end = omega arith; within = w.within };
      after = w.after;
      none = λ e. (refl, omega (arith, w.within), refl, w.members ∙ rw z, w.seen ∙ rw z);
      some = λ l. absurd (omega arith);
    }

-- at the end the token is none, which counts
module _ {u : Letters} {profile : ℕ} {s : List ℕ} {from at kind suffixAt found end : ℕ} (w : Seeking (tokens_by u profile) s from at) (short : length s ≤ longest) (a : TokenAt u profile s at kind suffixAt found end) where
  at_end : length s ≤ at → (kind ≡ eof) × (suffixAt ≡ at) × (end ≡ at)
  unfolding front
  at_end h =
      let e : token_at u profile s at ≡ front [] = first_one u profile s at short ∙ ap front (none_left u profile s at h) in
      (a.kind_is ∙ ap (λ (t : Token). t.kind) e, omega (arith, a.suffix_is, ap (λ (t : Token). t.suffix) e), omega (arith, a.end_is, ap (λ (t : Token). t.len) e))

  pub seeking_stop : {b : Bool} → b ≡ is_counted kind → b ≡ true → Ahead (tokens_by u profile) s from kind at suffixAt end
  seeking_stop c e =
      elim (dec_lt at (length s)) [
        | yes h ↦ seeking_found w short h a c e
        | no n ↦ let z = at_end (omega arith) in rw (z.0, z.1, z.2) (seeking_end u profile w (omega arith))
      ]

  pub seeking_within : {b : Bool} → b ≡ is_counted kind → b ≡ false → at < length s
  unfolding is_counted
  seeking_within c e =
      elim (dec_lt at (length s)) [
        | yes h ↦ h
        | no n ↦ let z : is_counted kind ≡ true = rw (at_end (omega arith)).0 in absurd (false≢true (sym e ∙ c ∙ z))
      ]

  pub seeking_more : {b : Bool} → b ≡ is_counted kind → b ≡ false → Seeking (tokens_by u profile) s from end
  seeking_more c e = seeking_on w short (seeking_within c e) a c e
