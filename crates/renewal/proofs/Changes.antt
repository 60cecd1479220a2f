-- What else leaves the key of an accepted text as it is, the new text being accepted too where it is not too long: a newline at the end, white space
-- and comments put in, and CR LF for LF. What is put in may hold no direction mark, and white space holds none.
-- Assumes nothing.
use Prim.Native.Nat.{ℕ, ◌≤◌}
use native.Mathlib.Decide.{dec_le}
use native.Mathlib.Omega.{arith}
use mathlib.Core.Path.{◌≡◌, refl, sym, ◌∙◌}
use mathlib.Core.Bool.{true, false, not, ◌||◌, false≢true}
use mathlib.Core.List.{List, [], ◌∷◌, ◌++◌}
use lib.Dec.{eqb}
use lib.ListN.{length}
use borrow.Author.Tests.{lt-leb}
use Rattle.lists.specs.All.{all}
use Rattle.lists.proofs.Bools.{both, and_false}
use Rattle.characters.specs.Ranges.{in_table}
use Rattle.characters.specs.Utf8.{chars, WellFormed}
use Rattle.characters.specs.Direction.{is_direction, unmarked}
use Rattle.text.specs.Answer.{done, longest, check_cut}
use Rattle.text.proofs.Checks.{cut_accepted}
use Rattle.letters.specs.Chars.{is_whitespace, whitespace}
use Rattle.cutters.specs.Records.{Token}
use Rattle.cutters.specs.Kinds.{block_comment, whitespace_kind}
use Rattle.lexer.specs.Promises.{tokens3}
use Rattle.locality.specs.Newline.{none_count, MadeOf}
use Rattle.locality.specs.Changes.{last_is, is_line, is_open, LfIn, EndsAt, inserted}
use Rattle.locality.proofs.Corollaries.{newline_appended, white_inserted, text_inserted, crlf}
use Rattle.tokens.specs.Members.{is_counted, members3}
use Rattle.tokens.proofs.OpenQasm.{members_known}
use Rattle.renewal.specs.Promises.{Keeps}
use Rattle.renewal.proofs.Newline.{same_accepted, lf_plain}

-- ---- neither CR nor other white space is a direction mark
cr_plain : all (λ c. not (is_direction c)) (0x0D ∷ []) ≡ true
unfolding all
cr_plain = refl

white_char : (c : ℕ) → is_whitespace c ≡ true → not (is_direction c) ≡ true
unfolding whitespace in_table
white_char c h =
    elim (dec_le c 0x2029) [
      | yes l ↦ simp (lt-leb 0x202A c (omega arith), lt-leb 0x2066 c (omega arith))
      | no g ↦
          let w : is_whitespace c ≡ false =
          simp (lt-leb c 0x0D (omega arith), lt-leb c 0x20 (omega arith), lt-leb c 0x85 (omega arith), lt-leb c 0x200F (omega arith), lt-leb c 0x2029 (omega arith), and_false) in
          absurd (false≢true (sym w ∙ h))
    ]

white_plain : (l : List ℕ) → all is_whitespace l ≡ true → all (λ c. not (is_direction c)) l ≡ true
unfolding all
white_plain [] h = refl
white_plain (c ∷ l) h =
    let b = both (is_whitespace c) (all is_whitespace l) h in rw (white_char c b.0, white_plain l b.1)

module _ (profile : ℕ) (s : List ℕ) (h : (check_cut s profile).0 ≡ done) where
  known : {more s' : List ℕ} → MadeOf more s s' × (members3 profile s' ≡ members3 profile s) → all (λ c. not (is_direction c)) more ≡ true → length s' ≤ longest → Keeps profile s s'
  known {s' = s'} m q l =
      let k = (cut_accepted s profile h).known in
      same_accepted profile h m.0 q l (members_known profile s' k ∙ m.1 ∙ sym (members_known profile s k))

  -- a newline put at the end, where the last token is no unclosed comment and no unclosed quoted text
  pub newline_appended_key : last_is is_open (tokens3 profile s) ≡ false → length (s ++ 0x0A ∷ []) ≤ longest → Keeps profile s (s ++ 0x0A ∷ [])
  newline_appended_key o l = known (newline_appended profile s (cut_accepted s profile h).text.good o) lf_plain l

  module _ {at : ℕ} {t : Token} (v : List ℕ) (e : EndsAt (tokens3 profile) s at t) (g : WellFormed v) (l : length (inserted s at v) ≤ longest) where
    -- white space put directly behind a token that does not count
    pub white_inserted_key : is_counted t.kind ≡ false → all is_whitespace (chars v) ≡ true → Keeps profile s (inserted s at v)
    white_inserted_key n w =
        known (white_inserted profile v (cut_accepted s profile h).text.good e n g w) (white_plain (chars v) w) l

    -- comments and white space without direction marks, the last no line comment, put directly behind white space or a closed block comment
    pub text_inserted_key : (eqb t.kind block_comment || eqb t.kind whitespace_kind) ≡ true → none_count (tokens3 profile v) ≡ true → last_is is_line (tokens3 profile v) ≡ false → unmarked v ≡ true → Keeps profile s (inserted s at v)
    unfolding unmarked
    text_inserted_key k n o u =
        known (text_inserted profile v (cut_accepted s profile h).text.good e k g n o) u l

-- a CR put before an LF in white space that ends no Pragma and no Annotation
pub crlf_key : (profile : ℕ) (a b : List ℕ) → (check_cut (a ++ 0x0A ∷ b) profile).0 ≡ done → WellFormed a → LfIn (tokens3 profile) a b → length (a ++ 0x0D ∷ 0x0A ∷ b) ≤ longest → Keeps profile (a ++ 0x0A ∷ b) (a ++ 0x0D ∷ 0x0A ∷ b)
crlf_key profile a b h w i l =
    known profile (a ++ 0x0A ∷ b) h (crlf profile a b w (cut_accepted (a ++ 0x0A ∷ b) profile h).text.good i) cr_plain l
