-- THE TEXT IS THE TEXT: where each carry lent has the kept bytes as the call before left them, what the text question answers is that part of the whole text. For
-- the carry of an accepted call holds the text from where its tokens start, as far as is packed, and behind that the text from where the next token starts.
-- Assumes nothing.
use Prim.Native.Nat.{ℕ, zero, suc, ◌+◌, ◌-◌, ◌≤◌, ◌<◌}
use native.Mathlib.Decide.{dec_lt}
use native.Mathlib.Omega.{arith}
use mathlib.Core.Path.{◌≡◌, refl, ap, sym, ◌∙◌}
use mathlib.Core.Bool.{Bool, true, false, not, ◌&&◌}
use mathlib.Core.List.{List, [], ◌∷◌, ◌++◌, append_assoc, append-nil}
use lib.Dec.{eqb, leb, ltb}
use lib.ListN.{length, take, drop, get_or, length-append, length-take, length-drop, get_or-append}
use lib.Seq.{get_or-take, get_or-drop, get_or-append-add, ext_get_or, drop-drop, drop_at}
use borrow.Author.Tests.{leb-true, leb-false, ltb-true, ltb-false, lt-ltb, eqb-true, eqb-false, not-true, not-false}
use Rattle.lists.specs.Over.{over}
use Rattle.lists.proofs.Bools.{by_test, both}
use Rattle.characters.specs.Utf8.{chars}
use Rattle.characters.proofs.Text.{bytes_chars}
use Rattle.characters.proofs.Valid.{valid_within}
use Rattle.text.specs.Answer.{done}
use Rattle.lexer.specs.Unicode.{unicode}
use Rattle.feeding.specs.Fed.{State, idle}
use Rattle.feeding.specs.Begun.{whole}
use Rattle.feeding.specs.Lexer.{Lexer, started}
use Rattle.feeding.specs.Call.{places, given, fed_all, next_begun, early, sequence, stood, there, byte_of, up_to, keeps, accepted}
use Rattle.feeding.specs.Question.{asked, kept_of, number, text_of}
use Rattle.feeding.specs.History.{Taken, after, text_of_all}
use Rattle.feeding.proofs.Begun.{whole_long}
use Rattle.feeding.proofs.History.{Stands, state_of_history}
use Rattle.feeding.proofs.Running.{fit_steps}
use Rattle.feeding.proofs.Tiles.{tiles_grow, fed_tile}
use Rattle.feeding.proofs.Carry.{places_long, up_more, up_stop}

-- ---- what a carry holds behind an accepted call, where the whole text so far is t
pub record Carries (x : Lexer) (t left : List ℕ) : Type 0 where
  pub all : x.fed ≡ length t
  pub chunk_ends : x.chunk_at + x.chunk_len ≡ x.fed
  pub begins : ((i : ℕ) → i < x.kept → i < x.packed → get_or left i 0 ≡ get_or t (x.from + i) 0)
  pub goes_on : ((i : ℕ) → i < x.kept → x.packed ≤ i → get_or left i 0 ≡ get_or t (x.begun + (i - x.packed)) 0)

-- nothing of what was kept has been altered, in as much of the carry as is lent
abbrev pub Lent : Lexer → List ℕ → List ℕ → Type 0
Lent x left carry = (i : ℕ) → i < x.kept → i < length carry → get_or carry i 0 ≡ get_or left i 0

places_at : (n i j : ℕ) → j < n → get_or (places i n) j 0 ≡ i + j
unfolding places
places_at zero i j h = absurd (omega arith)
places_at (suc n) i zero h = omega arith
places_at (suc n) i (suc j) h = places_at n (suc i) j (omega arith) ∙ omega arith

module _ (x : Lexer) (last : Bool) (chunk carry : List ℕ) where
  abbrev up : List ℕ → List ℕ
  up = up_to x last chunk carry

  -- ---- what is taken of the places: the byte of each, which is there
  record Found (is : List ℕ) (j : ℕ) : Type 0 where
    within : j < length is
    same : get_or (up is) j 0 ≡ byte_of x last chunk carry (get_or is j 0)
    is_there : there x last chunk carry (get_or is j 0) ≡ true

  one_more : (i : ℕ) (is : List ℕ) → there x last chunk carry i ≡ true → ((j : ℕ) → j < length (up is) → Found is j) → (j : ℕ) → j < length (up (i ∷ is)) → Found (i ∷ is) j
  one_more i is e ih zero h = record { within = omega arith; same = rw (up_more x last chunk carry i is e); is_there = e }
  one_more i is e ih (suc j) h =
      let m = up_more x last chunk carry i is e in
      let k = ih j (omega (arith, ap length m)) in
      record { within = omega (arith, k.within); same = rw m k.same; is_there = k.is_there }

  up_to_lem : (is : List ℕ) (j : ℕ) → j < length (up is) → Found is j
  unfolding up_to
  up_to_lem [] j h = absurd (omega arith)
  up_to_lem (i ∷ is) j h =
      by_test (there x last chunk carry i) (λ e. one_more i is e (λ j h. up_to_lem is j h) j h) (λ e. absurd (omega (arith, ap length (up_stop x last chunk carry i is e))))

  -- ---- the sequence
  abbrev a : ℕ
  a = early x last chunk - x.begun

  abbrev p : List ℕ
  p = places x.begun a

  abbrev q : List ℕ
  q = places (next_begun x last chunk) (fed_all x last chunk - next_begun x last chunk)

  seq_first : (j : ℕ) → j < a → get_or (sequence x last chunk) j 0 ≡ x.begun + j
  unfolding sequence
  seq_first j h = get_or-append p q 0 j (omega (arith, places_long a x.begun)) ∙ places_at a x.begun j h

  seq_second : (j : ℕ) → a ≤ j → j < length (sequence x last chunk) → get_or (sequence x last chunk) j 0 ≡ next_begun x last chunk + (j - a)
  unfolding sequence
  seq_second j h l =
      let n = next_begun x last chunk in
      let m = fed_all x last chunk - n in
      let z : j ≡ length p + (j - a) = omega (arith, places_long a x.begun) in
      ap (λ (k : ℕ). get_or (p ++ q) k 0) z ∙ get_or-append-add p q (j - a) 0
      ∙ places_at m n (j - a) (omega (arith, length-append p q, places_long a x.begun, places_long m n))

  -- ---- with t the text so far, and a carry that was not altered
  module _ (t left : List ℕ) (c : Carries x t left) (lent : Lent x left carry) where
    the_byte : (i : ℕ) → x.begun ≤ i → there x last chunk carry i ≡ true → byte_of x last chunk carry i ≡ get_or (t ++ chunk) i 0
    the_byte i g h =
        by_test (leb x.fed i)
        (λ e.
        let z : length t + (i - x.fed) ≡ i = omega (arith, leb-true x.fed i e, c.all) in
        rw e (sym (get_or-append-add t chunk (i - x.fed) 0) ∙ ap (λ (n : ℕ). get_or (t ++ chunk) n 0) z))
        (λ e.
        let s = stood x last chunk carry i in
        let k = both (ltb s x.kept) (ltb s (length carry)) (rw e at h) in
        let a : s < x.kept = ltb-true s x.kept k.0 in
        let b : s < length carry = ltb-true s (length carry) k.1 in
        let z : x.begun + (s - x.packed) ≡ i = omega arith in
        rw e (lent s a b ∙ c.goes_on s a (omega arith) ∙ ap (λ (n : ℕ). get_or t n 0) z ∙ sym (get_or-append t chunk 0 i (omega (arith, leb-false x.fed i e, c.all)))))

    module _ (grows : x.begun ≤ next_begun x last chunk) where
      seq_after : (j : ℕ) → j < length (sequence x last chunk) → x.begun ≤ get_or (sequence x last chunk) j 0
      seq_after j l = elim (dec_lt j a) [ yes h ↦ omega (arith, seq_first j h) | no n ↦ omega (arith, seq_second j (omega arith) l) ]

      -- each byte that is kept is the text's, at its place of the sequence
      kept_byte : (j : ℕ) → j < length (keeps x last chunk carry) →
          (j < length (sequence x last chunk)) × (get_or (over (keeps x last chunk carry) carry) j 0 ≡ get_or (t ++ chunk) (get_or (sequence x last chunk) j 0) 0)
      unfolding keeps
      kept_byte j h =
          let s = sequence x last chunk in
          let k = take (length carry) (up s) in
          let l = length-take (length carry) (up s) in
          let f = up_to_lem s j (omega (arith, l)) in (
            f.within,
            get_or-append k (drop (length k) carry) 0 j h ∙ get_or-take (length carry) (up s) j 0 (omega (arith, l)) ∙ f.same
                ∙ the_byte (get_or s j 0) (seq_after j f.within) f.is_there,
          )

      pub carries_on : Carries (accepted x last chunk carry) (t ++ chunk) (over (keeps x last chunk carry) carry)
      carries_on =
          record {
            all = omega (arith, c.all, length-append t chunk);
            chunk_ends = refl;
            begins = λ i h l. let k = kept_byte i h in k.1 ∙ ap (λ (n : ℕ). get_or (t ++ chunk) n 0) (seq_first i l);
            goes_on = λ i h l. let k = kept_byte i h in k.1 ∙ ap (λ (n : ℕ). get_or (t ++ chunk) n 0) (seq_second i l k.0);
          }

-- ---- one question
module _ (x : Lexer) (chunk carry : List ℕ) (start len : ℕ) where
  -- what a span has passed that is asked for, and one that is answered
  pub record Asked : Type 0 where
    pub some : 1 ≤ len
    pub after : x.from ≤ start
    pub before : start + len ≤ x.until
    pub within : start + len ≤ x.chunk_at + x.chunk_len
    pub same_chunk : length chunk ≡ x.chunk_len
    pub same_carry : length carry ≡ x.carry_len

  pub from_asked : asked x (length chunk) (length carry) start len ≡ true → Asked
  from_asked e =
      let spans = leb x.from start && (leb (start + len) x.until && leb (start + len) (x.chunk_at + x.chunk_len)) in
      let alike = eqb (length chunk) x.chunk_len && eqb (length carry) x.carry_len in
      let p = both (not (eqb len 0)) (spans && alike) e in
      let q = both spans alike p.1 in
      let i = both (leb x.from start) (leb (start + len) x.until && leb (start + len) (x.chunk_at + x.chunk_len)) q.0 in
      let j = both (leb (start + len) x.until) (leb (start + len) (x.chunk_at + x.chunk_len)) i.1 in
      let k = both (eqb (length chunk) x.chunk_len) (eqb (length carry) x.carry_len) q.1 in
      record {
        some = elim (dec_lt 0 len) [ yes y ↦ y | no n ↦ absurd (eqb-false len 0 (not-true (eqb len 0) p.0) (omega arith)) ];
        after = leb-true x.from start i.0;
        before = leb-true (start + len) x.until j.0;
        within = leb-true (start + len) (x.chunk_at + x.chunk_len) j.1;
        same_chunk = eqb-true (length chunk) x.chunk_len k.0;
        same_carry = eqb-true (length carry) x.carry_len k.1;
      }

  pub answered : number x chunk carry start len ≡ done → Asked × (start < x.chunk_at → start + len ≤ x.from + kept_of x (length chunk) (length carry) start len)
  unfolding number
  answered h =
      let ask = asked x (length chunk) (length carry) start len in
      let early = ltb start x.chunk_at in
      let past = ltb (x.from + kept_of x (length chunk) (length carry) start len) (start + len) in
      by_test (not ask) (λ e. absurd (omega (arith, rw e at h)))
      (λ e. by_test (early && past) (λ f. absurd (omega (arith, rw (e, f) at h)))
      (λ f. (from_asked (not-false ask e), λ l. ltb-false (x.from + kept_of x (length chunk) (length carry) start len) (start + len) (rw (lt-ltb start x.chunk_at l) at f))))

  -- the bytes of a part
  part_at : (n : ℕ) (l : List ℕ) (i : ℕ) → i < len → get_or (take len (drop n l)) i 0 ≡ get_or l (n + i) 0
  part_at n l i h = get_or-take len (drop n l) i 0 h ∙ get_or-drop n l i 0

  part_long : (n : ℕ) (l : List ℕ) → n + len ≤ length l → length (take len (drop n l)) ≡ len
  part_long n l h = omega (arith, length-take len (drop n l), length-drop n l)

  -- the chunk is that of the last accepted call, and the carry has its kept bytes as that call left them
  pub text_is : (t left : List ℕ) → Carries x t left → chunk ≡ drop x.chunk_at t → Lent x left carry → number x chunk carry start len ≡ done →
      text_of x chunk carry start len ≡ take len (drop start t)
  unfolding text_of
  text_is t left c e lent h =
      let ok = answered h in
      let q = ok.0 in
      by_test (leb x.chunk_at start)
      (λ f.
      let z : x.chunk_at + (start - x.chunk_at) ≡ start = omega (arith, leb-true x.chunk_at start f) in
      rw (h, f, e, drop-drop (start - x.chunk_at) x.chunk_at t, z))
      (λ f.
      let l : start < x.chunk_at = leb-false x.chunk_at start f in
      let k = ok.1 l in
      let g = q.after in
      let b : start - x.from + len ≤ length carry = omega (arith, q.same_carry) in
      rw (h, f)
      (ext_get_or 0 (take len (drop (start - x.from) carry)) (take len (drop start t))
      (part_long (start - x.from) carry b ∙ sym (part_long start t (omega (arith, q.within, c.all, c.chunk_ends))))
      (λ i d.
      let n : i < len = omega (arith, part_long (start - x.from) carry b) in
      let j = start - x.from + i in
      let z : x.from + j ≡ start + i = omega arith in
      part_at (start - x.from) carry i n ∙ lent j (omega arith) (omega arith) ∙ c.begins j (omega arith) (omega arith) ∙ ap (λ (y : ℕ). get_or t y 0) z ∙ sym (part_at start t i n))))

-- ---- many calls
-- the carry behind a call
abbrev pub leaves : Lexer → Bool → Taken → List ℕ
leaves x last c = over (keeps x last c.chunk c.carry) c.carry

-- no carry is altered between two calls
abbrev pub Unaltered : Lexer → List ℕ → List Taken → Type 0
Unaltered x left [] = Unit {0}
Unaltered x left (c ∷ cs) = Lent x left c.carry × Unaltered (accepted x false c.chunk c.carry) (leaves x false c) cs

-- the carry behind them all
unfoldable pub left_by : Lexer → List ℕ → List Taken → List ℕ
left_by x left [] = left
left_by x left (c ∷ cs) = left_by (accepted x false c.chunk c.carry) (leaves x false c) cs

-- the next token starts no earlier
fed_grows : (x : Lexer) (chunk : List ℕ) → x.begun ≤ next_begun x false chunk
fed_grows x chunk = tiles_grow (given x false chunk) x.begun (next_begun x false chunk) (fed_tile x chunk)

pub carries_all : (cs : List Taken) (x : Lexer) (t left : List ℕ) → Carries x t left → Unaltered x left cs → Carries (after x cs) (t ++ text_of_all cs) (left_by x left cs)
unfolding after left_by text_of_all
carries_all [] x t left c u = rw append-nil c
carries_all (d ∷ cs) x t left c u =
    let k = carries_on x false d.chunk d.carry t left c u.0 (fed_grows x d.chunk) in
    rw append_assoc at (carries_all cs (accepted x false d.chunk d.carry) (t ++ d.chunk) (leaves x false d) k u.1)

carries_none : (p : ℕ) → Carries (started p) [] []
carries_none p = record { all = refl; chunk_ends = refl; begins = λ i h l. absurd (omega arith); goes_on = λ i h l. absurd (omega arith) }

-- where a lexer stands behind a text, the token that has begun starts within it
pub stands_within : {p : ℕ} {s : List ℕ} {x : Lexer} → Stands p s x → x.begun ≤ x.fed
stands_within {p} {s} h =
    omega (arith, ap (λ (y : State × ℕ). y.1) h.there, (fit_steps unicode p (chars (whole s)) 0 idle tt).1, bytes_chars (whole s), whole_long s, valid_within s, h.long)

-- FROM THE START ON, whatever parts the text came in, in the call behind them or at the finish
pub text_of_history : (p : ℕ) (cs : List Taken) (last : Bool) (c : Taken) (carry : List ℕ) (start len : ℕ) →
    let x = after (started p) cs in
    let y = accepted x last c.chunk c.carry in
    Unaltered (started p) [] cs → Lent x (left_by (started p) [] cs) c.carry → Lent y (leaves x last c) carry → number y c.chunk carry start len ≡ done →
    text_of y c.chunk carry start len ≡ take len (drop start (text_of_all cs ++ c.chunk))
text_of_history p cs last c carry start len u v w h =
    let x = after (started p) cs in
    let t = text_of_all cs in
    let k = carries_all cs (started p) [] [] (carries_none p) u in
    let y = accepted x last c.chunk c.carry in
    let m = carries_on x last c.chunk c.carry t (left_by (started p) [] cs) k v (grows last) in
    text_is y c.chunk carry start len (t ++ c.chunk) (leaves x last c) m (sym (drop_at t c.chunk x.fed (sym k.all))) w h
  where
    grows : (last : Bool) → (after (started p) cs).begun ≤ next_begun (after (started p) cs) last c.chunk
    grows true = omega (arith, stands_within (state_of_history p cs))
    grows false = fed_grows (after (started p) cs) c.chunk
