-- The laws of the functions that write records, as `search` takes them.
-- Assumes nothing.
use Prim.Native.Nat.{ℕ, suc, ◌+◌, ◌-◌, ◌*◌, ◌/◌, ◌%◌, ◌≤◌, ◌<◌, min}
use native.Mathlib.Decide.{ℕ_discrete}
use native.Mathlib.Omega.{arith}
use native.Mathlib.Nat.{add-zero}
use native.Mathlib.Numerals.{add-one, add-two, add-three}
use mathlib.Core.Path.{◌≡◌, refl, ap, sym, ◌∙◌}
use mathlib.Core.Bool.{Bool, true, false}
use mathlib.Core.List.{List, [], ◌∷◌, ◌++◌, append_assoc}
use lib.ListN.{length, take, drop, set, get_or, length-set, length-append, length-take, length-drop, drop_of_length-le}
use lib.Seq.{sets, sets-eq, set-set, drop-cons, drop-drop, take_at, drop_at, take-take, length-take-le, length-sets, take_all, take-add}
use borrow.Rule.Slice.PartMut.{put_mid, Post-is}
use borrow.Author.Tests.{eq-eqb, ne_eqb}
use Rattle.lists.proofs.Bools.{on_cond}
use Rattle.lists.specs.Steps.{Put, PutIf}
use Rattle.lists.proofs.Put.{put_then, put_both}
use Rattle.lists.proofs.Store.{StoringFrom, storing_on, storing_put}
use Rattle.renewal.specs.Key.{no_body, body_length, low_bytes, word, body_of, texts, encode}
use Rattle.renewal.specs.Steps.{member, entry, size_by, BodyFits, Writable, Ready}
use Rattle.renewal.proofs.Words.{digits_length}
use Rattle.renewal.proofs.Texts.{texts_nil, texts_length, texts_first}
use Rattle.renewal.proofs.Bodies.{kind_small, body_eight, body_most}

-- ---- bytes that are copied into the key at a place
stored_part : (w list : List ℕ) (k m : ℕ) → length w ≡ m → k + m ≤ length list → put_mid k (k + m - k) list w ≡ sets list k w
stored_part w list k m n h =
    rw (← n)
    (ap (λ (l : List ℕ). take k list ++ (w ++ l)) (Post-is k (k + length w) list (omega arith)) ∙ sym (append_assoc (take k list) w (drop (k + length w) list)) ∙ sym (sets-eq w list k (omega (arith, n))))

same_word : (n : ℕ) → ◌≡◌ {A = List ℕ} (n % 256 ∷ n / 256 % 256 ∷ n / 65536 % 256 ∷ n / 16777216 % 256 ∷ []) (word n)
unfolding low_bytes
same_word n = let e : n / 65536 ≡ n / 256 / 256 = omega arith in let f : n / 16777216 ≡ n / 256 / 256 / 256 = omega arith in rw (e, f)

pub put_word : {part key : List ℕ} {k : ℕ} (n : ℕ) → part ≡ n % 256 ∷ n / 256 % 256 ∷ n / 65536 % 256 ∷ n / 16777216 % 256 ∷ [] → k + 4 ≤ length key → Put key k (word n) (put_mid k (k + 4 - k) key part) (k + 4)
unfolding low_bytes
put_word {part} {key} {k} n e h =
    let w : part ≡ word n = e ∙ same_word n in
    let s : put_mid k (k + 4 - k) key part ≡ sets key k (word n) = rw w (stored_part (word n) key k 4 refl h) in
    record { same = s; next = refl; long = ap length s ∙ length-sets key k (word n) }

-- ---- a part of one to sixteen bytes
four : (part : List ℕ) (i : ℕ) → i + 4 ≤ length part → take 4 (drop i part) ≡ get_or part i 0 ∷ get_or part (i + 1) 0 ∷ get_or part (i + 2) 0 ∷ get_or part (i + 3) 0 ∷ []
four part i h =
    rw (drop-cons part i 0 (omega arith), drop-cons part (suc i) 0 (omega arith), drop-cons part (suc (suc i)) 0 (omega arith), drop-cons part (suc (suc (suc i))) 0 (omega arith), add-one, add-two, add-three)

pub put_four : {out out' : List ℕ} (part : List ℕ) (i : ℕ) {k r : ℕ} → i + 4 ≤ length part →
    out' ≡ set (set (set (set out k (get_or part i 0)) (k + 1) (get_or part (i + 1) 0)) (k + 2) (get_or part (i + 2) 0)) (k + 3) (get_or part (i + 3) 0) → r ≡ k + 4 → Put out k (take 4 (drop i part)) out' r
put_four {out} {out'} part i {k} {r} h u v =
    rw (four part i h) (record { same = u ∙ rw (add-one k, add-two k, add-three k); next = v; long = ap length u ∙ simp length-set })

-- the bytes of a list of one, two or three
module _ (part : List ℕ) where
  rest : (i : ℕ) → i < length part → drop i part ≡ get_or part i 0 ∷ drop (suc i) part
  rest i h = drop-cons part i 0 h

  none : (i : ℕ) → length part ≡ i → drop i part ≡ []
  none i e = drop_of_length-le part {i = i} (omega arith)

  few_1 : (out : List ℕ) (k : ℕ) → length part ≡ 1 → set (set (set out k (get_or part 0 0)) (k + 0) (get_or part 0 0)) (k + 0) (get_or part 0 0) ≡ sets out k part
  few_1 out k e =
      let l : part ≡ get_or part 0 0 ∷ [] = rest 0 (omega arith) ∙ (rw (none 1 e)) in
      let x = get_or part 0 0 in
      rw (add-zero k) (ap (λ (y : List ℕ). set y k x) (set-set out k x x) ∙ set-set out k x x ∙ ap (sets out k) (sym l))

  few_2 : (out : List ℕ) (k : ℕ) → length part ≡ 2 → set (set (set out k (get_or part 0 0)) (k + 1) (get_or part 1 0)) (k + 1) (get_or part 1 0) ≡ sets out k part
  few_2 out k e =
      let l : part ≡ get_or part 0 0 ∷ get_or part 1 0 ∷ [] = rest 0 (omega arith) ∙ (rw (rest 1 (omega arith), none 2 e)) in
      let x = get_or part 0 0 in
      let y = get_or part 1 0 in
      set-set (set out k x) (k + 1) y y ∙ rw (add-one k) (ap (sets out k) (sym l))

  few_3 : (out : List ℕ) (k : ℕ) → length part ≡ 3 → set (set (set out k (get_or part 0 0)) (k + 1) (get_or part 1 0)) (k + 2) (get_or part 2 0) ≡ sets out k part
  few_3 out k e =
      let l : part ≡ get_or part 0 0 ∷ get_or part 1 0 ∷ get_or part 2 0 ∷ [] = rest 0 (omega arith) ∙ (rw (rest 1 (omega arith), rest 2 (omega arith), none 3 e)) in
      rw (add-one k, add-two k) (ap (sets out k) (sym l))

  few : (out : List ℕ) (k m e : ℕ) → 1 ≤ length part → length part ≤ 3 → m ≡ length part / 2 → e ≡ length part - 1 → set (set (set out k (get_or part 0 0)) (k + m) (get_or part m 0)) (k + e) (get_or part e 0) ≡ sets out k part
  few out k m e h g u v =
      elim (ℕ_discrete (length part) 1) [
        | yes l ↦ let a : m ≡ 0 = omega arith in let b : e ≡ 0 = omega arith in rw (a, b) (few_1 out k l)
        | no n₁ ↦ elim (ℕ_discrete (length part) 2) [
          | yes l ↦ let a : m ≡ 1 = omega arith in let b : e ≡ 1 = omega arith in rw (a, b) (few_2 out k l)
          | no n₂ ↦ let a : m ≡ 1 = omega arith in let b : e ≡ 2 = omega arith in rw (a, b) (few_3 out k (omega arith))
        ]
      ]

  pub put_few : {out out' : List ℕ} {k m e r : ℕ} → 1 ≤ length part → length part ≤ 3 → m ≡ length part / 2 → e ≡ length part - 1 → out' ≡ set (set (set out k (get_or part 0 0)) (k + m) (get_or part m 0)) (k + e) (get_or part e 0) → r ≡ k + length part → Put out k part out' r
  put_few {out} {out'} {k} {m} {e} {r} h g u v w x = record { same = w ∙ few out k m e h g u v; next = x; long = ap length w ∙ simp length-set }

  some_end : (i e : ℕ) → i + e ≤ length part → drop e (take (e + 4) (drop i part)) ≡ take 4 (drop (i + e) part)
  some_end i e h =
      let l = drop i part in
      ap (drop e) (take-add e 4 l) ∙ drop_at (take e l) (take 4 (drop e l)) e (length-take-le e l (omega (arith, length-drop i part))) ∙ ap (take 4) (drop-drop e i part)

  -- four to eight
  pub put_some : {out out₁ out₂ : List ℕ} (i m : ℕ) {e j k k₁ k₂ r : ℕ} → 4 ≤ m → m ≤ 8 → i + m ≤ length part → e ≡ m - 4 → Put out k (take 4 (drop i part)) out₁ k₁ → k₂ ≡ k + e → j ≡ i + e → Put out₁ k₂ (take 4 (drop j part)) out₂ r → Put out k (take m (drop i part)) out₂ r
  put_some {out} {out₁} {out₂} i m {e} {j} {k} {k₁} {k₂} {r} h g l u p v w q =
      let t = take m (drop i part) in
      let n : length t ≡ m = length-take-le m (drop i part) (omega (arith, length-drop i part)) in
      let a : take 4 t ≡ take 4 (drop i part) = take-take 4 m (drop i part) h in
      let x : length t - 4 ≡ e = omega (arith, n) in
      let y : m ≡ e + 4 = omega arith in
      let b : drop (length t - 4) t ≡ take 4 (drop j part) = rw (x, y, w) (some_end i e (omega arith)) in
      let p' : Put out k (take 4 t) out₁ k₁ = rw a p in
      let q' : Put out₁ k₂ (drop (length t - 4) t) out₂ r = rw b q in
      put_both t 4 (omega (arith, n)) (omega (arith, n)) p' q' (omega (arith, n))

  -- both ends of the whole
  pub put_ends : {out out₁ out₂ : List ℕ} (i m : ℕ) {k k₁ k₂ r : ℕ} → m ≤ length part → length part ≤ 2 * m → i ≡ length part - m → Put out k (take m (drop 0 part)) out₁ k₁ → k₂ ≡ k + i → Put out₁ k₂ (take m (drop i part)) out₂ r → Put out k part out₂ r
  put_ends i m h g e p v q =
      let l : take m (drop i part) ≡ drop i part = take_all m (drop i part) (omega (arith, length-drop i part)) in
      put_both part m h g p (rw e at (rw l at q)) (omega arith)

-- ---- text records stored one by one
-- a part of at most sixteen bytes is the next record
module _ (text left part rest : List ℕ) {out₀ out : List ℕ} {k₀ k size : ℕ} (w : StoringFrom k₀ (texts text) true out₀ (texts left) k out)
    (v : left ≡ part ++ rest) (z : size ≡ 16) (m : length part ≡ min size (length left)) (h : 0 < length left) where
  texting_view : texts left ≡ ((128 + length part) ∷ part) ++ texts rest
  texting_view =
      texts_first left (length part) h (omega arith) ∙ rw v (rw (take_at part rest (length part) refl, drop_at part rest (length part) refl))

  texting_long : length (texts left) ≡ suc (length part) + length (texts rest)
  texting_long = ap length texting_view ∙ length-append ((128 + length part) ∷ part) (texts rest)

  pub texting_byte : k₀ + length (texts text) ≤ length out₀ → k + 1 ≤ length out
  texting_byte r = omega (arith, w.count, w.long, texting_long)

  pub texting_part : {b k₁ : ℕ} {out₁ : List ℕ} → k₀ + length (texts text) ≤ length out₀ → Put out k (b ∷ []) out₁ k₁ → (1 ≤ length part) × (length part ≤ 16) × (k₁ + length part ≤ length out₁)
  texting_part r p = (omega arith, omega arith, omega (arith, w.count, w.long, texting_long, p.next, p.long))

  pub texting_more : {out₁ out₂ : List ℕ} {k₁ k₂ : ℕ} → Put out k ((128 + length part) ∷ []) out₁ k₁ → Put out₁ k₁ part out₂ k₂ → StoringFrom k₀ (texts text) true out₀ (texts rest) k₂ out₂
  texting_more p q =
      let u = put_then p q refl in storing_on {vs = (128 + length part) ∷ part} {rest = texts rest} (rw texting_view at w) (record { same = u.same; next = u.next })

pub texting_end : (text left : List ℕ) {out₀ out : List ℕ} {k₀ k : ℕ} → StoringFrom k₀ (texts text) true out₀ (texts left) k out → length left ≡ 0 → Put out₀ k₀ (texts text) out k
texting_end text [] w h = let p = storing_put (rw texts_nil at w) in record { same = p.same; next = p.next; long = w.long }
texting_end text (_ ∷ _) w h = absurd (omega (arith, h))

-- ---- a body
module _ {body k : ℕ} {key : List ℕ} (f : BodyFits body k key) where
  pub body_first : k + 4 ≤ length key
  body_first = elim (ℕ_discrete body 4) [ yes e ↦ omega (arith, f.room) | no n ↦ omega (arith, f.room, f.eight n) ]

  module _ (len : ℕ) {a : ℕ} {key₁ : List ℕ} (p : Put key k (word len) key₁ a) where
    pub body_four : (suffix : ℕ) → body ≡ 4 → Put key k (take body (word len ++ word suffix)) key₁ a
    unfolding low_bytes
    body_four suffix e = rw e p

    pub body_second : (body ≡ 4 → ⊥) → a + 4 ≤ length key₁
    body_second n = omega (arith, f.room, f.eight n, p.next, p.long, digits_length 4 len)

    pub body_both : (suffix : ℕ) {r : ℕ} {key₂ : List ℕ} → (body ≡ 4 → ⊥) → Put key₁ a (word suffix) key₂ r → Put key k (take body (word len ++ word suffix)) key₂ r
    unfolding low_bytes
    body_both suffix n q = put_then p q (rw (f.eight n))

-- ---- one record: its bytes, and how many they are
module _ (kind suffix : ℕ) (text : List ℕ) where
  abbrev is : List ℕ
  is = encode (member kind suffix text)

  is_empty : body_length kind ≡ 0 → is ≡ kind ∷ []
  unfolding encode
  is_empty b = rw b

  is_stored : (body_length kind ≡ 0 → ⊥) → is ≡ (kind ∷ []) ++ (body_of (member kind suffix text) ++ texts text)
  unfolding encode
  is_stored z = rw (ne_eqb (body_length kind) 0 z)

  body_long : (body_length kind ≡ no_body → ⊥) → length (body_of (member kind suffix text)) ≡ body_length kind
  unfolding low_bytes
  body_long n = omega (arith, length-take (body_length kind) (word (length text) ++ word suffix), body_most kind n)

  pub size_is : (body_length kind ≡ no_body → ⊥) → length is ≡ size_by (body_length kind) (length text)
  size_is n =
      elim (ℕ_discrete (body_length kind) 0) [
        | yes z ↦ ap length (is_empty z) ∙ rw z
        | no z ↦
            ap length (is_stored z)
            ∙ rw (ne_eqb (body_length kind) 0 z) (omega (arith, length-append (body_of (member kind suffix text)) (texts text), body_long n, texts_length text))
      ]

module _ {body k kind suffix : ℕ} {text key : List ℕ} (w : Writable body k kind suffix text key) where
  stands : body_length kind ≡ no_body → ⊥
  stands z = w.stands (w.body_is ∙ z)

  pub writable_kind : kind < 256
  writable_kind = omega (arith, kind_small kind stands)

  pub writable_byte : k + 1 ≤ length key
  unfolding encode
  writable_byte = omega (arith, w.room)

  module _ {a c : ℕ} {key₁ : List ℕ} (p : Put key k (c ∷ []) key₁ a) (u : c ≡ kind) where
    pub written_empty : body ≡ 0 → Put key k (encode (member kind suffix text)) key₁ a
    written_empty z = rw (is_empty kind suffix text (sym w.body_is ∙ z), ← u) p

    module _ (z : body ≡ 0 → ⊥) where
      stored_size : length (encode (member kind suffix text)) ≡ 1 + body + length (texts text)
      stored_size =
          size_is kind suffix text stands ∙ rw (← w.body_is, ne_eqb body 0 z) (omega (arith, texts_length text))

      pub writable_body : BodyFits body a key₁
      writable_body =
          record {
            room = omega (arith, stored_size, w.room, p.next, p.long);
            eight = λ f. w.body_is ∙ body_eight kind stands (λ x. z (w.body_is ∙ x)) (λ x. f (w.body_is ∙ x));
          }

      module _ {d n : ℕ} {key₂ : List ℕ} (q : Put key₁ a (take body (word n ++ word suffix)) key₂ d) (v : n ≡ length text) where
        body_put : Put key₁ a (body_of (member kind suffix text)) key₂ d
        body_put = rw (w.body_is, v) at q

        pub writable_texts : d + length (texts text) ≤ length key₂
        writable_texts =
            omega (arith, stored_size, w.room, w.body_is, p.next, p.long, body_put.next, q.long, body_long kind suffix text stands)

        pub written_stored : {key₃ : List ℕ} {r : ℕ} → Put key₂ d (texts text) key₃ r → Put key k (encode (member kind suffix text)) key₃ r
        written_stored s = put_then p (put_then body_put s refl) (is_stored kind suffix text (λ x. z (w.body_is ∙ x)) ∙ rw u)

-- ---- one member
pub size_empty : (body n : ℕ) → body ≡ 0 → 1 ≡ size_by body n
size_empty body n e = rw (eq-eqb body 0 e)

pub size_stored : (body n : ℕ) {r : ℕ} → (body ≡ 0 → ⊥) → r ≡ 1 + body + (n + (n + 15) / 16) → r ≡ size_by body n
size_stored body n e u = rw (ne_eqb body 0 e) u

module _ (kind suffix : ℕ) (text : List ℕ) {body : ℕ} (b : body ≡ body_length kind) where
  pub entered_none : {write : Bool} {k : ℕ} {key key' : List ℕ} → body ≡ no_body → key' ≡ key → PutIf write key k (entry (member kind suffix text)) key' k
  unfolding entry
  entered_none {write} {k} {key} n e =
      let z : entry (member kind suffix text) ≡ [] = rw (eq-eqb (body_length kind) no_body (sym b ∙ n)) in
      rw z (record { same = e ∙ on_cond (λ (x : List ℕ). key ≡ x) write refl refl; next = omega arith })

  module _ (n : body ≡ no_body → ⊥) where
    entry_is : entry (member kind suffix text) ≡ encode (member kind suffix text)
    unfolding entry
    entry_is = rw (ne_eqb (body_length kind) no_body (λ z. n (b ∙ z)))

    pub writable : {table key : List ℕ} {write : Bool} {k : ℕ} → Ready table write k kind suffix text key → write ≡ true → Writable body k kind suffix text key
    writable r t = record { body_is = b; stands = n; short = r.short; room = rw entry_is at (r.room t) }

    pub entered_written : {write : Bool} {k r : ℕ} {key key' : List ℕ} → write ≡ true → Put key k (encode (member kind suffix text)) key' r → PutIf write key k (entry (member kind suffix text)) key' r
    entered_written t p = rw (entry_is, t) (record { same = p.same; next = p.next })

    pub entered_sized : {write : Bool} {k m r : ℕ} {key key' : List ℕ} → write ≡ false → m ≡ size_by body (length text) → r ≡ k + m → key' ≡ key → PutIf write key k (entry (member kind suffix text)) key' r
    entered_sized {m = m} t u v e =
        let l : length (encode (member kind suffix text)) ≡ m = size_is kind suffix text (λ z. n (b ∙ z)) ∙ ap (λ (x : ℕ). size_by x (length text)) (sym b) ∙ sym u in
        rw (entry_is, t) (record { same = e; next = omega (arith, l) })

-- a body has at most eight bytes
pub size_fits : (kind n : ℕ) {body m : ℕ} → body ≡ body_length kind → (body ≡ no_body → ⊥) → m ≡ size_by body n → m ≤ 9 + (n + (n + 15) / 16)
size_fits kind n {body} {m} b s e =
    elim (ℕ_discrete body 0) [
      | yes z ↦ omega (arith, size_empty body n z)
      | no z ↦ omega (arith, size_stored body n z refl, body_most kind (λ x. s (b ∙ x)))
    ]

-- so a member of one byte or more adds at most eleven bytes for each
pub entry_few : (kind suffix : ℕ) (text : List ℕ) → 1 ≤ length text → length (entry (member kind suffix text)) ≤ 11 * length text
unfolding entry
entry_few kind suffix text h =
    elim (ℕ_discrete (body_length kind) no_body) [
      | yes e ↦ rw (eq-eqb (body_length kind) no_body e) (omega arith)
      | no n ↦
          rw (ne_eqb (body_length kind) no_body n)
          (omega (arith, size_is kind suffix text n, size_fits kind (length text) refl n refl))
    ]
