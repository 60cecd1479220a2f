-- BYTES MOVED TO THE FRONT, and bytes copied, one by one.
-- Assumes nothing.
use Prim.Native.Nat.{ℕ, suc, ◌+◌, ◌-◌, ◌≤◌, ◌<◌, min}
use native.Mathlib.Omega.{arith}
use native.Mathlib.Numerals.{add-one}
use mathlib.Core.Path.{◌≡◌, refl, ap, sym, ◌∙◌}
use mathlib.Core.List.{List, ◌∷◌}
use lib.ListN.{length, take, drop, get_or, set, length-drop, length-set, take-append-drop}
use lib.Seq.{sets, drop-cons, take_all, take-nil, drop-drop, take-suc, take-suc-set, drop-set-lt, get_or-drop, length-take-le}
use Rattle.std.proofs.lemmas.List.{take_min}
use Rattle.lists.specs.Over.{over}
use Rattle.parts.specs.Steps.{Copied}

pub record Moving (carry₀ : List ℕ) (from n : ℕ) (carry : List ℕ) (i : ℕ) : Type 0 where
  pub within : i ≤ n
  pub room : n ≤ length carry₀ - from
  pub front : take i carry ≡ take i (drop from carry₀)
  pub rest : drop i carry ≡ drop i carry₀
  pub long : length carry ≡ length carry₀

pub moving_none : (carry : List ℕ) (from n : ℕ) → n ≤ length carry - from → Moving carry from n carry 0
moving_none carry from n h = record { within = omega arith; room = h; front = refl; rest = refl; long = refl }

module _ {carry₀ carry : List ℕ} {from n i : ℕ} (s : Moving carry₀ from n carry i) where
  pub moving_more : i < n → Moving carry₀ from n (set carry i (get_or carry (from + i) 0)) (i + 1)
  moving_more h =
      let v = get_or carry (from + i) 0 in
      let y : from + i ≡ i + from = omega arith in
      let u : v ≡ get_or (drop from carry₀) i 0 =
      ap (λ (k : ℕ). get_or carry k 0) y ∙ sym (get_or-drop i carry from 0) ∙ ap (λ (l : List ℕ). get_or l from 0) s.rest ∙ get_or-drop i carry₀ from 0 ∙ ap (λ (k : ℕ). get_or carry₀ k 0) (sym y) ∙ sym (get_or-drop from carry₀ i 0) in
      record {
        within = omega arith;
        room = s.room;
        front = rw (add-one i) (take-suc-set carry i v (omega (arith, s.long, s.room)) ∙ rw (s.front, u) (sym (take-suc (drop from carry₀) i 0 (omega (arith, length-drop from carry₀, s.room)))));
        rest = rw (add-one i) (drop-set-lt (suc i) carry i v (omega arith) ∙ rw (← add-one i) (sym (drop-drop 1 i carry) ∙ ap (drop 1) s.rest ∙ drop-drop 1 i carry₀));
        long = length-set carry i v ∙ s.long;
      }

  pub moving_end : n ≤ i → carry ≡ over (take n (drop from carry₀)) carry₀
  moving_end h =
      let e : i ≡ n = omega (arith, s.within) in
      let l : length (take n (drop from carry₀)) ≡ n = length-take-le n (drop from carry₀) (omega (arith, length-drop from carry₀, s.room)) in
      sym (take-append-drop i carry) ∙ rw (s.front, s.rest, e, l)

-- ---- bytes copied, as many as there is room for
abbrev pub between : ℕ → ℕ → List ℕ → List ℕ
between from until chunk = take (until - from) (drop from chunk)

-- to go on from here comes to the same
pub record Copying (carry₀ : List ℕ) (k : ℕ) (chunk : List ℕ) (from until : ℕ) (carry : List ℕ) (at to : ℕ) : Type 0 where
  pub room : to ≤ length carry
  pub high : until ≤ length chunk
  pub long : length carry ≡ length carry₀
  pub same : {r : ℕ} {carry' : List ℕ} → Copied carry to (between at until chunk) r carry' → Copied carry₀ k (between from until chunk) r carry'

pub copying_none : (carry : List ℕ) (k : ℕ) (chunk : List ℕ) (from until : ℕ) → k ≤ length carry → until ≤ length chunk → Copying carry k chunk from until carry from k
copying_none carry k chunk from until h g = record { room = h; high = g; long = refl; same = λ x. x }

module _ {carry₀ chunk carry : List ℕ} {k from until at to : ℕ} (s : Copying carry₀ k chunk from until carry at to) where
  pub copying_more : at < until → to < length carry → Copying carry₀ k chunk from until (set carry to (get_or chunk at 0)) (at + 1) (to + 1)
  copying_more h g =
      let v = get_or chunk at 0 in
      let rest = between (at + 1) until chunk in
      let y : until - at ≡ suc (until - (at + 1)) = omega arith in
      let b : between at until chunk ≡ v ∷ rest = rw (y, add-one at, drop-cons chunk at 0 (omega (arith, s.high))) in
      let z : length carry - to ≡ suc (length carry - (to + 1)) = omega arith in
      record {
        room = omega (arith, length-set carry to v);
        high = s.high;
        long = length-set carry to v ∙ s.long;
        same =
            λ {r} {carry'} x.
            let next : r ≡ min (length carry) (to + length (v ∷ rest)) = omega (arith, x.next, length-set carry to v) in
            let same : carry' ≡ sets carry to (take (length carry - to) (v ∷ rest)) = x.same ∙ rw (length-set, z, add-one to) in
            s.same (rw b (record { next = next; same = same }));
      }

  pub copying_full : length carry ≤ to → Copied carry₀ k (between from until chunk) to carry
  copying_full h =
      let z : length carry - to ≡ 0 = omega arith in
      s.same (record { next = omega (arith, s.room); same = rw z })

  pub copying_end : until ≤ at → Copied carry₀ k (between from until chunk) to carry
  copying_end h =
      let z : until - at ≡ 0 = omega arith in
      s.same (rw z (record { next = omega (arith, s.room); same = rw take-nil }))

-- as many as there is room for, of all
pub copied_all : (carry bytes : List ℕ) (k n : ℕ) {r : ℕ} {carry' : List ℕ} → k ≤ length carry → n ≡ min (length bytes) (length carry - k) → Copied carry k (between 0 n bytes) r carry' → Copied carry k bytes r carry'
copied_all carry bytes k n {r} {carry'} h e x =
    let z : n - 0 ≡ n = omega arith in
    let l : length (take n bytes) ≡ n = length-take-le n bytes (omega arith) in
    let m : min (length carry - k) (length bytes) ≡ n = omega arith in
    let t : take (length carry - k) bytes ≡ take n bytes = sym (take_min (length carry - k) bytes) ∙ ap (λ (i : ℕ). take i bytes) m in
    let u : take (length carry - k) (take n bytes) ≡ take n bytes = take_all (length carry - k) (take n bytes) (omega (arith, l)) in
    let y : Copied carry k (take n bytes) r carry' = rw z at x in
    record { next = omega (arith, y.next, l); same = y.same ∙ ap (sets carry k) (u ∙ sym t) }
