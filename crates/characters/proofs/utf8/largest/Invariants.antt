use Prim.Native.Nat.{ℕ, ◌≤◌, ◌<◌}
use Rattle.characters.proofs.utf8.largest.Given as goal

abbrev pub invariant-loop-k : goal.invariant-loop-k
invariant-loop-k g l = (k : ℕ) → k < l.k → (v : ℕ) × goal.F-post g l.count k v × (v ≤ l.most)
