-- ONE OUTCOME: what meets a promise of this crate is the one thing that does.
-- Assumes nothing.
use Prim.Native.Nat.{ℕ}
use mathlib.Core.Path.{◌≡◌}
use mathlib.Core.Bool.{Bool}
use mathlib.Core.List.{List}
use Rattle.lists.proofs.Bools.{equal_unique}
use Rattle.parts.specs.Promises.{Called, Placed, Texted}
use Rattle.parts.specs.declared.Lexer.{Lexer}

-- a chunk fed, or the finish: the answer, the value handed back, every byte of the carry and every word of the list
pub called_unique : {x : Lexer} {last : Bool} {chunk carry list : List ℕ} {n m a b : ℕ} {y z : Lexer} {k h l q : List ℕ} → Called x last chunk carry list n a y k l → Called x last chunk carry list m b z h q → (n ≡ m) × ((a ≡ b) × ((y ≡ z) × ((k ≡ h) × (l ≡ q))))
called_unique c d = (
  equal_unique c.answered.number_is d.answered.number_is,
  (
    equal_unique c.answered.also_is d.answered.also_is,
    (equal_unique c.lexer d.lexer, (equal_unique c.kept d.kept, equal_unique c.words d.words)),
  ),
)

-- the text question: where the part lies and its bytes; and the same by numbers
pub texted_unique : {x : Lexer} {p q : ℕ × ℕ} {chunk carry : List ℕ} {start len : ℕ} {a b : ℕ × ℕ} {s t : List ℕ} → Texted x p q chunk carry start len a s → Texted x p q chunk carry start len b t → (a ≡ b) × (s ≡ t)
texted_unique c d = (equal_unique c.place_is d.place_is, equal_unique c.part_is d.part_is)

pub placed_unique : {x : Lexer} {chunk_len carry_len start len n m a b c d e f : ℕ} → Placed x chunk_len carry_len start len n a c e → Placed x chunk_len carry_len start len m b d f → (n ≡ m) × ((a ≡ b) × ((c ≡ d) × (e ≡ f)))
placed_unique c d = (
  equal_unique c.number_is d.number_is,
  (equal_unique c.which_is d.which_is, (equal_unique c.at_is d.at_is, equal_unique c.many_is d.many_is)),
)
