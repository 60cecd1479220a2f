use native.Mathlib.Omega.{arith}
use Rattle.characters.proofs.Text.{decoded_fits}
use Rattle.lexer.proofs.Advancing.{advancing}
use borrow.Author.Rules.{rules}
use Rattle.lexer.proofs.advance.advance_token.Goals as goal

pub returns-then-text-at : goal.returns-then-text-at
returns-then-text-at c = search (rules, advancing)

pub decode-d-requires : goal.decode-d-requires
decode-d-requires c = search (rules, advancing)

pub overflow_add-next : goal.overflow_add-next
overflow_add-next c = omega (arith, decoded_fits)

pub advance-requires : goal.advance-requires
advance-requires c = search (rules, advancing)

pub returns : goal.returns
returns c = search (rules, advancing)
