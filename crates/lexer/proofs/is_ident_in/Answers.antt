use native.Mathlib.Omega.{arith}
use Rattle.characters.proofs.Text.{decoded_fits}
use Rattle.lexer.proofs.Ident.{identifying}
use borrow.Author.Rules.{rules}
use Rattle.lexer.proofs.is_ident_in.Goals as goal

pub returns-then-text-eq0 : goal.returns-then-text-eq0
returns-then-text-eq0 c = search (rules, identifying)

pub returns-then-not-is_id_start : goal.returns-then-not-is_id_start
returns-then-not-is_id_start c = search (rules, identifying)

pub eat_id_continue-end-requires : goal.eat_id_continue-end-requires
eat_id_continue-end-requires c = omega (arith, decoded_fits)

pub returns : goal.returns
returns c = search (rules, identifying)
