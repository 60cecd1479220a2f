use Rattle.std.proofs.Common.{◌≡◌, cond}
use borrow.Author.Rules.{rules}
use Rattle.cutters.specs.Kinds.{hardware_ident, dollar}
use Rattle.cutters.specs.Numbers.{kind_number}
use Rattle.lexer.proofs.Names.{naming, hardware_digits, wired_digits}
use Rattle.lexer.proofs.words.hardware_ident.Goals.{then-d, else-d}
use Rattle.lexer.proofs.words.hardware_ident.Goals as goal

pub returns-then-is_wide_emoji : goal.returns-then-is_wide_emoji
returns-then-is_wide_emoji c = search (rules, naming)

pub returns : goal.returns
returns c =
    let kind : kind_number c.if-d.result ≡ cond c.eat_digits-d.result.any hardware_ident dollar = elim c.if-d.branch [ then-d w ↦ cc | else-d w ↦ cc ] in
    (hardware_digits _ _ _ _ c.first.ensures c.is_wide_emoji.ensures (search rules) c.eat_digits-d.ensures kind, wired_digits c.eat_digits-d.ensures kind)
