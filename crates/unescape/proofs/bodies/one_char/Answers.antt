use native.Mathlib.Omega.{arith}
use mathlib.Core.Path.{sym, ◌∙◌}
use Rattle.unescape.proofs.Turns.{one_escape, one_only, one_return, one_ascii}
use Rattle.unescape.proofs.bodies.one_char.Goals as goal

pub returns-in-92 : goal.returns-in-92
returns-in-92 c = one_escape _ _ c.in-92.is c.scan_escape.ensures

pub returns-in-13 : goal.returns-in-13
returns-in-13 c = one_return _ _ c.args.chars.now.within c.in-13.is

pub returns-in_default : goal.returns-in_default
returns-in_default c = one_only _ _ c.args.chars.now.within (sym c.is_escape_only.ensures ∙ c.if-is_escape_only.true)

pub returns-in_default-2 : goal.returns-in_default-2
returns-in_default-2 c =
    one_ascii _ _ c.args.chars.now.within (λ e. omega arith) (sym c.is_escape_only.ensures ∙ c.if-is_escape_only.false) (λ e. omega arith) c.ascii_check.ensures
