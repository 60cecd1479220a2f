use mathlib.Core.Path.{sym, ◌∙◌}
use native.Mathlib.Omega.{arith}
use borrow.Author.Tests.{not-true}
use borrow.Author.Rules.{rules}
use Rattle.std.proofs.lemmas.Result.{err_from_is_err_and}
use Rattle.feeding.proofs.Running.{Runs}
use Rattle.parts.specs.Coded.{meaning}
use Rattle.parts.proofs.Checking.{open_runs, check_so}
use Rattle.parts.proofs.Call.check.Goals as goal

pub scan-requires : goal.scan-requires
scan-requires c =
    let r : Runs (meaning c.args.self.lexer) = open_runs c.args.self.lexer (not-true _ (sym c.is_running.ensures ∙ c.if-not-is_running.false)) in
    search rules

pub returns-in_err-scan : goal.returns-in_err-scan
returns-in_err-scan c =
    let s = c.args.self in
    let p = err_from_is_err_and c.from_residual.result c.from_residual.ensures.1 in
    let o = not-true _ (sym c.is_running.ensures ∙ c.if-not-is_running.false) in
    rw (p.1, p.2) (check_so s.lexer s.last s.chunk.now o c.if-lexer-ge-PROFILES.false (omega arith) c.if-lexer-self.false ∙ c.in_err-scan.ensures)

pub returns : goal.returns
returns c =
    let s = c.args.self in
    let o = not-true _ (sym c.is_running.ensures ∙ c.if-not-is_running.false) in
    let k = c.in_ok-scan.ensures in
    (check_so s.lexer s.last s.chunk.now o c.if-lexer-ge-PROFILES.false (omega arith) c.if-lexer-self.false ∙ k.0, k.1)
