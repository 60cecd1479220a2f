use borrow.Author.Rules.{rules}
use mathlib.Core.Path.{refl}
use Rattle.unescape.proofs.Whole.{unescaped_unknown, unescaped_refused, unescaped_done, text_short}
use Rattle.unescape.proofs.unescape_literal.Goals as goal

pub returns-in_err-mode : goal.returns-in_err-mode
returns-in_err-mode c = unescaped_unknown (search rules) c.in_err-mode.ensures

pub returns-in_err-check_text : goal.returns-in_err-check_text
returns-in_err-check_text c = unescaped_refused _ c.in_ok-mode.ensures (search rules) c.in_err-check_text.ensures refl

pub store-requires : goal.store-requires
store-requires c = text_short _ c.in_ok-check_text.ensures

pub returns : goal.returns
returns c = unescaped_done _ c.in_ok-mode.ensures c.in_ok-check_text.ensures c.store.ensures
