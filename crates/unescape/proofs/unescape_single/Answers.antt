use borrow.Author.Rules.{rules}
use Rattle.unescape.proofs.Whole.{single_refused, single_done}
use Rattle.unescape.proofs.unescape_single.Goals as goal

pub returns-in_err-check_text : goal.returns-in_err-check_text
returns-in_err-check_text c =
    record { answer = single_refused _ _ (search rules) c.in_err-check_text.ensures; read = search rules }

pub returns : goal.returns
returns c =
    record { answer = single_done _ _ c.in_ok-check_text.ensures c.unescape_char_or_byte.ensures; read = c.unescape_char_or_byte.ensures.what }
