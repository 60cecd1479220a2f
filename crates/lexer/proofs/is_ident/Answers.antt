use borrow.Author.Rules.{rules}
use Rattle.lexer.proofs.Ident.{identified_refused, identified_done}
use Rattle.lexer.proofs.is_ident.Goals as goal

pub returns-in_err-check_text : goal.returns-in_err-check_text
returns-in_err-check_text c = search (rules, identified_refused)

pub returns : goal.returns
returns c = identified_done _ (search rules) c.unicode.ensures.letters c.is_ident_in.ensures
