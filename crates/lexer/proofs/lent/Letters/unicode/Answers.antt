use Rattle.lexer.proofs.Unicode.{lent_is}
use Rattle.lexer.proofs.lent.Letters.unicode.Goals as goal

pub returns : goal.returns
returns c =
    record {
      letters = rw (c.table.ensures, c.table-2.ensures, c.table-3.ensures) lent_is;
      tables = (c.table.ensures, c.table-2.ensures, c.table-3.ensures);
    }
