-- On the constant tables the lent letters are those of Unicode.
-- Assumes nothing.
use mathlib.Core.Path.{◌≡◌}
use mathlib.Core.Bool.{◌||◌}
use lib.Dec.{eqb}
use Rattle.characters.specs.Ranges.{flat}
use Rattle.ucd.specs.Ucd.{xid_start, xid_continue, emoji}
use Rattle.ucd.specs.Properties.{ascii_start, ascii_continue, ascii_emoji, tested_in}
use Rattle.ucd.proofs.Rising.{start_is, continue_is, emoji_is}
use Rattle.lexer.specs.Cut.{Letters}
use Rattle.lexer.specs.Unicode.{unicode, lent}

spelled : ◌≡◌ {A = Letters} (record {
  start = λ c. eqb c 0x5F || tested_in ascii_start (flat xid_start) c;
  more = λ c. tested_in ascii_continue (flat xid_continue) c;
  emoji = λ c. tested_in ascii_emoji (flat emoji) c;
}) unicode
unfolding unicode
spelled = simp (start_is, continue_is, emoji_is)

pub lent_is : lent (flat xid_start) (flat xid_continue) (flat emoji) ≡ unicode
lent_is = spelled
