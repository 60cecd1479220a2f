-- The letters of the tables: those of Unicode, and those of tables that are lent, whatever they hold.
-- Assumes nothing.
use Rattle.std.specs.Prelude.{List, Bool, ◌||◌, ℕ, eqb}
use Rattle.ucd.specs.Properties.{is_emoji, ascii_start, ascii_continue, ascii_emoji, tested_in}
use Rattle.letters.specs.Chars.{is_id_start, is_id_continue}
use Rattle.lexer.specs.declared.lent.Letters.{Letters as Tables}
use Rattle.lexer.specs.Cut.{Letters}

unfoldable pub unicode : Letters
unicode = record { start = is_id_start; more = is_id_continue; emoji = is_emoji }

abbrev pub start_in : List ℕ → ℕ → Bool
start_in t c = eqb c 0x5F || tested_in ascii_start t c

abbrev pub more_in : List ℕ → ℕ → Bool
more_in t c = tested_in ascii_continue t c

abbrev pub emoji_in : List ℕ → ℕ → Bool
emoji_in t c = tested_in ascii_emoji t c

abbrev pub lent : List ℕ → List ℕ → List ℕ → Letters
lent start more emoji = record { start = start_in start; more = more_in more; emoji = emoji_in emoji }

-- the letters of the tables that code is lent
abbrev pub letters_in : Tables → Letters
letters_in t = lent t.start.now t.more.now t.emoji.now
