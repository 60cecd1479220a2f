use borrow.Author.Rules.{rules}
use mathlib.Core.Path.{refl}
use Rattle.unescape.proofs.Turns.{char_none, char_error, char_more, char_alone}
use Rattle.unescape.proofs.bodies.unescape_char_or_byte.Goals as goal

pub returns-in_err-c : goal.returns-in_err-c
returns-in_err-c c = char_none _ c.next.ensures c.in_err-c.ensures.ok_part (search rules)

pub returns-in_err-read : goal.returns-in_err-read
returns-in_err-read c = char_error _ c.next.ensures c.in_ok-c.ensures.ok_part c.one_char.ensures c.in_err-read.was (search rules)

pub returns-then-is_some : goal.returns-then-is_some
returns-then-is_some c =
    char_more _ c.next.ensures c.in_ok-c.ensures.ok_part c.one_char.ensures c.in_ok-read.was c.next-2.ensures (search rules) refl

pub returns : goal.returns
returns c =
    char_alone _ c.next.ensures c.in_ok-c.ensures.ok_part c.one_char.ensures c.in_ok-read.was c.next-2.ensures (search rules) refl
