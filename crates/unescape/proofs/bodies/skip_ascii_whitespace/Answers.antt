use borrow.Author.Rules.{rules}
use Rattle.unescape.proofs.Turns.{skip_step}
use Rattle.unescape.proofs.bodies.skip_ascii_whitespace.Goals as goal

pub returns : goal.returns
returns c = skip_step {white = c.is_some_and-white.result} c.eat_skipped-lines.ensures c.next.ensures (search rules) (rw (c.then_some.ensures, c.then_some-2.ensures))
