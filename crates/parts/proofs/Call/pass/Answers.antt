use Rattle.parts.proofs.Calling.{pass_ready, gone_is}
use Rattle.parts.proofs.Call.pass.Goals as goal

pub pass-requires : goal.pass-requires
pass-requires c = pass_ready c.requires.0 c.unicode.ensures.letters c.from.ensures c.requires.1

pub returns : goal.returns
returns c = gone_is c.requires.0 c.unicode.ensures.letters c.from.ensures c.pass.ensures
