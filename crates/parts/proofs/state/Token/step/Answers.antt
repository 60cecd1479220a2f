use Rattle.parts.proofs.Turning.{stepped_eats, stepped_halts}
use Rattle.parts.proofs.state.Token.step.Goals as goal

pub returns-in-Eats : goal.returns-in-Eats
returns-in-Eats c =
    let a = c.args in
    stepped_eats _ _ a.self a.x a.y c.requires.0 c.requires.1 _ c.decide.ensures _ _ c.in-Eats.is _ c.eat.ensures

pub returns-in-Halts : goal.returns-in-Halts
returns-in-Halts c =
    let a = c.args in
    stepped_halts _ _ a.self a.x a.y c.requires.0 c.requires.1 _ c.decide.ensures _ c.in-Halts.is _ c.first.ensures _ c.end.ensures.words c.end.ensures.len
