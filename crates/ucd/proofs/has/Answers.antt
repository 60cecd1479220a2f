use mathlib.Core.Path.{◌∙◌, ap}
use Rattle.ucd.specs.Properties.{tested_in}
use Rattle.ucd.proofs.Rising.{tested_is}
use Rattle.ucd.proofs.has.Goals as goal

pub returns : goal.returns
returns g c =
    c.is_in.ensures
    ∙ ap (λ t. tested_in g.P.Property.ascii t c.args.c) c.table.ensures
    ∙ tested_is _ _ g.met.P.Property.ascii_first c.args.c
