use Rattle.std.proofs.Common.{arith}
use Rattle.characters.proofs.Text.{decoded_fits, decoded_some}
use Rattle.answers.proofs.texts.characters.Goals as goal

pub overflow_add-at : goal.overflow_add-at
overflow_add-at c = omega (arith, decoded_fits)

pub loop-at-smaller : goal.loop-at-smaller
loop-at-smaller c = omega (arith, decoded_some)

pub loop-at-preserved : goal.loop-at-preserved
loop-at-preserved c = (omega (arith, decoded_fits), omega (arith, decoded_some))
