use native.Mathlib.Omega.{arith}
use mathlib.Core.Path.{◌∙◌}
use Rattle.renewal.proofs.Writing.{texting_byte, texting_part, texting_more, texting_end}
use Rattle.renewal.proofs.records.put_texts.Goals as goal

pub put_byte-at-requires : goal.put_byte-at-requires
put_byte-at-requires c =
    let s = c.in-Some.ensures.steps.1 in texting_byte _ _ _ _ c.loop-part.invariant.storing s.0 c.loop-part.invariant.size s.1 s.2 c.requires

pub put_bytes-at-requires : goal.put_bytes-at-requires
put_bytes-at-requires c =
    let s = c.in-Some.ensures.steps.1 in
    texting_part _ _ _ _ c.loop-part.invariant.storing s.0 c.loop-part.invariant.size s.1 s.2 c.requires c.put_byte-at.ensures

pub loop-part-preserved : goal.loop-part-preserved
loop-part-preserved c =
    let s = c.in-Some.ensures.steps.1 in
    let z = c.in-Some.ensures.steps.0 ∙ c.loop-part.invariant.size in
    record {
      next = omega (arith, z);
      finite = tt;
      size = z;
      storing = texting_more _ _ _ _ c.loop-part.invariant.storing s.0 c.loop-part.invariant.size s.1 s.2 c.put_byte-at.ensures c.put_bytes-at.ensures;
    }

pub returns : goal.returns
returns c = texting_end _ _ c.loop-part.invariant.storing c.in-None.ensures.steps.1.0
