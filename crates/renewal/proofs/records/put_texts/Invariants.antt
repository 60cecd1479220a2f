use mathlib.Core.Path.{◌≡◌}
use mathlib.Core.Bool.{true}
use Rattle.std.specs.Slice.Iter.{chunks_rest, chunks_size}
use Rattle.lists.proofs.Store.{StoringFrom}
use Rattle.renewal.specs.Key.{texts}
use Rattle.renewal.proofs.records.put_texts.Given as goal

abbrev pub invariant-loop-part : goal.invariant-loop-part
invariant-loop-part l = record {
  next : (goal.iterator-loop-part).can_next l.part-iterator;
  finite : (goal.iterator-loop-part).is_finite l.part-iterator;
  size : chunks_size l.part-iterator ≡ 16;
  storing : StoringFrom l.k (texts l.text) true l.initial.key (texts (chunks_rest l.part-iterator)) l.at l.key;
}
