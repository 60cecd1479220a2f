use Rattle.same.proofs.Lines.{Counting}
use Rattle.same.proofs.places.place_of.Given as goal

abbrev pub invariant-loop-b : goal.invariant-loop-b
invariant-loop-b l = Counting l.text l.at l.b-items l.b-index l.place.line l.place.column
