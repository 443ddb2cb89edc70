use Rattle.label_intern.proofs.FillLemmas.{Fills}
use Rattle.label_intern.proofs.places.fill.Given as goal

abbrev pub invariant-loop-i : goal.invariant-loop-i
invariant-loop-i l = Fills l.slots l.listed l.at l.label l.fn.table l.i l.table l.fn.meter l.meter
