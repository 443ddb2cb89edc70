use Rattle.label_lattice.proofs.TwiceLemmas.{TwiceGoesOn}
use Rattle.label_lattice.proofs.exceptions.has_twice.Given as goal

abbrev pub invariant-loop-i : goal.invariant-loop-i
invariant-loop-i l = TwiceGoesOn l.pairs l.i l.greatest
