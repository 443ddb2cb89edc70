use Rattle.label_lattice.proofs.WaysLemmas.{held_is}
use Rattle.label_lattice.proofs.ways.compare_levels.Goals as goal

pub returns : goal.returns
returns c =
    rw (c.from.ensures, c.from-2.ensures, c.rank.ensures, c.rank-2.ensures)
    (held_is c.args.a c.args.b)
