use Rattle.std.proofs.Common.{refl}
use Rattle.label_lattice.proofs.WalkLemmas.{takes_lower}
use Rattle.label_lattice.proofs.walk.take_lower.Goals as goal

pub returns-clause-takes : goal.returns-clause-takes
returns-clause-takes c =
    (takes_lower c.args.a_default c.args.b_default c.args.a.now c.args.b.now c.args.i c.args.j c.requires.a_rising c.requires.b_rising c.requires.a_within c.requires.b_within _ _ _ _ _ _
    (rw (c.pair_at-one.ensures, c.pair_at-other.ensures) refl) (rw (c.pair_at-one.ensures, c.pair_at-other.ensures) refl)
    c.taken_where-of_a.ensures.level c.taken_where-of_b.ensures.level c.taken_where-of_a.ensures.place c.taken_where-of_b.ensures.place).takes
