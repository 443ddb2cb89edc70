use Rattle.label_lattice.specs.Order.{Levels, levels, join}
use Rattle.label_lattice.proofs.OrderLemmas.{leq_test-from_tests, IsDescribed-levels}
use Rattle.label_lattice.proofs.OrderLemmas.{IsDescribed-join}
use Rattle.label_lattice.proofs.labels.Label.leq_join.Goals as goal

pub returns-clause-test : goal.returns-clause-test
returns-clause-test c =
    let one : Levels = levels c.args.one.now in
    let two : Levels = levels c.args.two.now in
    leq_test-from_tests (levels c.args.self.now) (join one two) _
    (IsDescribed-levels _)
    (IsDescribed-join one two (IsDescribed-levels _) (IsDescribed-levels _))
    c.holds.ensures
