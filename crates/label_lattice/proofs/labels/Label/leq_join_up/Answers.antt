use Rattle.label_lattice.specs.Order.{Levels, levels, join, up}
use Rattle.label_lattice.proofs.OrderLemmas.{leq_test-from_tests, IsDescribed-levels}
use Rattle.label_lattice.proofs.OrderLemmas.{IsDescribed-up, IsDescribed-join}
use Rattle.label_lattice.proofs.labels.Label.leq_join_up.Goals as goal

pub returns-clause-test : goal.returns-clause-test
returns-clause-test c =
    let one : Levels = levels c.args.one.now in
    let two : Levels = levels c.args.two.now in
    leq_test-from_tests (levels c.args.self.now) (join one (up two)) _
    (IsDescribed-levels _)
    (IsDescribed-join one (up two) (IsDescribed-levels _)
    (IsDescribed-up two (IsDescribed-levels _)))
    c.holds.ensures
