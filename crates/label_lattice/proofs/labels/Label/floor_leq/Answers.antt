use Rattle.label_lattice.specs.Order.{Levels, levels, join, up, down, IsDescribed}
use Rattle.label_lattice.proofs.OrderLemmas.{leq_test-from_tests}
use Rattle.label_lattice.proofs.OrderLemmas.{IsDescribed-levels, IsDescribed-up, IsDescribed-down}
use Rattle.label_lattice.proofs.OrderLemmas.{IsDescribed-join}
use Rattle.label_lattice.proofs.labels.Label.floor_leq.Goals as goal

pub returns-clause-test : goal.returns-clause-test
returns-clause-test c =
    let own : Levels = levels c.args.self.now in
    let gate : Levels = levels c.args.gate.now in
    let raised : IsDescribed (join (up own) (up gate)) =
    IsDescribed-join (up own) (up gate)
    (IsDescribed-up own (IsDescribed-levels _)) (IsDescribed-up gate (IsDescribed-levels _)) in
    leq_test-from_tests (down (join (up own) (up gate))) (levels c.args.asked.now) _
    (IsDescribed-down (join (up own) (up gate)) raised)
    (IsDescribed-levels _)
    c.holds.ensures
