use Rattle.std.proofs.Common.{◌∙◌, refl, arith}
use Rattle.label_lattice.specs.Ways.{both_test}
use Rattle.label_lattice.proofs.PlanesLemmas.{planes_tell, planes_tell_apart}
use Rattle.label_lattice.proofs.WalkLemmas.{compare_none, compare_all}
use Rattle.label_lattice.proofs.labels.Label.held.Goals as goal

pub returns-in_default-clause-bits : goal.returns-in_default-clause-bits
returns-in_default-clause-bits c =
    rw (← c.self.view_is, ← c.other.view_is) c.compare_everywhere.ensures.bits

pub returns-then-planes-other_planes-clause-bits : goal.returns-then-planes-other_planes-clause-bits
returns-then-planes-other_planes-clause-bits c =
    let own = c.self.inside in
    let its = c.other.inside in
    rw (← c.self.view_is, ← c.other.view_is, c.compare_levels-held.ensures)
    (planes_tell own.default its.default own.exceptions its.exceptions c.in-Some-Some.planes
    c.in-Some-Some.other_planes c.compare.result (c.self.invariant.1 ∙ c.in-Some-Some.is-0)
    (c.other.invariant.1 ∙ c.in-Some-Some.is-1) c.if-planes-other_planes.true c.compare.ensures)

pub returns-clause-bits : goal.returns-clause-bits
returns-clause-bits c =
    let own = c.self.inside in
    let its = c.other.inside in
    rw (← c.self.view_is, ← c.other.view_is, c.compare_levels-held.ensures)
    (planes_tell_apart own.default its.default own.exceptions its.exceptions c.in-Some-Some.planes
    c.in-Some-Some.other_planes c.compare_to.result c.compare_level.result
    (c.self.invariant.1 ∙ c.in-Some-Some.is-0) (c.other.invariant.1 ∙ c.in-Some-Some.is-1)
    c.if-planes-other_planes.false c.compare_to.ensures c.compare_level.ensures)

pub returns-then-len-eq0-2-clause-bits : goal.returns-then-len-eq0-2-clause-bits
returns-then-len-eq0-2-clause-bits c =
    let own = c.self.inside in
    let its = c.other.inside in
    λ k. rw (← c.self.view_is, ← c.other.view_is)
    (compare_all (both_test k) own.default its.default own.exceptions its.exceptions 0 0 _
    (compare_none (both_test k) own.default its.default own.exceptions its.exceptions _
    (rw c.compare_levels.ensures refl))
    (omega arith) (omega arith))
