use Rattle.std.proofs.Common.{◌≢◌, IsTrue, bit_and}
use Rattle.base.specs.declared.levels.Level.{Level}
use Rattle.label_lattice.specs.Planes.{plane_at}
use Rattle.label_lattice.specs.Ways.{both_test}
use Rattle.label_lattice.proofs.PlanesLemmas.{five_there}
use Rattle.label_lattice.proofs.planes.Planes.compare.Goals as goal

pub returns : goal.returns
returns c = λ k few.
    five_there k
    (λ a. (b : Level) → bit_and (plane_at a c.args.self.now) (plane_at b c.args.other.now) ≢ 0
    → IsTrue (both_test k a b b))
    _ _ _ _ _
    (c.compare_level.ensures k few)
    (c.compare_level-2.ensures k few)
    (c.compare_level-3.ensures k few)
    (c.compare_level-4.ensures k few)
    (c.compare_level-5.ensures k few)
