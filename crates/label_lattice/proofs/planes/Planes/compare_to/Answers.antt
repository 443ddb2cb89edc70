use Rattle.std.proofs.Common.{◌≢◌, IsTrue}
use Rattle.base.specs.declared.levels.Level.TheVariants.{Star, L0, L1, L2, L3}
use Rattle.label_lattice.specs.Planes.{plane_at}
use Rattle.label_lattice.specs.Ways.{both_test}
use Rattle.label_lattice.proofs.PlanesLemmas.{bit_there, five_there}
use Rattle.label_lattice.proofs.planes.Planes.compare_to.Goals as goal

pub returns : goal.returns
returns c = λ k few.
    five_there k
    (λ l. plane_at l c.args.self.now ≢ 0 → IsTrue (both_test k l c.args.level c.args.level))
    _ _ _ _ _
    (bit_there _ _ k Star c.args.level few c.compare_at.ensures)
    (bit_there _ _ k L0 c.args.level few c.compare_at-2.ensures)
    (bit_there _ _ k L1 c.args.level few c.compare_at-3.ensures)
    (bit_there _ _ k L2 c.args.level few c.compare_at-4.ensures)
    (bit_there _ _ k L3 c.args.level few c.compare_at-5.ensures)
