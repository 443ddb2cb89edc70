use Rattle.std.proofs.Common.{◌≢◌, IsTrue, bit_and}
use Rattle.base.specs.declared.levels.Level.TheVariants.{Star, L0, L1, L2, L3}
use Rattle.label_lattice.specs.Planes.{plane_at}
use Rattle.label_lattice.specs.Ways.{both_test}
use Rattle.label_lattice.proofs.PlanesLemmas.{bit_there, five_there}
use Rattle.label_lattice.proofs.planes.Planes.compare_level.Goals as goal

pub returns : goal.returns
returns c = λ k few.
    five_there k
    (λ l. bit_and c.args.categories (plane_at l c.args.self.now) ≢ 0
    → IsTrue (both_test k c.args.level l l))
    _ _ _ _ _
    (bit_there _ _ k c.args.level Star few c.compare_at.ensures)
    (bit_there _ _ k c.args.level L0 few c.compare_at-2.ensures)
    (bit_there _ _ k c.args.level L1 few c.compare_at-3.ensures)
    (bit_there _ _ k c.args.level L2 few c.compare_at-4.ensures)
    (bit_there _ _ k c.args.level L3 few c.compare_at-5.ensures)
