use Rattle.label_lattice.proofs.RawLemmas.{star_kept}
use Rattle.label_lattice.proofs.laws.star_is_kept.Goals as goal

pub returns : goal.returns
returns c = star_kept
