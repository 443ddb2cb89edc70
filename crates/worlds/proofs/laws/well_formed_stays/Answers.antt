use Rattle.worlds.proofs.Wholeness.{well_formed_stays}
use Rattle.worlds.proofs.laws.well_formed_stays.Goals as goal

pub returns : goal.returns
returns c = well_formed_stays
