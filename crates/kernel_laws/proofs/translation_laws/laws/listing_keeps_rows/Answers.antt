use Rattle.kernel_laws.proofs.Lists.{listing_lem}
use Rattle.kernel_laws.proofs.translation_laws.laws.listing_keeps_rows.Goals as goal

pub returns : goal.returns
returns c = listing_lem
