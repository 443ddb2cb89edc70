use Rattle.published_copy.proofs.Shares.{admits}
use Rattle.published_copy.proofs.writers.claim.Goals as goal

pub reader-requires : goal.reader-requires
reader-requires g c = admits
