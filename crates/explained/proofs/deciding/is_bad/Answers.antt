use Rattle.explained.proofs.Stored.{unstored}
use Rattle.explained.proofs.deciding.is_bad.Goals as goal

pub returns : goal.returns
returns c = unstored c.args.raw.now _ c.is_none.result c.stored_of.ensures.stored c.is_none.ensures
