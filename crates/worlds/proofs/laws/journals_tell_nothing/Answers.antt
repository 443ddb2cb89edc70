use Rattle.worlds.proofs.Purging.{journals_tell_nothing, lengths_tell_hidden}
use Rattle.worlds.proofs.laws.journals_tell_nothing.Goals as goal

pub returns-clause-replies : goal.returns-clause-replies
returns-clause-replies c = journals_tell_nothing

pub returns-clause-length : goal.returns-clause-length
returns-clause-length c = lengths_tell_hidden
