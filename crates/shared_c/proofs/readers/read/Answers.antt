-- A reader that is held stays held.
use Rattle.std.proofs.Common.{refl}
use Rattle.shared_c.proofs.readers.read.Goals as goal

pub returns-in-Ok : goal.returns-in-Ok
returns-in-Ok c = rw c.in-Ok.is (c.answer_query.new.kept, refl, c.answer_query.ensures.same, c.answer_query.ensures.told)
