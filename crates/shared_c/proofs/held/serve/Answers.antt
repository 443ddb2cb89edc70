-- A kernel that is held stays held.
use Rattle.std.proofs.Common.{refl}
use Rattle.shared_c.proofs.held.serve.Goals as goal

pub returns-in-Ok : goal.returns-in-Ok
returns-in-Ok c = rw c.in-Ok.is (c.answer_kept.new.kept, refl, c.answer_kept.ensures)
