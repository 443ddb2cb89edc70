use Rattle.kernel_laws.proofs.Made.{new_thread_lem}
use Rattle.kernel_laws.proofs.translation_laws.laws.new_thread_has_none.Goals as goal

pub returns : goal.returns
returns c = new_thread_lem
