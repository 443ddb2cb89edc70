use Rattle.kernel_laws.proofs.Shut.{dead_object_lem}
use Rattle.kernel_laws.proofs.translation_laws.laws.dead_objects_show_none.Goals as goal

pub returns : goal.returns
returns c = dead_object_lem
