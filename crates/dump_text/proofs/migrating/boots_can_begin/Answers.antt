use Rattle.dump_text.proofs.Migration.{boot_state, boot_restorable}
use Rattle.dump_text.proofs.migrating.boots_can_begin.Goals as goal

pub returns-clause-start : goal.returns-clause-start
returns-clause-start c = boot_state

pub returns-clause-restorable : goal.returns-clause-restorable
returns-clause-restorable c = boot_restorable
