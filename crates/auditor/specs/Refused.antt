-- The refusals of what is no clean dump.
use Rattle.base.specs.declared.refusals.Refusal.{Refusal}
use Rattle.base.specs.declared.refusals.Refusal.TheVariants.{NotClean, TextMemory}
use Rattle.auditor.specs.declared.clean_dumps.faults.DumpFault.{DumpFault}
use Rattle.auditor.specs.declared.clean_dumps.faults.DumpFault.TheVariants as faults

-- 62 for a text that is no clean dump, 51 for want of memory
abbrev pub refusal_of : DumpFault → Refusal
refusal_of faults.NotClean = NotClean
refusal_of faults.NoMemory = TextMemory
