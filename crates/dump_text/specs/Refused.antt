-- The refusals of dumps.
use Rattle.base.specs.declared.refusals.Refusal.{Refusal}
use Rattle.base.specs.declared.refusals.Refusal.TheVariants.{TextFault, TextMemory, NotFormat1}
use Rattle.dump_text.specs.declared.errors.DumpError.{DumpError}
use Rattle.dump_text.specs.declared.errors.DumpError.TheVariants as errors
use Rattle.dump_text.specs.declared.migrating.MigrateFault.{MigrateFault}
use Rattle.dump_text.specs.declared.migrating.MigrateFault.TheVariants as faults

-- 50 for a faulty line, 51 for want of memory
abbrev pub refusal_of : DumpError → Refusal
refusal_of (errors.Line n) = TextFault
refusal_of errors.Memory = TextMemory

-- 61 for a text that is not of format 1, 51 for want of memory
abbrev pub migrate_refusal_of : MigrateFault → Refusal
migrate_refusal_of (faults.NotFormat1 n) = NotFormat1
migrate_refusal_of faults.Memory = TextMemory
