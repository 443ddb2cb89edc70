use Rattle.std.proofs.Common.{Err, subst}
use Rattle.dump_text.specs.Reading.{ReadsDump}
use Rattle.dump_text.specs.declared.errors.DumpError.{DumpError}
use Rattle.dump_text.proofs.Migration.{second_faults, no_checkpoint, first_faults}
use Rattle.dump_text.proofs.migrating.read_first.Goals as goal

pub returns-in-Some-clause-fault : goal.returns-in-Some-clause-fault
returns-in-Some-clause-fault c = second_faults c.args.bytes.now c.in-Some.field-0.now c.in-Some.ensures.some

pub returns-in-Ok-clause-first : goal.returns-in-Ok-clause-first
returns-in-Ok-clause-first c = no_checkpoint c.args.bytes.now c.in-Ok.dump c.in-Ok.ensures c.in_default.ensures.none

pub returns-in-Err-Line-clause-fault : goal.returns-in-Err-Line-clause-fault
returns-in-Err-Line-clause-fault c =
    first_faults c.args.bytes.now c.in-Err-Line.line
    (subst (λ (f : DumpError). ReadsDump c.args.bytes.now (Err f)) c.in-Err-Line.field-0-is c.in-Err-Line.ensures)
    c.in_default.ensures.none
