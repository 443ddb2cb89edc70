use Rattle.std.proofs.Common.{Err, ℕ, IfOk, List, subst}
use Rattle.dump_text.specs.Reading.{ReadsDump}
use Rattle.dump_text.specs.declared.errors.DumpError.{DumpError}
use Rattle.histar_audit.proofs.ToldLaws.{none_found}
use Rattle.histar_audit.specs.Told.{IsFound}
use Rattle.histar_audit.proofs.audit_program.program.find.Goals as goal

pub returns-in-Ok : goal.returns-in-Ok
returns-in-Ok c =
    subst (λ (b : List ℕ). IfOk c.found_in.result (λ found.
    IsFound c.args.asked.now found.verdict found.file.items found.text.items b)) c.in-Ok.ensures.bytes c.found_in.ensures

pub returns-in_ok-none-in-Err : goal.returns-in_ok-none-in-Err
returns-in_ok-none-in-Err c =
    let none = c.in_ok-none-in-Err.none in
    let unread = c.in_ok-none-in-Err.ensures in
    none_found c.args.asked.now none.verdict none.file.items none.text.items c.args.bytes.now unread.0
    (subst (λ (fault : DumpError). ReadsDump c.args.bytes.now (Err fault)) unread.1 c.in-Err.ensures.fault)
    unread.2 unread.3 unread.4
