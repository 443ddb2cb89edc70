use Rattle.dump_text.proofs.Placing.{placed_all}
use Rattle.auditor.proofs.Auditing.{audited_is}
use Rattle.auditor.proofs.audits.audit_dump.Goals as goal

pub returns-clause-audited : goal.returns-clause-audited
returns-clause-audited c =
    audited_is c.args.bytes.now c.args.dump c.in_ok-found.found c.legal_is_dump.ensures (c.one_reading.ensures.value c.args.bytes.now)
    c.requires c.in_ok-found.ensures.bytes c.in_ok-found.ensures.dump c.in_ok-found.ensures.line

pub compared-requires : goal.compared-requires
compared-requires c = placed_all c.args.dump.checkpoint c.args.dump.events c.args.dump.reads c.requires.placed
