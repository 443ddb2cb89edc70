use Rattle.script_runner.proofs.DumpLaws.{dumped}
use Rattle.script_runner.proofs.dumps.dump_from.Goals as goal

pub returns : goal.returns
returns c =
    dumped c.legal_is_dump.ensures c.args.limits.now c.args.checkpoint c.args.events.now c.in_ok-events.events.items
    c.args.reads.items c.in_ok-bytes.bytes.items c.requires.limits c.requires.restorable c.requires.legal c.requires.reads
    c.requires.places c.in_ok-events.ensures c.in_ok-bytes.ensures.text c.in_ok-bytes.ensures.fits
