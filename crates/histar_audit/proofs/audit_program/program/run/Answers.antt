use Rattle.histar_audit.proofs.ToldLaws.{told_if}
use Rattle.histar_audit.proofs.audit_program.program.run.Goals as goal

pub returns : goal.returns
returns g c =
    told_if (g.I.Read.remaining c.args.dump.now) c.in_ok-read.read.items c.as_slice.result.now c.in_ok-found.found.text.items
    c.as_slice-2.result.now c.in_ok-found.found.file.items c.args.asked.now c.in_ok-found.found.verdict
    (g.S.Sink.contents c.args.out.now) (g.S.Sink.contents c.deliver.new.sink) c.in_ok-read.ensures.bytes c.as_slice.ensures.value
    c.in_ok-found.ensures c.as_slice-2.ensures.value c.in_ok-deliver.ensures.whole
