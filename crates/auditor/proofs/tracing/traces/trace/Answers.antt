use Rattle.auditor.proofs.Telling.{traced}
use Rattle.auditor.proofs.tracing.traces.trace.Goals as goal

pub returns-in-Some-clause-exact : goal.returns-in-Some-clause-exact
returns-in-Some-clause-exact c =
    traced c.args.audited.now.bytes.now c.in_ok-dump.dump.now c.args.category.0 c.args.start c.in_ok-ids.field-0 c.in-Some.ids
    c.in_ok-dump.ensures.dump c.in_ok-ids.ensures.reached c.in-Some.is
