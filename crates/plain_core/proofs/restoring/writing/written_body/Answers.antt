use Rattle.std.proofs.Common.{◌∙◌}
use Rattle.plain_core.proofs.WriteLaws.{plain_thread}
use Rattle.plain_core.proofs.restoring.writing.written_body.Goals as goal

pub returns-in-Thread-clause-metadata : goal.returns-in-Thread-clause-metadata
returns-in-Thread-clause-metadata c =
    c.thread_of.ensures.metadata
    ∙ (plain_thread c.args.object.now c.in-Thread.thread c.in-Thread.is c.requires.plain c.requires.whole).1
