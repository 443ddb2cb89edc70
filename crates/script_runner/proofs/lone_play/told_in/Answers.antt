use Rattle.std.proofs.Common.{◌∙◌}
use Rattle.script_rules.specs.Run.{run_from, start}
use Rattle.script_runner.proofs.AskedLaws.{turns_reads}
use Rattle.script_runner.proofs.lone_play.told_in.Goals as goal

pub returns-clause-text : goal.returns-clause-text
returns-clause-text g c =
    c.in_ok-told_with.ensures.text (run_from g.B.Naming.boot.limits g.B.Naming.boot.seats start c.args.script.now) c.in_ok-left.ensures.own
    c.in_ok-left.ensures.names

pub returns-clause-reads : goal.returns-clause-reads
returns-clause-reads g c =
    c.in_ok-told_with.ensures.reads
    ∙ turns_reads c.args.workers.now.keys c.in_ok-left.left.items
    (run_from g.B.Naming.boot.limits g.B.Naming.boot.seats start c.args.script.now) c.in_ok-left.ensures.count c.in_ok-left.ensures.own

pub returns-clause-events : goal.returns-clause-events
returns-clause-events g c = c.in_ok-left.ensures.journal

pub returns-clause-names : goal.returns-clause-names
returns-clause-names g c = c.in_ok-left.ensures.names
