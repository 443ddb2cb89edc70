use Rattle.std.proofs.Common.{List, subst}
use Rattle.kernel_rules.specs.Events.{Event}
use Rattle.script_runner.specs.Dumps.{IsFileOf}
use Rattle.script_runner.specs.Reads.{reads_kept}
use Rattle.script_runner.specs.declared.reads.Reads.{Reads}
use Rattle.script_runner.proofs.program.texts_of.Goals as goal

pub returns-clause-file : goal.returns-clause-file
returns-clause-file g c = (c.as_slice.result.now, reads_kept c.as_slice-2.result.now, c.in_ok-file.ensures)

pub returns-clause-run : goal.returns-clause-run
returns-clause-run g c = record {
  events = c.in-Ok.played.events.items;
  known = c.in-Ok.played.names;
  asked = reads_kept c.in-Ok.played.reads.items;
  left = record { turns = c.in-Ok.ensures.turns; shared = c.in-Ok.ensures.shared };
  dumped = subst (λ (z : List Event × List Reads). IsFileOf c.args.options.now.dump c.args.options.now.checkpoint c.args.options.now.limits z.0
      (reads_kept z.1) c.in_ok-file.field-0.items)
      (λ i. (c.as_slice.ensures.value i, c.as_slice-2.ensures.value i)) c.in_ok-file.ensures;
  named = c.in_ok-known.ensures;
}
