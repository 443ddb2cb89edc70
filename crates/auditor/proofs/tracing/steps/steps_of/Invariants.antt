use Rattle.std.proofs.Common.{◌≡◌, ◌++◌, drop}
use Rattle.dump_text.specs.Reads.{in_turn}
use Rattle.auditor.specs.Steps.{event_steps, read_step, steps_of}
use Rattle.auditor.proofs.tracing.steps.steps_of.Given as goal

abbrev pub invariant-loop-place : goal.invariant-loop-place
invariant-loop-place l =
    l.steps.items ++ in_turn event_steps read_step l.place (drop l.place l.events) l.rest ≡ steps_of l.events l.reads
