-- The steps of a dump: the calls of its events and the queries of its reads, one after another, each a step of its thread.
use Rattle.std.specs.Prelude.{ℕ, List, map}
use Rattle.dump_text.specs.Reads.{in_turn}
use Rattle.dump_text.specs.declared.tables.PlacedRead.{PlacedRead}
use Rattle.flow_rules.specs.declared.steps.Step.{Step}
use Rattle.flow_rules.specs.declared.steps.Step.TheVariants as step
use Rattle.kernel_rules.specs.Events.{Event}
use Rattle.kernel_rules.specs.declared.histories.events.Answered.{Answered}

-- calls of one thread, as its steps
abbrev pub steps_by : ℕ → List Answered → List (ℕ × Step)
steps_by thread calls = map (λ a. (thread, step.Write a.call)) calls

-- those of an event
abbrev pub event_steps : Event → List (ℕ × Step)
event_steps e = steps_by e.thread e.calls

-- a read, as a step of its thread
abbrev pub read_step : PlacedRead → ℕ × Step
read_step r = (r.read.thread, step.Read r.read.query)

-- the steps of these events, and of the reads at their places among them
abbrev pub steps_of : List Event → List PlacedRead → List (ℕ × Step)
steps_of events reads = in_turn event_steps read_step 0 events reads
