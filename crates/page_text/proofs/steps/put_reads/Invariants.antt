use Rattle.std.proofs.Common.{◌≡◌, ◌++◌, drop, map}
use Rattle.page_text.specs.Steps.{Asked, steps_from, step_data}
use Rattle.page_text.specs.Told.{told_in}
use Rattle.plain_state.specs.StateOf.{state_of}
use Rattle.serde_json.specs.View.{view}
use Rattle.page_text.proofs.steps.put_reads.Given as goal

abbrev pub invariant-loop-placed : goal.invariant-loop-placed
invariant-loop-placed l =
    map view l.values.items
    ++ map (step_data l.before.names.now l.before.reached.now) (steps_from l.before.names.now (told_in l.rest) (state_of l.state) (map Asked (drop l.placed-index l.reads)))
    ≡ map view l.fn.values.items
    ++ map (step_data l.before.names.now l.before.reached.now) (steps_from l.before.names.now (told_in l.text) (state_of l.state) (map Asked l.reads))
