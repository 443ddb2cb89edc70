use Rattle.std.proofs.Common.{◌≡◌, ◌++◌, drop, map}
use Rattle.dump_text.specs.Reads.{in_turn}
use Rattle.page_text.specs.Steps.{made, Asked, turns, steps_from, step_data}
use Rattle.page_text.specs.Told.{told_in}
use Rattle.plain_state.specs.StateOf.{state_of}
use Rattle.serde_json.specs.View.{view}
use Rattle.shown_dumps.specs.Trees.{named_tree}
use Rattle.page_text.proofs.steps.put_steps.Given as goal

abbrev pub invariant-loop-place : goal.invariant-loop-place
invariant-loop-place l = record {
  told : map view l.values.items
      ++ map (step_data l.source.names.now l.source.reached.now)
      (steps_from l.source.names.now (told_in l.text) (state_of l.state) (in_turn made Asked l.place (drop l.place l.source.events.now) l.rest))
      ≡ map view l.fn.values.items
      ++ map (step_data l.source.names.now l.source.reached.now)
      (steps_from l.source.names.now (told_in l.source.text.now) (state_of l.fn.state) (turns l.source.events.now l.source.reads.now));
  tree : l.tree.items ≡ named_tree l.source.names.now (state_of l.state);
}
