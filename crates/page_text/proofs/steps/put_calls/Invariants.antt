use Rattle.std.proofs.Common.{◌≡◌, ◌++◌, drop, map}
use Rattle.kernel_rules.specs.Events.{by}
use Rattle.kernel_rules.specs.Runs.{state_after}
use Rattle.page_text.specs.Steps.{calls_told, told_data}
use Rattle.page_text.specs.Told.{told_in}
use Rattle.plain_state.specs.StateOf.{state_of}
use Rattle.serde_json.specs.View.{view}
use Rattle.page_text.proofs.steps.put_calls.Given as goal

abbrev pub invariant-loop-answered : goal.invariant-loop-answered
invariant-loop-answered l = record {
  told : map view l.values.items
      ++ map told_data (calls_told l.lines.names.now (told_in l.rest) (state_of l.state) l.thread (drop l.answered-index l.calls))
      ≡ map view l.fn.values.items ++ map told_data (calls_told l.lines.names.now (told_in l.lines.text.now) (state_of l.fn.state) l.thread l.calls);
  made : state_after (state_of l.state) (by l.thread (map (λ a. a.call) (drop l.answered-index l.calls)))
      ≡ state_after (state_of l.fn.state) (by l.thread (map (λ a. a.call) l.calls));
}
