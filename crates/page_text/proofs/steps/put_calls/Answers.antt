use Rattle.std.proofs.Common.{ℕ, List, ◌++◌, map, ap, ◌∙◌}
use Rattle.page_text.specs.Steps.{call_told, calls_told, told_data}
use Rattle.page_text.specs.Told.{told_in}
use Rattle.page_text.proofs.CallLaws.{told_more}
use Rattle.plain_state.specs.StateOf.{state_of}
use Rattle.serde_json.specs.View.{view}
use Rattle.shown_dumps.proofs.CallLaws.{made_more}
use Rattle.page_text.proofs.steps.put_calls.Goals as goal

pub loop-answered-preserved : goal.loop-answered-preserved
loop-answered-preserved c = record {
  told = told_more c.args.lines.now.names.now c.loop-answered.values.items c.push.new.list.items c.in_ok-call_value.field-0
      (told_in c.loop-answered.rest.now) (told_in c.first_told-parts.result.1.now) (state_of c.loop-answered.state)
      (state_of c.call_value.new.state) c.args.thread c.args.calls.now c.loop-answered.answered-index c.answered-item.result
      (map view c.args.values.now.items ++ map told_data (calls_told c.args.lines.now.names.now (told_in c.args.lines.now.text.now) (state_of c.args.state.now) c.args.thread c.args.calls.now))
      c.loop-answered-test.true c.answered-item.is c.in_ok-push.ensures.ok
      (c.in_ok-call_value.ensures.value
      ∙ ap (λ (l : List ℕ). told_data (call_told c.args.lines.now.names.now l (state_of c.loop-answered.state) c.args.thread c.answered-item.result.call))
      c.first_told-parts.ensures.line)
      c.first_told-parts.ensures.rest c.in_ok-call_value.ensures.state c.loop-answered.invariant.told;
  made = made_more c.args.thread c.args.calls.now c.loop-answered.answered-index c.answered-item.result
      (state_of c.loop-answered.state) (state_of c.call_value.new.state) c.loop-answered-test.true c.answered-item.is
      c.in_ok-call_value.ensures.state
      ∙ c.loop-answered.invariant.made;
}
