use Rattle.std.proofs.Common.{ℕ, [], ◌∷◌, ◌++◌, length, drop, map, ap, sym, ◌∙◌, arith}
use Rattle.kernel_rules.specs.Events.{Event}
use Rattle.page_text.specs.Steps.{Made, line_count, event_after, step_of, step_data}
use Rattle.page_text.specs.Told.{told_in}
use Rattle.page_text.proofs.TurnLaws.{steps_more, steps_end}
use Rattle.plain_state.specs.StateOf.{state_of}
use Rattle.serde_json.specs.View.{view}
use Rattle.page_text.proofs.steps.put_steps.Goals as goal

pub loop-place-preserved : goal.loop-place-preserved
loop-place-preserved c = record {
  told = steps_more c.args.source.now.names.now c.args.source.now.reached.now c.loop-place.place c.args.source.now.events.now c.index-source-place.result
      c.loop-place.rest.now c.part_reads.result.0.now c.part_reads.result.1.now (told_in c.loop-place.text.now)
      (told_in c.after_told-own.result.now) (told_in c.after_told-text.result.now) (state_of c.loop-place.state)
      (state_of c.put_event.new.state) (map view c.loop-place.values.items) (map view c.put_reads.new.values.items)
      (map view c.put_event.new.values.items) _ c.loop-place-test.true c.index-source-place.is c.part_reads.ensures.here
      c.part_reads.ensures.past c.after_told-own.ensures
      (c.after_told-text.ensures
      ∙ ap (λ (n : ℕ). drop n (told_in c.after_told-own.result.now))
      (c.line_count.ensures ∙ ap (λ (e : Event). line_count (Made e)) (sym c.index-source-place.is)))
      (c.in_ok-after.ensures.state ∙ ap (λ (e : Event). event_after (state_of c.loop-place.state) e) (sym c.index-source-place.is))
      c.in_ok-put_reads.ensures
      (c.in_ok-after.ensures.values
      ∙ ap (λ (e : Event). map view c.put_reads.new.values.items
      ++ step_data c.args.source.now.names.now c.args.source.now.reached.now
      (step_of c.args.source.now.names.now (told_in c.after_told-own.result.now) (state_of c.loop-place.state) (Made e)) ∷ [])
      (sym c.index-source-place.is))
      c.loop-place.invariant.told;
  tree = c.in_ok-after.ensures.tree;
}

pub returns : goal.returns
returns c =
    steps_end c.args.source.now.names.now c.args.source.now.reached.now c.loop-place.place (length c.args.source.now.events.now) c.args.source.now.events.now
    c.loop-place.rest.now c.part_reads-2.result.0.now (told_in c.loop-place.text.now) (state_of c.loop-place.state)
    (map view c.loop-place.values.items) (map view c.put_reads-2.new.values.items) _ (omega arith) (omega arith)
    c.part_reads-2.ensures.here c.in_ok-put_reads-2.ensures c.loop-place.invariant.told
