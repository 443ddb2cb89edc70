use Rattle.std.proofs.Common.{true, ℕ, List, [], ◌∷◌, ap, ◌∙◌}
use Rattle.page_text.specs.Steps.{read_told, step_data}
use Rattle.page_text.specs.Told.{told_in}
use Rattle.page_text.proofs.TurnLaws.{asked_more}
use Rattle.plain_state.specs.StateOf.{state_of}
use Rattle.shown_dumps.specs.Trees.{named_tree}
use Rattle.page_text.proofs.steps.put_reads.Goals as goal

pub loop-placed-preserved : goal.loop-placed-preserved
loop-placed-preserved c =
    asked_more c.args.before.now.names.now c.args.before.now.reached.now c.loop-placed.values.items c.push.new.list.items c.in_ok-asked_value.field-0
    (told_in c.loop-placed.rest.now) (told_in c.first_told-parts.result.1.now) (state_of c.args.state.now) c.args.reads.now
    c.loop-placed.placed-index c.placed-item.result _ c.loop-placed-test.true c.placed-item.is c.in_ok-push.ensures.ok
    (c.in_ok-asked_value.ensures
    ∙ ap (λ (l : List ℕ). step_data c.args.before.now.names.now c.args.before.now.reached.now (record {
      is_read = true;
      told = read_told c.args.before.now.names.now l (state_of c.args.state.now) c.placed-item.result.read ∷ [];
      before = named_tree c.args.before.now.names.now (state_of c.args.state.now);
      after = named_tree c.args.before.now.names.now (state_of c.args.state.now);
    }))
    c.first_told-parts.ensures.line)
    c.first_told-parts.ensures.rest c.loop-placed.invariant
