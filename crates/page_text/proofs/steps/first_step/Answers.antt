use Rattle.std.proofs.Common.{◌≡◌, false, ℕ, List, [], map, IfOk, ap, subst, ◌∙◌}
use Rattle.page_text.specs.Steps.{step_data}
use Rattle.serde_json.specs.View.{view}
use Rattle.serde_json.specs.declared.value.Value.{Value}
use Rattle.page_text.proofs.steps.first_step.Goals as goal

pub returns : goal.returns
returns c =
    subst (λ (l : List ℕ). IfOk c.step_value.result (λ value. view value
    ≡ step_data c.args.names.now c.args.reached.now (record { is_read = false; told = []; before = []; after = l })))
    (c.as_slice.ensures.value ∙ c.in_ok-tree.ensures)
    (c.step_value.ensures [] (ap (λ (l : List Value). map view l) c.new.ensures.items))
