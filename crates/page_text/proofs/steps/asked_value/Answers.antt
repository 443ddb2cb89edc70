use Rattle.std.proofs.Common.{◌≡◌, true, ℕ, List, [], ◌∷◌, ◌++◌, map, IfOk, ap, subst, ◌∙◌}
use Rattle.page_text.specs.Steps.{Told, read_told, step_data}
use Rattle.plain_state.specs.StateOf.{state_of}
use Rattle.serde_json.specs.Data.{Data}
use Rattle.serde_json.specs.View.{view}
use Rattle.serde_json.specs.declared.value.Value.{Value}
use Rattle.page_text.proofs.steps.asked_value.Goals as goal

pub returns : goal.returns
returns c =
    let lines : List Told = read_told c.args.before.now.names.now c.args.line.now (state_of c.args.state.now) c.args.read.now ∷ [] in
    subst (λ (l : List ℕ). IfOk c.step_value.result (λ value. view value
    ≡ step_data c.args.before.now.names.now c.args.before.now.reached.now (record { is_read = true; told = lines; before = l; after = l })))
    c.requires
    (c.step_value.ensures lines
    (ap (λ (l : List Value). map view l)
    (c.in_ok-push.ensures.ok ∙ ap (λ (l : List Value). l ++ c.in_ok-read_value.field-0 ∷ []) c.new-told.ensures.items)
    ∙ ap (λ (d : Data). d ∷ []) c.in_ok-read_value.ensures))
