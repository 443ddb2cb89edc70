-- Nothing on a page has a number with a fraction.
use Rattle.std.proofs.Common.{◌≡◌, ℕ, false, ◌||◌, List, [], ◌∷◌, map, Option, Some, None, refl, ap, ◌∙◌}
use Rattle.base.specs.declared.ids.Category.{Category}
use Rattle.call_text.specs.declared.known_names.Named.{Named}
use Rattle.page_text.specs.Edits.{Edit}
use Rattle.page_text.specs.Marked.{mark_data, line_data, edit_data}
use Rattle.page_text.specs.Page.{object_data, flow_data, shown_data}
use Rattle.page_text.specs.Steps.{Step, told_data, step_data, step_edits}
use Rattle.serde_json.specs.Data.{Data}
use Rattle.serde_json.specs.View.{items_of}
use Rattle.serde_json.specs.Written.{has_float, items_have_float}
use Rattle.shown_dumps.specs.Colours.{marks_of}

no_each : {A : Type 0} (f : A → Data) → ((x : A) → has_float (f x) ≡ false) → (xs : List A)
    → items_have_float (items_of (map f xs)) ≡ false
no_each f none [] = refl
no_each f none (x ∷ xs) = ap (λ b. b || items_have_float (items_of (map f xs))) (none x) ∙ no_each f none xs

no_line : (names : List Named) (reached before line : List ℕ) → has_float (line_data names reached before line) ≡ false
no_line names reached before line = ap (λ b. b || false) (no_each mark_data (λ m. refl) (marks_of line))

no_edit : (names : List Named) (reached before : List ℕ) (e : Edit) → has_float (edit_data names reached before e) ≡ false
no_edit names reached before e = no_each (line_data names reached before) (no_line names reached before) e.put

no_step : (names : List Named) (reached : List ℕ) (p : Step) → has_float (step_data names reached p) ≡ false
no_step names reached p =
    ap (λ b. b || (items_have_float (items_of (map told_data p.told)) || false))
    (no_each (edit_data names reached p.before) (no_edit names reached p.before) (step_edits p))
    ∙ ap (λ b. b || false) (no_each told_data (λ t. refl) p.told)

no_flow : (names : List Named) (flow : Option (ℕ × Category)) (reached : List ℕ) → has_float (flow_data names flow reached) ≡ false
no_flow names None reached = refl
no_flow names (Some flow) reached = ap (λ b. b || false) (no_each (object_data names) (λ id. refl) reached)

pub no_float : (names : List Named) (flow : Option (ℕ × Category)) (reached : List ℕ) (steps : List Step)
    → has_float (shown_data names flow reached steps) ≡ false
no_float names flow reached steps =
    ap (λ b. b || (items_have_float (items_of (map (step_data names reached) steps)) || false)) (no_flow names flow reached)
    ∙ ap (λ b. b || false) (no_each (step_data names reached) (no_step names reached) steps)
