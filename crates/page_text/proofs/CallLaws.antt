-- One call more, of those that are told one after another.
use Rattle.std.proofs.Common.{◌≡◌, ℕ, ◌+◌, ◌<◌, List, [], ◌∷◌, ◌++◌, length, map, drop, slice_index_or, ap, sym, ◌∙◌}
use Rattle.call_text.specs.declared.known_names.Named.{Named}
use Rattle.kernel_rules.specs.declared.histories.events.Answered.{Answered}
use Rattle.shown_dumps.proofs.ValueLaws.{one_more}
use Rattle.kernel_rules.specs.State.{State}
use Rattle.kernel_rules.specs.Step.{next}
use Rattle.page_text.specs.Steps.{call_told, calls_told, told_data}
use Rattle.page_text.specs.Told.{first_of}
use Rattle.serde_json.specs.Data.{Data}
use Rattle.serde_json.specs.View.{view}
use Rattle.serde_json.specs.declared.value.Value.{Value}
use Rattle.shown_dumps.proofs.CallLaws.{drop_item}

-- one call more
pub told_more : (names : List Named) (values new : List Value) (v : Value) (lines more : List (List ℕ)) (s n : State) (t : ℕ)
    (xs : List Answered) (i : ℕ) (a : Answered) (whole : List Data) → i < length xs → a ≡ slice_index_or xs i a
    → new ≡ values ++ v ∷ [] → view v ≡ told_data (call_told names (first_of lines) s t a.call)
    → more ≡ drop 1 lines → n ≡ next s t a.call
    → map view values ++ map told_data (calls_told names lines s t (drop i xs)) ≡ whole
    → map view new ++ map told_data (calls_told names more n t (drop (i + 1) xs)) ≡ whole
told_more names values new v lines more s n t xs i a whole within is pushed told left made all =
    ap (λ l. map view new ++ map told_data (calls_told names l n t (drop (i + 1) xs))) left
    ∙ ap (λ z. map view new ++ map told_data (calls_told names (drop 1 lines) z t (drop (i + 1) xs))) made
    ∙ one_more values new v (told_data (call_told names (first_of lines) s t a.call))
    (map told_data (calls_told names (drop 1 lines) (next s t a.call) t (drop (i + 1) xs))) whole pushed told
    (ap (λ (l : List Answered). map view values ++ map told_data (calls_told names lines s t l)) (sym (drop_item xs i a within is))
    ∙ all)
