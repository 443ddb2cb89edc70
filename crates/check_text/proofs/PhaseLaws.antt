-- The warnings of phases, one after another.
use Rattle.std.proofs.Common.{◌≡◌, ℕ, suc, ◌+◌, ◌<◌, List, ◌∷◌, ◌++◌, length, drop, get_or, ap, sym, ◌∙◌, append_assoc, arith}
use Rattle.std.proofs.lemmas.List.{drop_more}
use Rattle.call_text.specs.declared.phases.Line.{Line}
use Rattle.check_text.specs.Surveys.{Surveyed}
use Rattle.check_text.specs.Warnings.{phase_warnings, warnings_from}
use Rattle.check_text.specs.declared.script_checks.warnings.Warned.{Warned}

-- those of a phase, and then those of the phases after it
pub warned_more : (s : Surveyed) (phases : List (List Line)) (i : ℕ) (p : List Line) (old new all : List Warned) → i < length phases
    → p ≡ get_or phases i p → new ≡ old ++ phase_warnings s i p → old ++ warnings_from s i (drop i phases) ≡ all
    → new ++ warnings_from s (i + 1) (drop (i + 1) phases) ≡ all
warned_more s phases i p old new all lt is added before =
    let more : i + 1 ≡ suc i = omega arith in
    let rest : List (List Line) = drop (i + 1) phases in
    let here : drop i phases ≡ p ∷ rest = drop_more phases i p lt ∙ ap (λ (x : List Line). x ∷ rest) (sym is) in
    ap (λ l. l ++ warnings_from s (i + 1) rest) added ∙ append_assoc old (phase_warnings s i p) (warnings_from s (i + 1) rest)
    ∙ ap (λ n. old ++ (phase_warnings s i p ++ warnings_from s n rest)) more
    ∙ ap (λ l. old ++ warnings_from s i l) (sym here) ∙ before
