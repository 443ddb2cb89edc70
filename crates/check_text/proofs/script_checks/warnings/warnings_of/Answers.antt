use Rattle.std.proofs.Common.{◌≡◌, ◌∙◌, ◌++◌, List, ap, sym}
use Rattle.call_text.specs.declared.phases.Line.{Line}
use Rattle.check_text.specs.Surveys.{Surveyed, survey_of}
use Rattle.check_text.specs.Warnings.{phase_warnings, warnings_of}
use Rattle.check_text.proofs.PhaseLaws.{warned_more}
use Rattle.check_text.proofs.script_checks.warnings.warnings_of.Goals as goal

pub loop-place-preserved : goal.loop-place-preserved
loop-place-preserved c =
    let phases : List (List Line) = c.as_slice-phases.result.now in
    let phase : List Line = c.index-phases-place.result in
    let script : phases ≡ c.args.script.now = c.as_slice-phases.ensures.value ∙ c.script.view_is in
    let survey : c.in_ok-survey.survey ≡ survey_of phases = c.in_ok-survey.ensures ∙ ap survey_of (sym script) in
    warned_more (survey_of phases) phases c.loop-place.place phase c.loop-place.found.items c.put_phase.new.out.items (warnings_of phases)
    c.loop-place-test.true c.index-phases-place.is
    (c.in_ok-put_phase.ensures ∙ ap (λ (s : Surveyed). c.loop-place.found.items ++ phase_warnings s c.loop-place.place phase) survey)
    c.loop-place.invariant
