use Rattle.std.proofs.Common.{◌++◌, ◌∙◌, sym, arith}
use Rattle.call_text.specs.declared.phases.Line.{Line}
use Rattle.check_text.specs.Outlines.{outline_of}
use Rattle.check_text.specs.Warnings.{line_warnings, phase_warnings}
use Rattle.check_text.proofs.WarningLineLaws.{added, no_line}
use Rattle.check_text.proofs.script_checks.warnings.put_phase.Goals as goal
use Rattle.check_text.proofs.script_checks.warnings.put_phase.Goals.{in-Some+in_ok-put_line, in_default}

pub loop-at-preserved : goal.loop-at-preserved
loop-at-preserved c = elim c.match-line.branch [
  | in-Some+in_ok-put_line w ↦ rw w.out-is
      (added (λ (l : Line). line_warnings c.args.survey.now (outline_of c.args.place l) l.call.args) c.args.phase.now c.loop-at.at w.in-Some.line
      c.loop-at.out.items w.put_line.new.out.items (c.args.out.now.items ++ phase_warnings c.args.survey.now c.args.place c.args.phase.now)
      (sym w.in-Some.is ∙ c.line.ensures) c.loop-at.invariant
      (w.in_ok-put_line.ensures ∙ (λ i. c.loop-at.out.items ++ line_warnings c.args.survey.now (w.outline_of.ensures i) (w.args-in-Some.ensures.value i))))
  | in_default w ↦ absurd
      (no_line c.args.phase.now c.loop-at.at (sym w.in_default.is ∙ c.line.ensures)
      (omega (arith, c.loop-at-test.true, c.loop-at.auto.at-end, c.len-at-end.ensures)))
]
