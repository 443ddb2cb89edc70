use Rattle.std.proofs.Common.{◌++◌, ◌∷◌, [], ◌∙◌, ap, map, sym, arith}
use Rattle.check_text.specs.Outlines.{outline_of}
use Rattle.check_text.specs.declared.script_checks.outlines.Outline.{Outline}
use Rattle.check_text.proofs.WarningLineLaws.{mapped, no_line}
use Rattle.check_text.proofs.script_checks.outlines.put_phase.Goals as goal
use Rattle.check_text.proofs.script_checks.outlines.put_phase.Goals.{in-Some+in_ok-push, in_default}

pub loop-at-preserved : goal.loop-at-preserved
loop-at-preserved c = elim c.match-line.branch [
  | in-Some+in_ok-push w ↦ rw w.out-is
      (mapped (outline_of c.args.place) c.args.phase.now c.loop-at.at w.in-Some.line c.loop-at.out.items w.push.new.self.items
      (c.args.out.now.items ++ map (outline_of c.args.place) c.args.phase.now) (sym w.in-Some.is ∙ c.line.ensures) c.loop-at.invariant
      (w.in_ok-push.ensures.items ∙ ap (λ (o : Outline). c.loop-at.out.items ++ o ∷ []) w.outline_of.ensures))
  | in_default w ↦ absurd
      (no_line c.args.phase.now c.loop-at.at (sym w.in_default.is ∙ c.line.ensures)
      (omega (arith, c.loop-at-test.true, c.loop-at.auto.at-end, c.len-at-end.ensures)))
]
