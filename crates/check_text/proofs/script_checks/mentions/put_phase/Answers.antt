use Rattle.std.proofs.Common.{◌++◌, ◌∙◌, sym, arith}
use Rattle.check_text.specs.Mentions.{line_mentions, phase_mentions}
use Rattle.check_text.proofs.WarningLineLaws.{added, no_line}
use Rattle.check_text.proofs.script_checks.mentions.put_phase.Goals as goal
use Rattle.check_text.proofs.script_checks.mentions.put_phase.Goals.{in-Some+in_ok-put_line, in_default}

pub loop-place-preserved : goal.loop-place-preserved
loop-place-preserved c = elim c.match-line.branch [
  | in-Some+in_ok-put_line w ↦ rw w.out-is
      (added line_mentions c.args.phase.now c.loop-place.place w.in-Some.line c.loop-place.out.items w.put_line.new.out.items
      (c.args.out.now.items ++ phase_mentions c.args.phase.now) (sym w.in-Some.is ∙ c.line.ensures) c.loop-place.invariant
      w.in_ok-put_line.ensures)
  | in_default w ↦ absurd
      (no_line c.args.phase.now c.loop-place.place (sym w.in_default.is ∙ c.line.ensures)
      (omega (arith, c.loop-place-test.true, c.loop-place.auto.place-end, c.len-place-end.ensures)))
]
