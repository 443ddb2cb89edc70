use Rattle.std.proofs.Common.{◌≡◌, ◌∙◌, [], Some, slice_get, sym}
use Rattle.script_rules.specs.Lines.{lines_by}
use Rattle.script_runner.specs.Turns.{stand}
use Rattle.script_runner.proofs.TurnLaws.{line_next}
use Rattle.script_runner.proofs.players.Player.play_lines.Goals as goal

pub loop-place-preserved : goal.loop-place-preserved
loop-place-preserved g c =
    let there : slice_get c.args.phase.now c.loop-place.place ≡ Some c.in-Some.line = sym c.line.ensures ∙ c.in-Some.is in
    record {
      stands = line_next g.B.Naming.boot.limits c.args.seat.now
          (stand c.loop-place.self.desk.journal c.loop-place.self.names c.loop-place.self.batch.lines.items c.loop-place.answers)
          (stand c.play_line.new.self.desk.journal c.play_line.new.self.names c.play_line.new.self.batch.lines.items c.play_line.new.answers)
          (lines_by g.B.Naming.boot.limits c.args.seat.now (stand c.args.self.now.desk.journal c.args.self.now.names [] c.args.answers.now) c.args.phase.now)
          c.args.phase.now c.loop-place.place c.in-Some.line there c.loop-place.invariant.stands c.in_ok-play_line.ensures.stands;
      seated = c.play_line.ensures.seated ∙ c.loop-place.invariant.seated;
    }
