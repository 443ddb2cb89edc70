-- what the lines to come leave
use Rattle.std.proofs.Common.{◌≡◌, [], drop}
use Rattle.script_rules.specs.Lines.{lines_by}
use Rattle.script_runner.specs.Turns.{stand}
use Rattle.script_runner.proofs.players.Player.play_lines.Given as goal

abbrev pub invariant-loop-place : goal.invariant-loop-place
invariant-loop-place g l = record {
  stands : lines_by g.B.Naming.boot.limits l.seat
      (stand l.self.desk.journal l.self.names l.self.batch.lines.items l.answers) (drop l.place l.phase)
      ≡ lines_by g.B.Naming.boot.limits l.seat (stand l.fn.self.desk.journal l.fn.self.names [] l.fn.answers) l.phase;
  seated : l.self.desk.seated ≡ l.fn.self.desk.seated;
}
