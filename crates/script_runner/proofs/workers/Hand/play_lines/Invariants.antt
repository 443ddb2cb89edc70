-- what the lines to come leave
use Rattle.std.proofs.Common.{◌≡◌, []}
use Rattle.script_runner.specs.Desks.{events_in, noted_in, seat_in}
use Rattle.script_runner.specs.Shared.{with_note}
use Rattle.script_runner.specs.Turns.{stand}
use Rattle.script_runner.proofs.SharedLaws.{SoFar}
use Rattle.script_runner.proofs.workers.Hand.play_lines.Given as goal

abbrev pub invariant-loop-place : goal.invariant-loop-place
invariant-loop-place g l = record {
  played : SoFar g.B.Naming.boot.limits l.known (seat_in l.fn.seating) l.worker l.phase
      (with_note (noted_in l.fn.seating) (stand (events_in l.fn.seating) l.fn.self.own [] l.fn.self.answers)) l.place
      (with_note (noted_in l.seating) (stand (events_in l.seating) l.self.own l.self.batch.lines.items l.self.answers));
  seat : seat_in l.seating ≡ seat_in l.fn.seating;
}
