-- the desk is the same thread's, has seen no less and tells no less; the notes so far are learnt
use mathlib.Core.List.{IsPrefix}
use Rattle.std.proofs.Common.{◌≡◌, take}
use Rattle.script_runner.specs.Shared.{AreLearnt}
use Rattle.script_runner.proofs.shared_desks.SharedDesk.learn.Given as goal

abbrev pub invariant-loop-note : goal.invariant-loop-note
invariant-loop-note g l = record {
  thread : l.self-inside.seat.pass.thread ≡ l.fn.self.thread;
  seen : IsPrefix l.fn.self.events l.self-inside.seat.pass.seen;
  noted : IsPrefix l.fn.self.noted l.self-inside.seat.told;
  learnt : AreLearnt (take l.note-index l.notes) l.self-inside.seat.told;
}
