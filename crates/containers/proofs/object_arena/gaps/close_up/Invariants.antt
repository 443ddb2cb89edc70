use Rattle.std.proofs.Common.{◌≡◌, vec_capacity}
use Rattle.containers.specs.Gaps.{IsClosing}
use Rattle.containers.proofs.object_arena.gaps.close_up.Given as goal

abbrev pub invariant-loop-place : goal.invariant-loop-place
invariant-loop-place g l = record {
  closing : IsClosing l.initial.ids l.initial.slots l.initial.spare.items l.ids l.slots l.spare.items l.cells l.end l.place;
  room : vec_capacity l.spare ≡ vec_capacity l.initial.spare;
}
