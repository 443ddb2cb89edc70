use Rattle.std.proofs.Common.{◌≡◌, ◌*◌, set, take}
use Rattle.base.specs.Counts.{ProbesAtMost}
use Rattle.arena_memory.specs.Pages.{pages_at}
use Rattle.arena_memory.proofs.segments.frames.Frames.append.Given as goal

abbrev pub invariant-loop-place : goal.invariant-loop-place
invariant-loop-place l = record {
  copied : l.self ≡ set l.initial.self l.to (take l.place (pages_at l.initial.self l.from));
  probes : ProbesAtMost (2 * l.place) l.initial.meter l.meter;
}
