use Rattle.std.proofs.Common.{◌≡◌, ◌≤◌, ◌-◌, min, length, set, take}
use Rattle.base.specs.Counts.{ProbesAtMost}
use Rattle.arena_memory.specs.Pages.{pages_at}
use Rattle.arena_memory.proofs.segments.frames.Frames.shrink.Given as goal

abbrev pub invariant-loop-self : goal.invariant-loop-self
invariant-loop-self l = record {
  cut : l.self ≡ set l.initial.self l.slot (take (length (pages_at l.self l.slot)) (pages_at l.initial.self l.slot));
  least : min l.pages (length (pages_at l.initial.self l.slot)) ≤ length (pages_at l.self l.slot);
  probes : ProbesAtMost (length (pages_at l.initial.self l.slot) - length (pages_at l.self l.slot)) l.initial.meter l.meter;
}

abbrev pub decreases-loop-self : goal.decreases-loop-self
decreases-loop-self l = length (pages_at l.self l.slot)
