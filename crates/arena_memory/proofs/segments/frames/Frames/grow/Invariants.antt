use Rattle.std.proofs.Common.{◌≡◌, ◌≤◌, ◌-◌, ◌++◌, max, length, set, replicate}
use Rattle.base.specs.Counts.{ProbesAtMost}
use Rattle.arena_memory.specs.Pages.{pages_at}
use Rattle.arena_memory.proofs.segments.frames.Frames.grow.Given as goal

abbrev pub invariant-loop-self : goal.invariant-loop-self
invariant-loop-self l = record {
  grown : l.self ≡ set l.initial.self l.slot (pages_at l.initial.self l.slot ++ replicate (length (pages_at l.self l.slot) - length (pages_at l.initial.self l.slot)) (replicate 256 0));
  most : length (pages_at l.self l.slot) ≤ max l.pages (length (pages_at l.initial.self l.slot));
  probes : ProbesAtMost (length (pages_at l.self l.slot) - length (pages_at l.initial.self l.slot)) l.initial.meter l.meter;
}

abbrev pub decreases-loop-self : goal.decreases-loop-self
decreases-loop-self l = l.pages - length (pages_at l.self l.slot)
