use Rattle.std.proofs.Common.{◌≡◌, ◌-◌, ◌≤◌, length, map, set, take}
use Rattle.std.specs.List.{concat}
use Rattle.kernel_rules.specs.Written.{written}
use Rattle.arena_memory.specs.Segments.{bytes_in}
use Rattle.arena_memory.proofs.Writes.{IsMet}
use Rattle.arena_memory.proofs.segments.segments.Segments.write_pages.Given as goal

abbrev pub invariant-loop-done : goal.invariant-loop-done
invariant-loop-done l = record {
  most : l.done ≤ length l.given;
  so_far : map concat l.self-inside.frames ≡ set l.fn.self l.slot.0 (written l.at (take l.done l.given) (bytes_in l.fn.self l.slot.0));
  met : IsMet l.at l.done (length l.given) l.initial.meter l.meter;
}

abbrev pub decreases-loop-done : goal.decreases-loop-done
decreases-loop-done l = length l.given - l.done
