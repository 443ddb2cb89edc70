use Rattle.std.proofs.Common.{◌≡◌, ◌≤◌, vec_len, vec_capacity, replicate, None}
use Rattle.std.specs.List.{range_with_len}
use Rattle.containers.proofs.object_arena.arena.Arena.boot.Given as goal

abbrev pub invariant-loop-slot : goal.invariant-loop-slot
invariant-loop-slot g l = record {
  given : l.spare.items ≡ range_with_len 0 l.slot;
  empty : l.cells.items ≡ replicate l.slot None;
  room_given : l.size ≤ vec_capacity l.spare;
  room_empty : l.size ≤ vec_capacity l.cells;
  len_given : vec_len l.spare ≡ l.slot;
  len_empty : vec_len l.cells ≡ l.slot;
}
