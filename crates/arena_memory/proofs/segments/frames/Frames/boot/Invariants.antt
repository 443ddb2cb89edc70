use Rattle.std.proofs.Common.{◌≡◌, ◌≤◌, [], vec_len, vec_capacity, replicate}
use Rattle.std.specs.List.{range_with_len}
use Rattle.arena_memory.proofs.segments.frames.Frames.boot.Given as goal

abbrev pub invariant-loop-frame : goal.invariant-loop-frame
invariant-loop-frame l = record {
  frames : l.frames.items ≡ replicate l.frame (replicate 256 0);
  tables : l.tables.items ≡ replicate l.frame [];
  free : l.free.items ≡ range_with_len 0 l.frame;
  room_frames : l.slots ≤ vec_capacity l.frames;
  room_tables : l.slots ≤ vec_capacity l.tables;
  room_free : l.slots ≤ vec_capacity l.free;
  len_frames : vec_len l.frames ≡ l.frame;
  len_tables : vec_len l.tables ≡ l.frame;
  len_free : vec_len l.free ≡ l.frame;
}
