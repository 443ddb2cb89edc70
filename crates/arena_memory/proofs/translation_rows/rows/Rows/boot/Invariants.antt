use Rattle.std.proofs.Common.{◌≡◌, ◌≤◌, None, vec_len, vec_capacity, replicate}
use Rattle.arena_memory.proofs.translation_rows.rows.Rows.boot.Given as goal

abbrev pub invariant-loop-slot : goal.invariant-loop-slot
invariant-loop-slot l = record {
  rows : l.rows.items ≡ replicate l._slot (replicate 16 None);
  room : l.slots ≤ vec_capacity l.rows;
  len : vec_len l.rows ≡ l._slot;
}
