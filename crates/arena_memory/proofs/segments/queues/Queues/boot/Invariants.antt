use Rattle.std.proofs.Common.{◌≡◌, ◌≤◌, [], vec_len, vec_capacity, replicate}
use Rattle.arena_memory.proofs.segments.queues.Queues.boot.Given as goal

abbrev pub invariant-loop-slot : goal.invariant-loop-slot
invariant-loop-slot l = record {
  queues : l.queues.items ≡ replicate l._slot [];
  room : l.slots ≤ vec_capacity l.queues;
  len : vec_len l.queues ≡ l._slot;
}
