use Rattle.std.proofs.Common.{◌≡◌, ℕ, ◌<◌, ◌≤◌, None, slice_index_or}
use Rattle.arena_memory.proofs.translation_rows.rows.next_filled.Given as goal

abbrev pub invariant-loop-slot : goal.invariant-loop-slot
invariant-loop-slot l = (passed : ℕ) → l.from ≤ passed → passed < l.slot → slice_index_or l.threads passed None ≡ None
