use Rattle.std.proofs.Common.{◌≡◌, take, length}
use Rattle.arena_memory.proofs.translation_rows.row.Row.set.Given as goal

abbrev pub invariant-loop-place : goal.invariant-loop-place
invariant-loop-place l = (take l.place l.self ≡ take l.place l.shown) × (length l.self ≡ 16)
