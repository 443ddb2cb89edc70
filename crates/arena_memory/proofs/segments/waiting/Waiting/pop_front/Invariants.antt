use Rattle.std.proofs.Common.{◌≡◌, take, drop, length}
use Rattle.arena_memory.proofs.segments.waiting.Waiting.pop_front.Given as goal

abbrev pub invariant-loop-i : goal.invariant-loop-i
invariant-loop-i l = (length l.self-inside.packets ≡ 4) × (l.self-inside.len ≡ l.initial.self-inside.len) × (take l.i l.self-inside.packets ≡ take l.i (drop 1 l.initial.self-inside.packets)) × (drop l.i l.self-inside.packets ≡ drop l.i l.initial.self-inside.packets)
