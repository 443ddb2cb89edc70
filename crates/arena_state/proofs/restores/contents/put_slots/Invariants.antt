use Rattle.std.proofs.Common.{◌≡◌, ◌++◌, take, drop, replicate, set, None}
use Rattle.arena_state.proofs.restores.contents.put_slots.Given as goal

abbrev pub invariant-loop-place : goal.invariant-loop-place
invariant-loop-place l =
    l.spaces ≡ set l.fn.spaces l.slot.0 (take l.place l.slots ++ drop l.place (replicate 16 None))
