use Rattle.std.proofs.Common.{◌≡◌, drop}
use Rattle.kernel_rules.specs.Translate.{place_among}
use Rattle.arena_state.specs.States.{state_of}
use Rattle.arena_state.proofs.states.ArenaState.place_among.Given as goal

-- the slots that are left decide, and nothing was read but them
abbrev pub invariant-loop-place : goal.invariant-loop-place
invariant-loop-place l = record {
  left :
      place_among (state_of l.self) l.thread.id l.address l.place (drop l.place l.slots)
      ≡ place_among (state_of l.self) l.thread.id l.address 0 l.slots;
  meter : l.meter ≡ l.initial.meter;
}
