use Rattle.std.proofs.Common.{ℕ, Some}
use Rattle.base.specs.declared.ids.Slot.{Slot}
use Rattle.containers.specs.Tree.{HasSlot}
use Rattle.arena_state.specs.States.{Stands}
use Rattle.arena_state.specs.declared.states.ArenaState.{ArenaState}
use Rattle.arena_state.proofs.SoundLaws.{slot_within}
use Rattle.arena_state.proofs.states.ArenaState.peek_all.Goals as goal

-- a slot that an object has is where it lies
lies : (a : ArenaState) (id : ℕ) (slot : Slot) → HasSlot a.pieces.places id slot.0 → Stands a (record { id = id; slot = Some slot })
lies a id slot h = record {
  found = record { has = h; within = slot_within a.pieces a.sound id slot.0 h };
  none = tt;
}

pub returns-in-Some-clause-stands : goal.returns-in-Some-clause-stands
returns-in-Some-clause-stands c = record {
  caller = lies c.args.self.now c.args.thread c.in-Some.own c.in-Some.ensures.one;
  container = lies c.args.self.now c.args.entry.now.container c.in-Some.container c.in-Some.ensures.two;
  object = lies c.args.self.now c.args.entry.now.object c.in-Some.object c.in-Some.ensures.three;
}
