use Rattle.std.proofs.Common.{◌+◌}
use Rattle.arena_state.proofs.OwningLaws.{counted_sound}
use Rattle.arena_state.proofs.HeldLaws.{counted_stocked}
use Rattle.arena_state.proofs.states.ArenaState.own_category.Goals as goal

pub invariant_of-self : goal.invariant_of-self
invariant_of-self c = record {
  sound = counted_sound c.own.new.self.pieces (c.own.new.self.pieces.next_category + 1) c.own.new.self.sound;
  stocked = counted_stocked c.own.new.self.pieces (c.own.new.self.pieces.next_category + 1) c.own.new.self.stocked;
}
