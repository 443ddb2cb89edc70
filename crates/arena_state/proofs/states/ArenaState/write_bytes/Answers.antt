use Rattle.std.proofs.Common.{◌≤◌, ◌+◌, length, ap, arith, inl, inr}
use Rattle.kernel_rules.specs.Written.{written}
use Rattle.arena_memory.specs.Segments.{bytes_in}
use Rattle.arena_state.proofs.BodyLaws.{bytes_here}
use Rattle.arena_state.proofs.RefillLaws.{segments_sound, rebyted, rebyted_stocked, written_long}
use Rattle.arena_state.proofs.states.ArenaState.write_bytes.Goals as goal

pub write-requires-clause-within : goal.write-requires-clause-within
write-requires-clause-within c =
    elim (bytes_here c.args.self.now c.args.segment.id c.in-Some.slot.0 c.in-Some.ensures.found.has) [
      | inl is ↦ omega (arith, c.requires.inside, ap length is)
      | inr is ↦ omega (arith, c.requires.inside, ap length is)
    ]

pub invariant_of-self : goal.invariant_of-self
invariant_of-self c =
    let a = c.args.self.now in
    let has = c.in-Some.ensures.found.has in
    let within : c.args.at + length c.args.given.now ≤ length (bytes_in a.pieces.holdings.segments c.in-Some.slot.0)
    = elim (bytes_here a c.args.segment.id c.in-Some.slot.0 has) [
      | inl is ↦ omega (arith, c.requires.inside, ap length is)
      | inr is ↦ omega (arith, c.requires.inside, ap length is)
    ] in
    record {
      sound = segments_sound a.pieces c.write.new.self a.sound;
      stocked = rebyted_stocked a.pieces a.sound c.args.segment.id c.in-Some.slot.0 has a.stocked (written c.args.at c.args.given.now)
          c.write.new.self c.write.ensures.after (written_long c.args.at c.args.given.now _ within);
    }

pub returns-in-Some-clause-state : goal.returns-in-Some-clause-state
returns-in-Some-clause-state c =
    let a = c.args.self.now in
    let has = c.in-Some.ensures.found.has in
    let within : c.args.at + length c.args.given.now ≤ length (bytes_in a.pieces.holdings.segments c.in-Some.slot.0)
    = elim (bytes_here a c.args.segment.id c.in-Some.slot.0 has) [
      | inl is ↦ omega (arith, c.requires.inside, ap length is)
      | inr is ↦ omega (arith, c.requires.inside, ap length is)
    ] in
    rebyted a.pieces a.sound c.args.segment.id c.in-Some.slot.0 has a.stocked (written c.args.at c.args.given.now)
    c.write.new.self c.write.ensures.after (written_long c.args.at c.args.given.now _ within)
