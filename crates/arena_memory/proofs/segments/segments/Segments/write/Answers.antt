use Rattle.std.proofs.Common.{arith}
use Rattle.arena_memory.proofs.Writes.{slot_here, place_here, written_here}
use Rattle.arena_memory.proofs.segments.segments.Segments.write.Goals as goal

pub put-requires-clause-slot : goal.put-requires-clause-slot
put-requires-clause-slot c =
    slot_here c.args.self.now c.args.slot.0 c.args.at c.args.given.now c.requires.slot c.requires.within c.self.inside.frames c.paged.ensures
    c.self.view_is c.if-given-gt0.true (omega (arith, c.if-given-offset.true))

pub put-requires-clause-place : goal.put-requires-clause-place
put-requires-clause-place c =
    place_here c.args.self.now c.args.slot.0 c.args.at c.args.given.now c.requires.slot c.requires.within c.self.inside.frames c.paged.ensures
    c.self.view_is c.if-given-gt0.true (omega (arith, c.if-given-offset.true))

pub returns-then-given-offset-clause-after : goal.returns-then-given-offset-clause-after
returns-then-given-offset-clause-after c =
    written_here c.args.self.now c.args.slot.0 c.args.at c.args.given.now c.requires.slot c.requires.within c.self.inside.frames c.paged.ensures
    c.self.view_is c.if-given-gt0.true (omega (arith, c.if-given-offset.true)) c.put.new.self c.put.ensures.after
