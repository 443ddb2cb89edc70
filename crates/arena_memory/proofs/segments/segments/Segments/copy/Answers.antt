use Rattle.std.proofs.Common.{length, sym, ap, arith}
use Rattle.arena_memory.proofs.Seen.{seen, blank_is, room_is, count_is, bytes_is}
use Rattle.arena_memory.proofs.segments.segments.Segments.copy.Goals as goal

pub append-requires-clause-blank : goal.append-requires-clause-blank
append-requires-clause-blank c = blank_is c.self.inside.frames c.paged.ensures _ c.self.view_is c.args.to.0 c.requires.blank

pub append-requires-clause-room : goal.append-requires-clause-room
append-requires-clause-room c =
    let f = c.self.inside.frames in
    omega (arith, room_is f c.paged.ensures _ c.self.view_is c.args.to.0 _ c.requires.room, count_is f c.paged.ensures _ c.self.view_is c.args.from.0, ap length (blank_is f c.paged.ensures _ c.self.view_is c.args.to.0 c.requires.blank))

pub returns-clause-after : goal.returns-clause-after
returns-clause-after c =
    let f = c.self.inside.frames in
    seen f c.paged.ensures _ c.self.view_is _ c.args.to.0 _ _ c.append.ensures.after (sym (bytes_is f c.paged.ensures _ c.self.view_is c.args.from.0))
