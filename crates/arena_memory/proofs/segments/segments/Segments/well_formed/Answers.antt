use Rattle.arena_memory.proofs.Seen.{formed}
use Rattle.arena_memory.proofs.segments.segments.Segments.well_formed.Goals as goal

pub returns : goal.returns
returns c = formed c.self.inside.frames c.paged.ensures _ c.self.view_is
