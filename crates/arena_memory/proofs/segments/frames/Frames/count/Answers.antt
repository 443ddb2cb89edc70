use Rattle.std.proofs.Common.{subst}
use Rattle.arena_memory.specs.Pages.{IsPaged}
use Rattle.arena_memory.proofs.Keeps.{paged}
use Rattle.arena_memory.proofs.segments.frames.Frames.count.Goals as goal

pub returns-clause-paged : goal.returns-clause-paged
returns-clause-paged c =
    let a = c.self.inside in
    subst IsPaged c.self.view_is (paged a.frames.items a.tables.items a.free.items c.self.invariant.0)
