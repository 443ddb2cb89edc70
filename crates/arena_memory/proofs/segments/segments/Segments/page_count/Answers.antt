use Rattle.std.proofs.Common.{sym, ◌∙◌}
use Rattle.arena_memory.proofs.Seen.{count_is}
use Rattle.arena_memory.proofs.segments.segments.Segments.page_count.Goals as goal

pub returns : goal.returns
returns c = c.count.ensures.count ∙ sym (count_is c.self.inside.frames c.count.ensures.paged _ c.self.view_is c.args.slot.0)
