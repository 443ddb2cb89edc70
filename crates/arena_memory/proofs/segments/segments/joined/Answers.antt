use Rattle.std.proofs.Common.{◌∙◌}
use Rattle.arena_memory.proofs.Parts.{joined_is}
use Rattle.arena_memory.proofs.segments.segments.joined.Goals as goal

pub returns : goal.returns
returns c = c.from_slice.ensures ∙ joined_is c.args.first.now c.copy_from_slice.new.self c.args.second.now c.copy_from_slice-2.new.self _ _ c.copy_from_slice.ensures.after c.copy_from_slice-2.ensures.after
