use Rattle.std.proofs.Common.{arith, length-set, replicate}
use Rattle.arena_memory.proofs.Rows.{last_in, popped, popped_view}
use Rattle.arena_memory.proofs.segments.frames.Frames.pop.Goals as goal

pub index_mut-requires : goal.index_mut-requires
index_mut-requires c =
    let a = c.self.inside in
    omega (arith, a.frames.ok.0, last_in a.frames.items a.tables.items a.free.items c.self.invariant.0 _ c.self.view_is c.args.slot _ c.requires.slot c.index_mut-table.ensures.value c.requires.some _ c.pop-frame.ensures.rest _ c.pop-frame.ensures.last)

pub invariant_of-self : goal.invariant_of-self
invariant_of-self c =
    let a = c.self.inside in
    let kept = popped a.frames.items a.tables.items a.free.items c.self.invariant.0 _ c.self.view_is c.args.slot _ c.requires.slot c.index_mut-table.ensures.value c.requires.some _ c.pop-frame.ensures.rest _ c.pop-frame.ensures.last _ c.push_reserved.ensures.items in
    (kept, omega (arith, c.self.invariant.1, length-set a.tables.items c.args.slot c.pop-frame.new.self, length-set a.frames.items c.pop-frame.result (replicate 256 0)), omega (arith, c.self.invariant.2, c.push_reserved.ensures.capacity, length-set a.frames.items c.pop-frame.result (replicate 256 0)))

pub returns-clause-after : goal.returns-clause-after
returns-clause-after c =
    let a = c.self.inside in
    popped_view a.frames.items a.tables.items a.free.items c.self.invariant.0 _ c.self.view_is c.args.slot _ c.requires.slot c.index_mut-table.ensures.value c.requires.some _ c.pop-frame.ensures.rest _ c.pop-frame.ensures.last
