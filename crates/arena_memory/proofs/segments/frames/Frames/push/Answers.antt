use Rattle.std.proofs.Common.{arith, length-set}
use Rattle.arena_memory.proofs.Rows.{free_in, pushed, pushed_view}
use Rattle.arena_memory.proofs.segments.frames.Frames.push.Goals as goal

pub index_mut-requires : goal.index_mut-requires
index_mut-requires c =
    let a = c.self.inside in
    omega (arith, a.frames.ok.0, free_in a.frames.items a.tables.items a.free.items _ c.in-Some.frame c.self.invariant.0 c.in-Some.ensures.items)

pub invariant_of-self : goal.invariant_of-self
invariant_of-self c =
    let a = c.self.inside in
    let kept = pushed a.frames.items a.tables.items a.free.items c.self.invariant.0 _ c.self.view_is c.args.slot _ c.requires.slot c.index_mut-table.ensures.value c.requires.few c.in-Some.frame _ _ c.in-Some.ensures.items c.push.ensures c.args.page.now c.told-page in
    (kept, omega (arith, c.self.invariant.1, length-set a.tables.items c.args.slot c.push.new.self, length-set a.frames.items c.in-Some.frame c.args.page.now), omega (arith, c.self.invariant.2, c.in-Some.ensures.capacity, length-set a.frames.items c.in-Some.frame c.args.page.now))

pub returns-clause-after : goal.returns-clause-after
returns-clause-after c =
    let a = c.self.inside in
    let within = free_in a.frames.items a.tables.items a.free.items _ c.in-Some.frame c.self.invariant.0 c.in-Some.ensures.items in
    pushed_view a.frames.items a.tables.items a.free.items c.self.invariant.0 _ c.self.view_is c.args.slot _ c.requires.slot c.index_mut-table.ensures.value c.requires.few c.in-Some.frame _ _ c.in-Some.ensures.items c.push.ensures c.args.page.now within
