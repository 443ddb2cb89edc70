use Rattle.std.proofs.Common.{length-set, arith}
use Rattle.arena_memory.proofs.Rows.{frame_in, put_kept, put_after}
use Rattle.arena_memory.proofs.segments.frames.Frames.put.Goals as goal

pub index_mut-page-requires : goal.index_mut-page-requires
index_mut-page-requires c =
    let a = c.self.inside in
    omega (arith, a.frames.ok.0, frame_in a.frames.items a.tables.items a.free.items c.self.invariant.0 _ c.self.view_is c.args.slot _ c.requires.slot c.index.ensures c.args.place c.at-frame.result c.requires.place c.at-frame.ensures)

pub invariant_of-self : goal.invariant_of-self
invariant_of-self c =
    let a = c.self.inside in
    let kept = put_kept a.frames.items a.tables.items a.free.items c.self.invariant.0 _ c.self.view_is c.args.slot _ c.requires.slot c.index.ensures c.args.place c.at-frame.result c.requires.place c.at-frame.ensures
    c.index_mut-page.result.now c.index_mut-page.ensures.value c.args.from c.args.part.now c.overwrite.new.page c.overwrite.ensures c.requires.within in
    (kept, omega (arith, c.self.invariant.1, length-set a.frames.items c.at-frame.result), omega (arith, c.self.invariant.2, length-set a.frames.items c.at-frame.result))

pub returns-clause-after : goal.returns-clause-after
returns-clause-after c =
    let a = c.self.inside in
    put_after a.frames.items a.tables.items a.free.items c.self.invariant.0 _ c.self.view_is c.args.slot _ c.requires.slot c.index.ensures c.args.place c.at-frame.result c.requires.place c.at-frame.ensures
    c.index_mut-page.result.now c.index_mut-page.ensures.value c.args.from c.args.part.now c.overwrite.new.page c.overwrite.ensures c.requires.within
