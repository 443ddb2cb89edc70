use Rattle.std.proofs.Common.{◌∙◌, arith}
use Rattle.std.proofs.lemmas.List.{get_or_read}
use Rattle.arena_memory.proofs.Rows.{frame_in, page_is}
use Rattle.arena_memory.proofs.segments.frames.Frames.page.Goals as goal

pub index-requires-2 : goal.index-requires-2
index-requires-2 c =
    let a = c.self.inside in
    omega (arith, a.frames.ok.0, frame_in a.frames.items a.tables.items a.free.items c.self.invariant.0 _ c.self.view_is c.args.slot _ c.requires.slot c.index.ensures c.args.place c.at-frame.result c.requires.place c.at-frame.ensures)

pub returns-clause-value : goal.returns-clause-value
returns-clause-value c =
    let a = c.self.inside in
    let within = frame_in a.frames.items a.tables.items a.free.items c.self.invariant.0 _ c.self.view_is c.args.slot _ c.requires.slot c.index.ensures c.args.place c.at-frame.result c.requires.place c.at-frame.ensures in
    get_or_read a.frames.items c.at-frame.result _ within c.index-2.ensures _
    ∙ page_is a.frames.items a.tables.items a.free.items c.self.invariant.0 _ c.self.view_is c.args.slot _ c.requires.slot c.index.ensures c.args.place c.at-frame.result c.requires.place c.at-frame.ensures
