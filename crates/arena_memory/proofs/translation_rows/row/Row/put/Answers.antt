use Rattle.arena_memory.proofs.RowLemmas.{shows_written}
use Rattle.arena_memory.proofs.translation_rows.row.Row.put.Goals as goal

pub returns : goal.returns
returns c =
    shows_written c.self.inside.objects c.self.inside.rights c.args.self.now c.args.place _ _ c.args.shown.now
    c.self.view_is c.requires c.self.invariant.0 c.self.invariant.1 c.object_of.ensures c.rights_of.ensures
