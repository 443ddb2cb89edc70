use Rattle.std.proofs.Common.{◌∙◌}
use Rattle.arena_memory.proofs.RowLemmas.{shows_read}
use Rattle.arena_memory.proofs.translation_rows.row.Row.at.Goals as goal

pub returns : goal.returns
returns c =
    c.shown_as.ensures
    ∙ shows_read c.self.inside.objects c.self.inside.rights c.args.self.now c.args.place _ _ c.self.view_is c.requires c.self.invariant.0 c.self.invariant.1
