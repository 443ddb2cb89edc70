use Rattle.std.proofs.Common.{length, sym, ap, ◌∙◌, subst}
use Rattle.containers.specs.Tree.{Tree, ids_in}
use Rattle.containers.specs.WellFormed.{IsWellFormed}
use Rattle.containers.proofs.WellFormeds.{view_well}
use Rattle.containers.proofs.Views.{ids_are}
use Rattle.containers.proofs.tree.Containers.len.Goals as goal

pub returns-clause-count : goal.returns-clause-count
returns-clause-count g c =
    let a = c.self.inside in
    let ids = ids_are a.rings a.names.items a.arena.ids a.arena.slots c.self.invariant.0.directory.beside in
    c.len.ensures.count ∙ sym (ap length ids) ∙ ap (λ (t : Tree g.row.T.Denot). length (ids_in t.lists)) c.self.view_is

pub returns-clause-well_formed : goal.returns-clause-well_formed
returns-clause-well_formed g c =
    let a = c.self.inside in
    subst (λ (t : Tree g.row.T.Denot). IsWellFormed t) c.self.view_is (view_well a.size a.root a.rings a.names.items a.arena c.self.invariant.0 c.len.ensures.well_formed)
