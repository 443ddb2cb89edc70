use Rattle.std.proofs.Common.{ℕ, List, length, get_or, sym, ap, ◌∙◌, arith}
use Rattle.containers.specs.Tree.{Tree, ids_in}
use Rattle.containers.proofs.Views.{ids_are}
use Rattle.containers.proofs.tree.Containers.live.Goals as goal

pub id_at-requires : goal.id_at-requires
id_at-requires g c =
    let a = c.self.inside in
    let ids = ids_are a.rings a.names.items a.arena.ids a.arena.slots c.self.invariant.0.directory.beside in
    omega (arith, ap length ids, ap (λ (t : Tree g.row.T.Denot). length (ids_in t.lists)) c.self.view_is, c.requires)

pub returns-clause-value : goal.returns-clause-value
returns-clause-value g c =
    let a = c.self.inside in
    let ids = ids_are a.rings a.names.items a.arena.ids a.arena.slots c.self.invariant.0.directory.beside in
    c.id_at.ensures.value ∙ sym (ap (λ (xs : List ℕ). get_or xs c.args.place 0) ids) ∙ ap (λ (t : Tree g.row.T.Denot). get_or (ids_in t.lists) c.args.place 0) c.self.view_is
