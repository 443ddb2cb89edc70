use Rattle.std.proofs.Common.{◌<◌}
use Rattle.label_lattice.proofs.PairsLemmas.{IsFilled-push, items_of-push}
use Rattle.label_lattice.proofs.pairings.Pairs.push.Goals as goal

pub invariant_of-self : goal.invariant_of-self
invariant_of-self g c =
    let room : c.self.inside.len < g.row.N =
    rw (← c.self.view_is, c.self.invariant.within) at c.requires in
    IsFilled-push g.row.N c.self.inside.len c.self.inside.categories c.self.inside.levels
    c.args.pair c.self.invariant room

pub returns : goal.returns
returns g c =
    let room : c.self.inside.len < g.row.N =
    rw (← c.self.view_is, c.self.invariant.within) at c.requires in
    rw (← c.self.view_is)
    (items_of-push g.row.N c.self.inside.len c.self.inside.categories c.self.inside.levels
    c.args.pair c.self.invariant room)
