use Rattle.std.proofs.Common.{subst, IfSome}
use Rattle.containers.specs.Tree.{Tree, HasSlot}
use Rattle.containers.proofs.Asked.{entry_found}
use Rattle.containers.proofs.tree.Containers.peek.Goals as goal

pub returns-clause-found : goal.returns-clause-found
returns-clause-found g c =
    let a = c.self.inside in
    subst (λ (t : Tree g.row.T.Denot). IfSome c.peek.result (λ slot. HasSlot t c.args.id slot.0)) c.self.view_is
    (entry_found a.size a.root a.rings a.names.items a.arena c.self.invariant.0 c.args.id c.peek.result c.peek.ensures.found)
