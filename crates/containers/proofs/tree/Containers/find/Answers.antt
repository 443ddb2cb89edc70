use Rattle.std.proofs.Common.{◌≡◌, false, subst, IfSome}
use Rattle.containers.specs.Objects.{IsAbsent}
use Rattle.base.specs.Live.{has}
use Rattle.containers.specs.Tree.{Tree, HasSlot, ids_in}
use Rattle.containers.proofs.Asked.{entry_found, absent_id, IfNone-weaker}
use Rattle.containers.proofs.tree.Containers.find.Goals as goal

pub returns-clause-found : goal.returns-clause-found
returns-clause-found g c =
    let a = c.self.inside in
    subst (λ (t : Tree g.row.T.Denot). IfSome c.find.result (λ slot. HasSlot t c.args.id slot.0)) c.self.view_is
    (entry_found a.size a.root a.rings a.names.items a.arena c.self.invariant.0 c.args.id c.find.result c.find.ensures.found)

pub returns-clause-absent : goal.returns-clause-absent
returns-clause-absent g c =
    let a = c.self.inside in
    IfNone-weaker c.find.result (IsAbsent a.arena c.args.id) (has (ids_in c.args.self.now.lists) c.args.id ≡ false) (λ none.
    subst (λ (t : Tree g.row.T.Denot). has (ids_in t.lists) c.args.id ≡ false) c.self.view_is (absent_id a.size a.root a.rings a.names.items a.arena c.self.invariant.0 c.args.id none)) c.find.ensures.absent
