use Rattle.std.proofs.Common.{subst, IfSome}
use Rattle.base.specs.declared.ids.Slot.{Slot}
use Rattle.containers.specs.Tree.{Tree, HasSlot}
use Rattle.containers.proofs.Asked.{entry_of}
use Rattle.containers.proofs.tree.Containers.peek_three.Goals as goal

pub returns-clause-one : goal.returns-clause-one
returns-clause-one g c =
    let a = c.self.inside in
    subst (λ (t : Tree g.row.T.Denot). IfSome c.peek_three.result (λ slots. HasSlot t c.args.one slots.0.0)) c.self.view_is
    (entry_of a.size a.root a.rings a.names.items a.arena c.self.invariant.0 c.args.one c.peek_three.result (λ (s : Slot × Slot × Slot). s.0) c.peek_three.ensures.one)

pub returns-clause-two : goal.returns-clause-two
returns-clause-two g c =
    let a = c.self.inside in
    subst (λ (t : Tree g.row.T.Denot). IfSome c.peek_three.result (λ slots. HasSlot t c.args.two slots.1.0)) c.self.view_is
    (entry_of a.size a.root a.rings a.names.items a.arena c.self.invariant.0 c.args.two c.peek_three.result (λ (s : Slot × Slot × Slot). s.1) c.peek_three.ensures.two)

pub returns-clause-three : goal.returns-clause-three
returns-clause-three g c =
    let a = c.self.inside in
    subst (λ (t : Tree g.row.T.Denot). IfSome c.peek_three.result (λ slots. HasSlot t c.args.three slots.2.0)) c.self.view_is
    (entry_of a.size a.root a.rings a.names.items a.arena c.self.invariant.0 c.args.three c.peek_three.result (λ (s : Slot × Slot × Slot). s.2) c.peek_three.ensures.three)
