use Rattle.std.proofs.Common.{◌≡◌, false, ◌∙◌}
use Rattle.std.proofs.lemmas.Option.{IfSome_then}
use Rattle.base.specs.Live.{links}
use Rattle.containers.specs.Cells.{Lists'}
use Rattle.containers.proofs.Asked.{answered, IfNone-weaker, found_recorded, found_true, found_false}
use Rattle.containers.proofs.tree.Containers.is_linked.Goals as goal

pub find_link-requires-clause-container : goal.find_link-requires-clause-container
find_link-requires-clause-container g c =
    let a = c.self.inside in
    (found_recorded a.size a.root a.rings a.names.items a.arena c.self.invariant.0 c.args.self.now c.self.view_is c.args.container.id c.args.container.slot.0 c.requires.container).within

pub find_link-requires-clause-object : goal.find_link-requires-clause-object
find_link-requires-clause-object g c =
    let a = c.self.inside in
    (found_recorded a.size a.root a.rings a.names.items a.arena c.self.invariant.0 c.args.self.now c.self.view_is c.args.object.id c.args.object.slot.0 c.requires.object).within

pub returns-clause-value : goal.returns-clause-value
returns-clause-value g c =
    let a = c.self.inside in
    c.is_some.ensures
    ∙ answered c.find_link.result (links c.args.self.now.lists c.args.container.id c.args.object.id)
    (IfSome_then c.find_link.result c.find_link.ensures.found (λ cell l.
    found_true a.size a.root a.rings a.names.items a.arena c.self.invariant.0 c.args.self.now c.self.view_is c.args.container.id c.args.container.slot.0 c.args.object.id c.args.object.slot.0 c.requires.container c.requires.object (record { cell = cell; link = l })))
    (IfNone-weaker c.find_link.result (Lists' a.size a.rings c.args.container.slot.0 c.args.object.slot.0 → ⊥) (links c.args.self.now.lists c.args.container.id c.args.object.id ≡ false)
    (found_false a.size a.root a.rings a.names.items a.arena c.self.invariant.0 c.args.self.now c.self.view_is c.args.container.id c.args.container.slot.0 c.args.object.id c.args.object.slot.0 c.requires.container c.requires.object) c.find_link.ensures.absent)
