use Rattle.std.proofs.Common.{◌≡◌, false, sym, ap, ◌∙◌}
use Rattle.std.proofs.lemmas.Option.{IfSome_then}
use Rattle.base.specs.Live.{links}
use Rattle.containers.specs.Tree.{Tree}
use Rattle.containers.specs.View.{lists_of}
use Rattle.containers.specs.Cells.{Lists'}
use Rattle.containers.proofs.Asked.{answered, IfNone-weaker, absent_container, absent_object, link_true, link_false}
use Rattle.containers.proofs.tree.Containers.is_listed.Goals as goal

pub returns-in-Some-find-clause-value : goal.returns-in-Some-find-clause-value
returns-in-Some-find-clause-value g c =
    let a = c.self.inside in
    let p = c.in-Some.ensures.found in
    let q = c.in-Some-find.ensures.found in
    c.is_some.ensures
    ∙ answered c.find_link.result (links (lists_of a.rings a.names.items a.arena.ids a.arena.slots) c.args.container c.args.object)
    (IfSome_then c.find_link.result c.find_link.ensures.found (λ cell l.
    link_true a.size a.root a.rings a.names.items a.arena c.self.invariant.0 p.0 c.args.container c.in-Some.d.0 q.0 c.args.object c.in-Some-find.o.0 p.1 q.1 (record { cell = cell; link = l })))
    (IfNone-weaker c.find_link.result (Lists' a.size a.rings c.in-Some.d.0 c.in-Some-find.o.0 → ⊥) (links (lists_of a.rings a.names.items a.arena.ids a.arena.slots) c.args.container c.args.object ≡ false)
    (λ none. link_false a.size a.root a.rings a.names.items a.arena c.self.invariant.0 p.0 c.args.container c.in-Some.d.0 q.0 c.args.object c.in-Some-find.o.0 p.1 q.1 none) c.find_link.ensures.absent)
    ∙ ap (λ (t : Tree g.row.T.Denot). links t.lists c.args.container c.args.object) c.self.view_is

pub returns-in-None-find-clause-value : goal.returns-in-None-find-clause-value
returns-in-None-find-clause-value g c =
    let a = c.self.inside in
    sym (absent_object a.size a.root a.rings a.names.items a.arena c.self.invariant.0 c.args.container c.args.object c.in-None-find.ensures.absent)
    ∙ ap (λ (t : Tree g.row.T.Denot). links t.lists c.args.container c.args.object) c.self.view_is

pub returns-in-None-clause-value : goal.returns-in-None-clause-value
returns-in-None-clause-value g c =
    let a = c.self.inside in
    sym (absent_container a.size a.root a.rings a.names.items a.arena c.self.invariant.0 c.args.container c.args.object c.in-None.ensures.absent)
    ∙ ap (λ (t : Tree g.row.T.Denot). links t.lists c.args.container c.args.object) c.self.view_is
