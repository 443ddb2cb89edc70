use Rattle.std.proofs.Common.{◌≡◌, ℕ, List, get_or, true, sym, ap, ◌∙◌, subst, arith, lit<}
use Rattle.base.specs.Live.{has, links}
use Rattle.containers.specs.Tree.{Tree, ids_in}
use Rattle.containers.proofs.Views.{at_has, ids_are}
use Rattle.std.proofs.lemmas.List.{get_or_read}
use Rattle.containers.proofs.Asked.{first_linked, holder_within, holder_links, none_links}
use Rattle.containers.proofs.tree.Containers.parent.Goals as goal

pub head_of-container-requires : goal.head_of-container-requires
head_of-container-requires g c =
    let a = c.self.inside in
    let p = c.in-Some.ensures.found in
    (lit< tt, (lit< tt, first_linked a.size a.root a.rings a.names.items a.arena c.self.invariant.0 p.0 c.args.object c.in-Some.o.0 p.1 c.in-Some-first.cell c.in-Some-first.ensures.value))

pub index-requires : goal.index-requires
index-requires g c =
    let a = c.self.inside in
    let p = c.in-Some.ensures.found in
    let lt = holder_within a.size a.root a.rings a.names.items a.arena c.self.invariant.0 p.0 c.args.object c.in-Some.o.0 p.1 c.in-Some-first.cell c.head_of-container.result c.in-Some-first.ensures.value c.head_of-container.ensures.value in
    omega (arith, lt, c.self.invariant.0.names_len, a.names.ok.0)

pub returns-in-Some-first-clause-listed : goal.returns-in-Some-first-clause-listed
returns-in-Some-first-clause-listed g c =
    let a = c.self.inside in
    let p = c.in-Some.ensures.found in
    let h = holder_links a.size a.root a.rings a.names.items a.arena c.self.invariant.0 p.0 c.args.object c.in-Some.o.0 p.1 c.in-Some-first.cell c.head_of-container.result c.in-Some-first.ensures.value c.head_of-container.ensures.value in
    let lt = holder_within a.size a.root a.rings a.names.items a.arena c.self.invariant.0 p.0 c.args.object c.in-Some.o.0 p.1 c.in-Some-first.cell c.head_of-container.result c.in-Some-first.ensures.value c.head_of-container.ensures.value in
    let read = get_or_read a.names.items c.head_of-container.result _ (omega (arith, lt, c.self.invariant.0.names_len)) c.index.ensures 0 in
    subst (λ (i : ℕ). links c.args.self.now.lists i c.args.object ≡ true) (sym (c.new.ensures ∙ read))
    (subst (λ (t : Tree g.row.T.Denot). links t.lists (get_or a.names.items c.head_of-container.result 0) c.args.object ≡ true) c.self.view_is h)

pub returns-in-None-first-clause-none : goal.returns-in-None-first-clause-none
returns-in-None-first-clause-none g c =
    let a = c.self.inside in
    let p = c.in-Some.ensures.found in
    λ d. ap (λ (t : Tree g.row.T.Denot). links t.lists d c.args.object) (sym c.self.view_is) ∙ none_links a.size a.root a.rings a.names.items a.arena c.self.invariant.0 p.0 c.args.object c.in-Some.o.0 p.1 c.in-None-first.ensures.value d

pub unreachable-requires : goal.unreachable-requires
unreachable-requires g c =
    let a = c.self.inside in
    let ids = ap (λ (t : Tree g.row.T.Denot). ids_in t.lists) (sym c.self.view_is) ∙ ids_are a.rings a.names.items a.arena.ids a.arena.slots c.self.invariant.0.directory.beside in
    let at = at_has a.arena.ids c.args.object (subst (λ (xs : List ℕ). has xs c.args.object ≡ true) ids c.requires) in
    c.in-None.ensures.absent at.0 at.1 at.2
