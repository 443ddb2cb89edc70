use Rattle.std.proofs.Common.{◌≡◌, ℕ, ◌+◌, ◌-◌, List, length, min, get_or, true, sym, ap, ◌∙◌, subst}
use Rattle.base.specs.Live.{has}
use Rattle.containers.specs.Tree.{Tree, ids_in, list_of}
use Rattle.containers.specs.View.{ids_of}
use Rattle.containers.proofs.Views.{at_has, ids_are}
use Rattle.containers.proofs.Asked.{entry_length, entry_list}
use Rattle.containers.proofs.tree.Containers.entries.Goals as goal

pub returns-clause-count : goal.returns-clause-count
returns-clause-count g c =
    let a = c.self.inside in
    let p = c.in-Some.ensures.found in
    c.fill_window.ensures.count
    ∙ ap (λ (n : ℕ). min (length c.args.window.now) (n - c.args.from)) (sym (entry_length a.size a.root a.rings a.names.items a.arena c.self.invariant.0 p.0 c.args.container c.in-Some.d.0 p.1)
    ∙ ap (λ (t : Tree g.row.T.Denot). length (list_of t.lists c.args.container)) c.self.view_is)

pub returns-clause-listed : goal.returns-clause-listed
returns-clause-listed g c k lt =
    let a = c.self.inside in
    let p = c.in-Some.ensures.found in
    c.fill_window.ensures.listed k lt
    ∙ ap (λ (xs : List ℕ). get_or (ids_of a.rings xs c.in-Some.d.0) (c.args.from + k) 0) c.deref.ensures.value
    ∙ ap (λ (xs : List ℕ). get_or xs (c.args.from + k) 0) (sym (entry_list a.size a.root a.rings a.names.items a.arena c.self.invariant.0 p.0 c.args.container c.in-Some.d.0 p.1)
    ∙ ap (λ (t : Tree g.row.T.Denot). list_of t.lists c.args.container) c.self.view_is)

pub unreachable-requires : goal.unreachable-requires
unreachable-requires g c =
    let a = c.self.inside in
    let ids = ap (λ (t : Tree g.row.T.Denot). ids_in t.lists) (sym c.self.view_is) ∙ ids_are a.rings a.names.items a.arena.ids a.arena.slots c.self.invariant.0.directory.beside in
    let at = at_has a.arena.ids c.args.container (subst (λ (xs : List ℕ). has xs c.args.container ≡ true) ids c.requires) in
    c.in-None.ensures.absent at.0 at.1 at.2
