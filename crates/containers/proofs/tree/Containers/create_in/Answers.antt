use Rattle.std.proofs.Common.{◌≡◌, ℕ, ◌<◌, List, [], ◌∷◌, ◌++◌, length, get_or, set, Option, Some, sym, ap, ◌∙◌, subst, arith, length-set}
use Rattle.std.specs.Prelude.{All}
use Rattle.containers.specs.Tree.{Tree, add_lists, ids_in, link_count}
use Rattle.containers.specs.View.{lists_of, IsKept}
use Rattle.containers.specs.Cells.{IsRecorded}
use Rattle.containers.proofs.Asked.{found_recorded, found_name}
use Rattle.containers.proofs.Counts.{some_spare}
use Rattle.containers.proofs.Directories.{drafted_of}
use Rattle.containers.proofs.Creates.{kept_created, lists_created}
use Rattle.containers.proofs.Views.{ids_are}
use Rattle.containers.proofs.tree.Containers.create_in.Given as given
use Rattle.containers.proofs.tree.Containers.create_in.Goals as goal

pub insert-slot-requires-clause-room : goal.insert-slot-requires-clause-room
insert-slot-requires-clause-room g c =
    let a = c.self.inside in
    let ids = ids_are a.rings a.names.items a.arena.ids a.arena.slots c.self.invariant.0.directory.beside in
    omega (arith, c.requires.slots, ap length ids, ap (λ (t : Tree g.row.T.Denot). length (ids_in t.lists)) c.self.view_is, ap (λ (t : Tree g.row.T.Denot). length t.cells) c.self.view_is)

pub insert-slot-requires-clause-rises : goal.insert-slot-requires-clause-rises
insert-slot-requires-clause-rises g c =
    let a = c.self.inside in
    let ids = ap (λ (t : Tree g.row.T.Denot). ids_in t.lists) (sym c.self.view_is) ∙ ids_are a.rings a.names.items a.arena.ids a.arena.slots c.self.invariant.0.directory.beside in
    subst (λ (xs : List ℕ). All (λ i. i < c.args.id) xs) ids c.requires.rises

pub add_link-requires-clause-container : goal.add_link-requires-clause-container
add_link-requires-clause-container g c =
    let a = c.self.inside in
    (found_recorded a.size a.root a.rings a.names.items a.arena c.self.invariant.0 c.args.self.now c.self.view_is c.args.container.id c.args.container.slot.0 c.requires.container).within

pub add_link-requires-clause-spare : goal.add_link-requires-clause-spare
add_link-requires-clause-spare g c =
    let a = c.self.inside in
    let few : link_count (lists_of a.rings a.names.items a.arena.ids a.arena.slots) < a.size = omega (arith, ap (λ (t : Tree g.row.T.Denot). link_count t.lists) c.self.view_is, ap (λ (t : Tree g.row.T.Denot). length t.cells) c.self.view_is, c.self.invariant.1, c.requires.room) in
    some_spare a.size a.root a.rings a.names.items a.arena.ids a.arena.slots (drafted_of c.self.invariant.0) few

-- what the new object is put beside
record IsReady (g : given.Over) (c : goal.After-add_link g) : Type 0 where
  pub rd : IsRecorded c.self.inside.size c.self.inside.root c.self.inside.rings c.args.container.slot.0
  pub d_is : get_or c.self.inside.names.items c.args.container.slot.0 0 ≡ c.args.container.id
  pub o_in : c.insert-slot.result.0 < c.self.inside.size
  pub above : All (λ i. i < c.args.id) c.self.inside.arena.ids

ready : (g : given.Over) (c : goal.After-add_link g) → IsReady g c
ready g c =
    let a = c.self.inside in
    let ids = ap (λ (t : Tree g.row.T.Denot). ids_in t.lists) (sym c.self.view_is) ∙ ids_are a.rings a.names.items a.arena.ids a.arena.slots c.self.invariant.0.directory.beside in
    record {
      rd = found_recorded a.size a.root a.rings a.names.items a.arena c.self.invariant.0 c.args.self.now c.self.view_is c.args.container.id c.args.container.slot.0 c.requires.container;
      d_is = found_name a.size a.root a.rings a.names.items a.arena c.self.invariant.0 c.args.self.now c.self.view_is c.args.container.id c.args.container.slot.0 c.requires.container;
      o_in = omega (arith, c.insert-slot.ensures.within, c.self.invariant.1);
      above = subst (λ (xs : List ℕ). All (λ i. i < c.args.id) xs) ids c.requires.rises;
    }

pub invariant_of-self : goal.invariant_of-self
invariant_of-self g c =
    let a = c.self.inside in
    let r = ready g c in
    let k = kept_created a.size a.root a.rings c.add_link.new.rings a.names.items a.arena.ids a.arena.slots c.args.container.slot.0 c.insert-slot.result.0 c.args.id c.self.invariant.0 r.rd r.o_in c.insert-slot.ensures.apart r.above c.add_link.ensures.added in (
      subst (λ (xs : List ℕ). IsKept a.size a.root c.add_link.new.rings (set a.names.items c.insert-slot.result.0 c.number.result) xs c.insert-slot.new.self.slots) (sym c.insert-slot.ensures.ids)
          (subst (λ (xs : List ℕ). IsKept a.size a.root c.add_link.new.rings (set a.names.items c.insert-slot.result.0 c.number.result) (a.arena.ids ++ c.args.id ∷ []) xs) (sym c.insert-slot.ensures.slots)
          (subst (λ (i : ℕ). IsKept a.size a.root c.add_link.new.rings (set a.names.items c.insert-slot.result.0 i) (a.arena.ids ++ c.args.id ∷ []) (a.arena.slots ++ c.insert-slot.result.0 ∷ [])) (sym c.number.ensures) k)),
      ap (λ (os : List (Option g.row.T.Denot)). length os) c.insert-slot.ensures.cells ∙ length-set a.arena.cells c.insert-slot.result.0 (Some c.args.value) ∙ c.self.invariant.1,
      c.self.invariant.2,
      c.self.invariant.3,
    )

pub returns-clause-lists : goal.returns-clause-lists
returns-clause-lists g c =
    let a = c.self.inside in
    let r = ready g c in
    let id = c.args.id in
    ap (λ (i : ℕ). lists_of c.add_link.new.rings (set a.names.items c.insert-slot.result.0 i) c.insert-slot.new.self.ids c.insert-slot.new.self.slots) c.number.ensures
    ∙ ap (λ (xs : List ℕ). lists_of c.add_link.new.rings (set a.names.items c.insert-slot.result.0 c.args.id) xs c.insert-slot.new.self.slots) c.insert-slot.ensures.ids
    ∙ ap (λ (xs : List ℕ). lists_of c.add_link.new.rings (set a.names.items c.insert-slot.result.0 c.args.id) (a.arena.ids ++ c.args.id ∷ []) xs) c.insert-slot.ensures.slots
    ∙ lists_created a.size a.root a.rings c.add_link.new.rings a.names.items a.arena.ids a.arena.slots c.args.container.slot.0 c.insert-slot.result.0 c.args.id c.self.invariant.0 r.rd r.o_in c.insert-slot.ensures.apart r.above c.add_link.ensures.added
    ∙ ap (λ (i : ℕ). add_lists (lists_of a.rings a.names.items a.arena.ids a.arena.slots) i c.args.id ++ (c.args.id, []) ∷ []) r.d_is
    ∙ ap (λ (t : Tree g.row.T.Denot). add_lists t.lists c.args.container.id c.args.id ++ (c.args.id, []) ∷ []) c.self.view_is
