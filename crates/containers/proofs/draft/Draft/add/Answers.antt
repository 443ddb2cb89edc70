use Rattle.std.proofs.Common.{◌≡◌, ℕ, ◌<◌, List, [], ◌∷◌, ◌++◌, length, set, Option, Some, sym, ap, ◌∙◌, subst, arith, length-set}
use Rattle.std.specs.Prelude.{All}
use Rattle.containers.specs.Tree.{Tree, ids_in}
use Rattle.containers.specs.View.{lists_of, IsDrafted}
use Rattle.containers.proofs.Drafts.{drafted_more, lists_more}
use Rattle.containers.proofs.Views.{ids_are}
use Rattle.containers.proofs.draft.Draft.add.Given as given
use Rattle.containers.proofs.draft.Draft.add.Goals as goal

pub insert-slot-requires-clause-room : goal.insert-slot-requires-clause-room
insert-slot-requires-clause-room g c =
    let a = c.self.inside in
    let ids = ids_are a.rings a.names.items a.arena.ids a.arena.slots c.self.invariant.0.listing.beside in
    omega (arith, c.requires.slots, ap length ids, ap (λ (t : Tree g.row.T.Denot). length (ids_in t.lists)) c.self.view_is, ap (λ (t : Tree g.row.T.Denot). length t.cells) c.self.view_is)

pub insert-slot-requires-clause-rises : goal.insert-slot-requires-clause-rises
insert-slot-requires-clause-rises g c =
    let a = c.self.inside in
    let ids = ap (λ (t : Tree g.row.T.Denot). ids_in t.lists) (sym c.self.view_is) ∙ ids_are a.rings a.names.items a.arena.ids a.arena.slots c.self.invariant.0.listing.beside in
    subst (λ (xs : List ℕ). All (λ i. i < c.args.id) xs) ids c.requires.rises

-- what is laid down
record IsReady (g : given.Over) (c : goal.After-self-1 g) : Type 0 where
  pub o_in : c.insert-slot.result.0 < c.self.inside.size
  pub above : All (λ i. i < c.args.id) c.self.inside.arena.ids

ready : (g : given.Over) (c : goal.After-self-1 g) → IsReady g c
ready g c =
    let a = c.self.inside in
    let ids = ap (λ (t : Tree g.row.T.Denot). ids_in t.lists) (sym c.self.view_is) ∙ ids_are a.rings a.names.items a.arena.ids a.arena.slots c.self.invariant.0.listing.beside in
    record {
      o_in = omega (arith, c.insert-slot.ensures.within, c.self.invariant.1);
      above = subst (λ (xs : List ℕ). All (λ i. i < c.args.id) xs) ids c.requires.rises;
    }

pub invariant_of-self : goal.invariant_of-self
invariant_of-self g c =
    let a = c.self.inside in
    let r = ready g c in
    let k = drafted_more a.size a.root a.rings a.names.items a.arena.ids a.arena.slots c.self.invariant.0 c.insert-slot.result.0 c.args.id r.o_in c.insert-slot.ensures.apart r.above in (
      subst (λ (xs : List ℕ). IsDrafted a.size a.root a.rings (set a.names.items c.insert-slot.result.0 c.number.result) xs c.insert-slot.new.self.slots) (sym c.insert-slot.ensures.ids)
          (subst (λ (xs : List ℕ). IsDrafted a.size a.root a.rings (set a.names.items c.insert-slot.result.0 c.number.result) (a.arena.ids ++ c.args.id ∷ []) xs) (sym c.insert-slot.ensures.slots)
          (subst (λ (i : ℕ). IsDrafted a.size a.root a.rings (set a.names.items c.insert-slot.result.0 i) (a.arena.ids ++ c.args.id ∷ []) (a.arena.slots ++ c.insert-slot.result.0 ∷ [])) (sym c.number.ensures) k)),
      ap (λ (os : List (Option g.row.T.Denot)). length os) c.insert-slot.ensures.cells ∙ length-set a.arena.cells c.insert-slot.result.0 (Some c.args.value) ∙ c.self.invariant.1,
      c.self.invariant.2,
      c.self.invariant.3,
    )

pub returns-clause-lists : goal.returns-clause-lists
returns-clause-lists g c =
    let a = c.self.inside in
    let r = ready g c in
    ap (λ (i : ℕ). lists_of a.rings (set a.names.items c.insert-slot.result.0 i) c.insert-slot.new.self.ids c.insert-slot.new.self.slots) c.number.ensures
    ∙ ap (λ (xs : List ℕ). lists_of a.rings (set a.names.items c.insert-slot.result.0 c.args.id) xs c.insert-slot.new.self.slots) c.insert-slot.ensures.ids
    ∙ ap (λ (xs : List ℕ). lists_of a.rings (set a.names.items c.insert-slot.result.0 c.args.id) (a.arena.ids ++ c.args.id ∷ []) xs) c.insert-slot.ensures.slots
    ∙ lists_more a.size a.root a.rings a.names.items a.arena.ids a.arena.slots c.self.invariant.0 c.insert-slot.result.0 c.args.id r.o_in c.insert-slot.ensures.apart r.above
    ∙ ap (λ (t : Tree g.row.T.Denot). t.lists ++ (c.args.id, []) ∷ []) c.self.view_is
