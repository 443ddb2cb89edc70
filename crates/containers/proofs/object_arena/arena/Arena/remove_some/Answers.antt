use Rattle.std.proofs.Common.{◌≡◌, ◌≤◌, List, length, vec_len, vec_capacity, Option, ap, sym, ◌∙◌, subst, arith}
use Rattle.std.specs.Vec.{with_items}
use Rattle.std.proofs.lemmas.List.{with_items_is}
use Rattle.containers.specs.Objects.{Objects, IsWithoutAll}
use Rattle.containers.specs.Gaps.{IsVacated, IsClosed}
use Rattle.containers.specs.Slots.{IsKept}
use Rattle.containers.specs.Hints.{AreHints}
use Rattle.containers.specs.declared.object_arena.hints.Hint.{Hint}
use Rattle.containers.proofs.HintSteps.{hints_remove_all, count_as}
use Rattle.containers.proofs.GapSteps.{without_all, vacated_from}
use Rattle.containers.proofs.object_arena.arena.Arena.remove_some.Given as given
use Rattle.containers.proofs.object_arena.arena.Arena.remove_some.Goals as goal

-- what was emptied and closed up
record IsReady (g : given.Over) (c : goal.After-self-2-1 g) : Type 0 where
  pub vacated : IsVacated c.self.inside.ids.items c.self.inside.slots.items c.args.gone.now (length c.args.gone.now) c.self.inside.cells.items c.vacate-first.new.cells c.vacate-first.result
  pub cells : c.deref-3.result.now ≡ c.vacate-first.new.cells
  pub kept : IsKept c.close_gaps.new.ids.items c.close_gaps.new.slots.items c.close_gaps.new.spare.items c.vacate-first.new.cells
  pub closed : IsClosed c.self.inside.ids.items c.self.inside.slots.items c.close_gaps.new.ids.items c.close_gaps.new.slots.items c.vacate-first.new.cells

ready : (g : given.Over) (c : goal.After-self-2-1 g) → IsReady g c
ready g c =
    let long : length c.vacate-first.new.cells ≡ vec_len c.self.inside.cells = omega (arith, c.vacate-first.auto.cells, c.deref_mut.ensures.len) in
    let same = c.deref-3.ensures.value ∙ with_items_is c.self.inside.cells c.vacate-first.new.cells long in
    record {
      vacated = vacated_from c.self.inside.ids.items c.self.inside.slots.items c.deref.result.now c.deref-2.result.now c.args.gone.now (length c.args.gone.now) c.self.inside.cells.items c.deref_mut.result.now c.vacate-first.new.cells c.vacate-first.result c.deref.ensures.value c.deref-2.ensures.value c.deref_mut.ensures.value c.vacate-first.ensures.vacated;
      cells = same;
      kept = subst (λ (os : List (Option g.row.T.Denot)). IsKept c.close_gaps.new.ids.items c.close_gaps.new.slots.items c.close_gaps.new.spare.items os) same c.close_gaps.ensures.kept;
      closed = subst (λ (os : List (Option g.row.T.Denot)). IsClosed c.self.inside.ids.items c.self.inside.slots.items c.close_gaps.new.ids.items c.close_gaps.new.slots.items os) same c.close_gaps.ensures.closed;
    }

-- the objects before, and those that are left
abbrev before : (g : given.Over) (c : goal.After-self-2-1 g) → Objects g.row.T.Denot
before g c = record { ids = c.self.inside.ids.items; slots = c.self.inside.slots.items; cells = c.self.inside.cells.items }

abbrev after : (g : given.Over) (c : goal.After-self-2-1 g) → List (Option g.row.T.Denot) → Objects g.row.T.Denot
after g c os = record { ids = c.close_gaps.new.ids.items; slots = c.close_gaps.new.slots.items; cells = os }

left : (g : given.Over) (c : goal.After-self-2-1 g) → IsWithoutAll (before g c) (after g c c.vacate-first.new.cells) c.args.gone.now
left g c =
    let r = ready g c in
    without_all c.self.inside.ids.items c.self.inside.slots.items c.self.inside.spare.items c.args.gone.now c.self.inside.cells.items c.vacate-first.new.cells c.vacate-first.result c.self.invariant.0 r.vacated c.close_gaps.new.ids.items c.close_gaps.new.slots.items c.close_gaps.new.spare.items r.closed r.kept

pub invariant_of-self : goal.invariant_of-self
invariant_of-self g c =
    let r = ready g c in
    let rooms = c.self.invariant in
    let here = sym c.deref-3.ensures.value ∙ r.cells in
    let stood = subst (λ (hs : List Hint). AreHints c.self.inside.ids.items c.self.inside.slots.items hs) (sym c.deref_mut-2.ensures.value) rooms.4 in
    let stand = hints_remove_all (before g c) (after g c c.vacate-first.new.cells) c.args.gone.now c.deref_mut-2.result.now c.forget_all.new.hints (left g c) stood c.forget_all.ensures in
    let same = with_items_is c.self.inside.hints c.forget_all.new.hints (omega (arith, c.forget_all.ensures.count, c.deref_mut-2.ensures.len)) in
    let hints = subst (λ (hs : List Hint). AreHints c.close_gaps.new.ids.items c.close_gaps.new.slots.items hs) (sym same) stand in
    let P : List (Option g.row.T.Denot) → Type 0 = λ os. IsKept c.close_gaps.new.ids.items c.close_gaps.new.slots.items c.close_gaps.new.spare.items os
    × (length os ≤ vec_capacity c.close_gaps.new.ids)
    × (length os ≤ vec_capacity c.close_gaps.new.slots)
    × (length os ≤ vec_capacity c.close_gaps.new.spare) in
    let kept = subst P (sym here) (r.kept, omega (arith, r.vacated.pool, rooms.1, c.close_gaps.ensures.ids_room), omega (arith, r.vacated.pool, rooms.2, c.close_gaps.ensures.slots_room), omega (arith, r.vacated.pool, rooms.3, c.close_gaps.ensures.spare_room)) in
    let count = ap (λ (hs : List Hint). length hs) same ∙ c.forget_all.ensures.count ∙ ap (λ (hs : List Hint). length hs) c.deref_mut-2.ensures.value in
    let long = ap (λ (os : List (Option g.row.T.Denot)). length os) here ∙ r.vacated.pool in
    (kept.0, kept.1, kept.2, kept.3, hints, count_as _ _ _ _ rooms.5 count long)

pub returns-clause-removed : goal.returns-clause-removed
returns-clause-removed g c =
    let r = ready g c in
    let here = sym c.deref-3.ensures.value ∙ r.cells in
    let left_here = subst (λ (os : List (Option g.row.T.Denot)). IsWithoutAll (before g c) (after g c os) c.args.gone.now) (sym here) (left g c) in
    subst (λ (a : Objects g.row.T.Denot). IsWithoutAll a (after g c (with_items c.self.inside.cells c.vacate-first.new.cells).items) c.args.gone.now) c.self.view_is left_here
