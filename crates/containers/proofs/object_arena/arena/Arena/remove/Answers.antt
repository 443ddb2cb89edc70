use Rattle.std.proofs.Common.{◌≡◌, ◌+◌, ◌<◌, ◌≤◌, ℕ, List, [], ◌∷◌, length, get_or, set, Option, None, ap, sym, ◌∙◌, subst, arith, length-set}
use Rattle.std.specs.Prelude.{remove}
use Rattle.base.specs.Counts.{ProbesAtMost}
use Rattle.containers.specs.Objects.{Objects, object_at, IsEntry, without, binary_digits}
use Rattle.containers.proofs.SearchSteps.{one_more, probes_within, digits_fewer}
use Rattle.containers.specs.Hints.{AreHints, IsForgotten}
use Rattle.containers.specs.declared.object_arena.hints.Hint.{Hint}
use Rattle.containers.proofs.HintSteps.{hints_remove, hints_as, count_as}
use Rattle.containers.proofs.Kept.{kept_remove, kept_as, one_place}
use Rattle.std.proofs.lemmas.List.{get_or_read, with_items_is}
use Rattle.containers.proofs.object_arena.arena.Arena.remove.Goals as goal

pub returns-clause-cost : goal.returns-clause-cost
returns-clause-cost g c =
    let kept = c.self.invariant.0 in
    let fewer : length c.self.inside.ids.items ≤ length c.self.inside.cells.items = omega (arith, kept.beside, kept.total) in
    let searched = subst (λ (xs : List ℕ). ProbesAtMost (binary_digits (length xs)) c.args.meter.now c.place_of.new.meter) c.deref.ensures.value c.place_of.ensures.cost in
    let within = probes_within c.args.meter.now c.place_of.new.meter _ _ (digits_fewer (length c.self.inside.ids.items) (length c.self.inside.cells.items) fewer) searched in
    subst (λ (a : Objects g.row.T.Denot). ProbesAtMost (binary_digits (length a.cells) + 1) c.args.meter.now c.probe.new.self) c.self.view_is
    (one_more _ _ _ _ within c.probe.ensures)

pub invariant_of-self : goal.invariant_of-self
invariant_of-self g c =
    let kept = c.self.invariant.0 in
    let rooms = c.self.invariant in
    let ids = c.self.inside.ids.items in
    let slots = c.self.inside.slots.items in
    let within : c.in-Some.place < length ids = omega (arith, c.in-Some.ensures.found.0, ap length c.deref.ensures.value) in
    let inside : c.in-Some.place < length slots = omega (arith, kept.beside) in
    let is = get_or_read slots c.in-Some.place c.remove-slot.result inside c.remove-slot.ensures.value 0 in
    let lay = kept_remove ids slots _ _ c.in-Some.place c.remove-slot.result kept within is in
    let long = length-set c.self.inside.cells.items c.remove-slot.result None in
    let cells = ap (λ (o : Option g.row.T.Denot). set c.self.inside.cells.items c.remove-slot.result o) c.take.ensures.after in
    let same = ap (λ (os : List (Option g.row.T.Denot)). length os) cells in
    let here : get_or ids c.in-Some.place 0 ≡ c.args.id = ap (λ (xs : List ℕ). get_or xs c.in-Some.place 0) (sym c.deref.ensures.value) ∙ c.in-Some.ensures.found.1 ∙ c.number.ensures in
    let stood = subst (λ (hs : List Hint). AreHints ids slots hs) (sym c.deref_mut.ensures.value) rooms.4 in
    let forgot = subst (λ (id : ℕ). IsForgotten c.deref_mut.result.now c.forget.new.hints (id ∷ []) 1) (c.number-in-Some.ensures ∙ sym here) c.forget.ensures in
    let stand = hints_as _ _ _ _ c.forget.new.hints (hints_remove ids slots c.deref_mut.result.now c.forget.new.hints c.in-Some.place kept.beside within stood forgot)
    c.remove-id.ensures.items c.remove-slot.ensures.items in
    let count : length c.forget.new.hints ≡ length c.self.inside.hints.items = c.forget.ensures.count ∙ ap (λ (hs : List Hint). length hs) c.deref_mut.ensures.value in
    let unwritten = with_items_is c.self.inside.hints c.forget.new.hints (omega (arith, c.forget.ensures.count, c.deref_mut.ensures.len)) in
    let hints = subst (λ (hs : List Hint). AreHints c.remove-id.new.self.items c.remove-slot.new.self.items hs) (sym unwritten) stand in
    (kept_as _ _ _ _ _ _ _ _ lay c.remove-id.ensures.items c.remove-slot.ensures.items c.push_reserved.ensures.items cells, omega (arith, same, long, rooms.1, c.remove-id.ensures.capacity), omega (arith, same, long, rooms.2, c.remove-slot.ensures.capacity), omega (arith, same, long, rooms.3, c.push_reserved.ensures.capacity), hints, count_as _ _ _ _ rooms.5 (ap (λ (hs : List Hint). length hs) unwritten ∙ count) (same ∙ long))

pub returns-clause-value : goal.returns-clause-value
returns-clause-value g c = λ place slot e.
    let kept = c.self.invariant.0 in
    let ids = c.self.inside.ids.items in
    let slots = c.self.inside.slots.items in
    let entry = subst (λ (a : Objects g.row.T.Denot). IsEntry a place c.args.id slot) (sym c.self.view_is) e in
    let within : c.in-Some.place < length ids = omega (arith, c.in-Some.ensures.found.0, ap length c.deref.ensures.value) in
    let inside : c.in-Some.place < length slots = omega (arith, kept.beside) in
    let here : get_or ids c.in-Some.place 0 ≡ c.args.id = ap (λ (xs : List ℕ). get_or xs c.in-Some.place 0) (sym c.deref.ensures.value) ∙ c.in-Some.ensures.found.1 ∙ c.number.ensures in
    let same : c.in-Some.place ≡ place = one_place ids c.in-Some.place place kept.rising within entry.within (here ∙ sym entry.id_is) in
    let is = get_or_read slots c.in-Some.place c.remove-slot.result inside c.remove-slot.ensures.value 0 in
    let slot_same : c.remove-slot.result ≡ slot = is ∙ ap (λ (k : ℕ). get_or slots k 0) same ∙ entry.slot_is in
    let cells = c.self.inside.cells.items in
    let used = kept.used c.in-Some.place inside in
    let read = get_or_read cells c.remove-slot.result c.index_mut.result.now (omega (arith, used.0, is)) c.index_mut.ensures.value None in
    ap (λ (a : Objects g.row.T.Denot). object_at a slot) (sym c.self.view_is) ∙ ap (λ (k : ℕ). get_or cells k None) (sym slot_same) ∙ sym read ∙ sym c.in-Some-take.ensures.value

pub returns-clause-removed : goal.returns-clause-removed
returns-clause-removed g c = λ place slot e.
    let kept = c.self.invariant.0 in
    let ids = c.self.inside.ids.items in
    let slots = c.self.inside.slots.items in
    let entry = subst (λ (a : Objects g.row.T.Denot). IsEntry a place c.args.id slot) (sym c.self.view_is) e in
    let within : c.in-Some.place < length ids = omega (arith, c.in-Some.ensures.found.0, ap length c.deref.ensures.value) in
    let inside : c.in-Some.place < length slots = omega (arith, kept.beside) in
    let here : get_or ids c.in-Some.place 0 ≡ c.args.id = ap (λ (xs : List ℕ). get_or xs c.in-Some.place 0) (sym c.deref.ensures.value) ∙ c.in-Some.ensures.found.1 ∙ c.number.ensures in
    let same : c.in-Some.place ≡ place = one_place ids c.in-Some.place place kept.rising within entry.within (here ∙ sym entry.id_is) in
    let is = get_or_read slots c.in-Some.place c.remove-slot.result inside c.remove-slot.ensures.value 0 in
    let slot_same : c.remove-slot.result ≡ slot = is ∙ ap (λ (k : ℕ). get_or slots k 0) same ∙ entry.slot_is in
    let cells = c.self.inside.cells.items in
    let left = c.remove-id.ensures.items ∙ ap (λ (k : ℕ). remove ids k) same in
    let left_slots = c.remove-slot.ensures.items ∙ ap (λ (k : ℕ). remove slots k) same in
    let left_cells = ap (λ (o : Option g.row.T.Denot). set cells c.remove-slot.result o) c.take.ensures.after ∙ ap (λ (k : ℕ). set cells k None) slot_same in
    let make : List ℕ → List ℕ → List (Option g.row.T.Denot) → Objects g.row.T.Denot = λ a b os. record { ids = a; slots = b; cells = os } in
    let changed = ap (λ (os : List (Option g.row.T.Denot)). make c.remove-id.new.self.items c.remove-slot.new.self.items os) left_cells
    ∙ ap (λ (xs : List ℕ). make c.remove-id.new.self.items xs (set cells slot None)) left_slots
    ∙ ap (λ (xs : List ℕ). make xs (remove slots place) (set cells slot None)) left in
    changed ∙ ap (λ (a : Objects g.row.T.Denot). without a place slot) c.self.view_is
