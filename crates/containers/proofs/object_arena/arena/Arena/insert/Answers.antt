use Rattle.std.proofs.Common.{◌≡◌, ◌≢◌, ◌<◌, ◌++◌, ◌∷◌, [], ℕ, List, length, set, Some, None, vec_len, ap, sym, ◌∙◌, subst, arith, length-set}
use Rattle.std.specs.Prelude.{All}
use Rattle.std.proofs.lemmas.List.{with_items_is}
use Rattle.containers.specs.Objects.{Objects, object_at}
use Rattle.containers.specs.Hints.{AreHints}
use Rattle.containers.specs.declared.object_arena.hints.Hint.{Hint}
use Rattle.containers.proofs.HintSteps.{hints_insert, hints_as, count_as}
use Rattle.containers.proofs.Kept.{kept_insert, popped_is, kept_as, slots_apart_from}
use Rattle.containers.proofs.object_arena.arena.Arena.insert.Goals as goal

pub invariant_of-self : goal.invariant_of-self
invariant_of-self g c =
    let kept = c.self.invariant.0 in
    let rooms = c.self.invariant in
    let long = length-set c.self.inside.cells.items c.in-Some.slot (Some c.args.value) in
    let below = subst (λ (a : Objects g.row.T.Denot). All (λ x. x < c.args.id) a.ids) (sym c.self.view_is) c.requires.rises in
    let lay = kept_insert _ _ _ _ _ c.args.id c.in-Some.slot c.args.value kept c.in-Some.ensures.items below in
    let ids = c.self.inside.ids.items in
    let slots = c.self.inside.slots.items in
    let hint : Hint = record { id = c.number-id.result; slot = c.in-Some.slot } in
    let stood = subst (λ (hs : List Hint). AreHints ids slots hs) (sym c.deref_mut.ensures.value) rooms.4 in
    let stand = hints_as _ _ _ _ c.keep.new.hints (hints_insert ids slots c.deref_mut.result.now c.keep.new.hints hint kept.beside stood c.keep.ensures)
    (c.push_reserved.ensures.items ∙ ap (λ (n : ℕ). ids ++ n ∷ []) (c.number.ensures ∙ sym c.number-id.ensures)) c.push_reserved-in-Some.ensures.items in
    let count : length c.keep.new.hints ≡ vec_len c.self.inside.hints = omega (arith, c.keep.ensures.count, c.deref_mut.ensures.len) in
    let same = with_items_is c.self.inside.hints c.keep.new.hints count in
    let hints = subst (λ (hs : List Hint). AreHints c.push_reserved.new.self.items c.push_reserved-in-Some.new.self.items hs) (sym same) stand in
    (kept_as _ _ _ _ _ _ _ _ lay (c.push_reserved.ensures.items ∙ ap (λ (n : ℕ). c.self.inside.ids.items ++ n ∷ []) c.number.ensures) c.push_reserved-in-Some.ensures.items (λ i. c.pop.new.self.items) (λ i. set c.self.inside.cells.items c.in-Some.slot (Some c.args.value)), omega (arith, long, rooms.1, c.push_reserved.ensures.capacity), omega (arith, long, rooms.2, c.push_reserved-in-Some.ensures.capacity), omega (arith, long, rooms.3, c.in-Some.ensures.capacity), hints, count_as _ _ _ _ rooms.5 (ap (λ (hs : List Hint). length hs) same ∙ c.keep.ensures.count ∙ ap (λ (hs : List Hint). length hs) c.deref_mut.ensures.value) long)

pub returns-clause-within : goal.returns-clause-within
returns-clause-within g c =
    let kept = c.self.invariant.0 in
    let size = ap (λ (a : Objects g.row.T.Denot). length a.cells) c.self.view_is in
    let at = popped_is _ _ _ _ _ _ kept c.in-Some.ensures.items in
    omega (arith, at.0, size)

pub returns-clause-vacant : goal.returns-clause-vacant
returns-clause-vacant g c =
    let kept = c.self.invariant.0 in
    let at = popped_is _ _ _ _ _ _ kept c.in-Some.ensures.items in
    subst (λ (a : Objects g.row.T.Denot). object_at a c.in-Some.slot ≡ None) c.self.view_is at.1

pub returns-clause-apart : goal.returns-clause-apart
returns-clause-apart g c =
    let kept = c.self.invariant.0 in
    let at = popped_is _ _ _ _ _ _ kept c.in-Some.ensures.items in
    subst (λ (a : Objects g.row.T.Denot). All (λ slot. slot ≢ c.in-Some.slot) a.slots) c.self.view_is (slots_apart_from _ _ _ _ _ kept at.1)
