use Rattle.std.proofs.Common.{◌≡◌, ◌<◌, ◌/◌, ◌+◌, ◌∙◌, ℕ, Option, List, ◌∷◌, Bool, true, cond, sym, ap, arith, drop}
use Rattle.std.proofs.lemmas.List.{at_drop_more}
use Rattle.kernel_rules.specs.State.{State}
use Rattle.kernel_rules.specs.Translate.{covers, translate, place_by, place_among}
use Rattle.kernel_rules.specs.declared.objects.Mapping.{Mapping}
use Rattle.kernel_rules.specs.declared.places.Place.{Place}
use Rattle.arena_state.specs.States.{state_of}
use Rattle.arena_state.proofs.states.ArenaState.place_among.Goals as goal

-- the first slot that covers the page decides
covered : (s : State) (t address i : ℕ) (m : Option Mapping) (ms : List (Option Mapping))
    → covers (address / 256) m ≡ true
    → place_by s address m (translate s t i) ≡ place_among s t address i (m ∷ ms)
covered s t address i m ms e =
    sym (ap (λ (v : Bool). cond v (place_by s address m (translate s t i)) (place_among s t address (i + 1) ms)) e)

pub returns-then-covers-clause-value : goal.returns-then-covers-clause-value
returns-then-covers-clause-value c =
    let s : State = state_of c.args.self.now in
    let slots : List (Option Mapping) = c.args.slots.now in
    let place : ℕ = c.loop-place.place in
    let m : Option Mapping = c.index-slots-place.result in
    let few : place < 16 = omega (arith, c.requires.few, c.loop-place-test.true) in
    let shown = c.shown-shown.ensures.value ∙ c.requires.rows.kept c.args.thread.id c.args.thread.slot.0 c.requires.thread place few in
    let left : List (Option Mapping) → Option Place = place_among s c.args.thread.id c.args.address place in
    let here = at_drop_more left slots place m c.loop-place-test.true in
    c.place_by.ensures.value
    ∙ ap (place_by s c.args.address m) shown
    ∙ covered s c.args.thread.id c.args.address place m (drop (place + 1) slots) (sym c.covers.ensures ∙ c.if-covers.true)
    ∙ ap (λ (x : Option Mapping). left (x ∷ drop (place + 1) slots)) c.index-slots-place.is
    ∙ sym here ∙ c.loop-place.invariant.left
