use Rattle.std.proofs.Common.{◌≡◌, ℕ, ◌<◌, option_map, List, Option, None, Some, sym, ◌∙◌, ap, subst, arith, length, replicate}
use Rattle.containers.specs.Tree.{HasSlot}
use Rattle.arena_memory.specs.Rows.{BySlot, Shows, slot_count, thread_at, with_row}
use Rattle.arena_state.specs.Shown.{IsRow, Tells, thread_named}
use Rattle.arena_state.specs.States.{state_of}
use Rattle.arena_state.specs.declared.states.ArenaState.{ArenaState}
use Rattle.kernel_rules.specs.declared.calls.Entry.{Entry}
use Rattle.arena_state.proofs.ShownLaws.{blank_row, named_own, one_slot, set_tells, slot_in_pool, slot_is_there}
use Rattle.arena_state.proofs.states.ArenaState.remake_row.Goals as goal

-- the slot of an object that is set tells of the object
tells_once_set : (a : ArenaState) (id slot other : ℕ) (old new : BySlot) (thread : Option ℕ) (row : List Shows)
    → HasSlot a.pieces.places id slot → HasSlot a.pieces.places id other → slot_count old ≡ (state_of a).limits.pages
    → new ≡ with_row old slot thread row → thread_at new slot ≡ thread → thread ≡ thread_named (state_of a) id
    → IsRow (state_of a) id row → Tells (state_of a) id new other
tells_once_set a id slot other old new thread row has h size is named_new named shows =
    let within : slot < length a.pieces.places.cells = slot_in_pool a.pieces a.sound id slot has in
    subst (λ (rows : BySlot). Tells (state_of a) id rows other) (sym is)
    (set_tells (state_of a) id slot other old thread row (one_slot a.pieces a.sound id slot other has h)
    (omega (arith, within, size, a.sound.cells)) (ap (λ (rows : BySlot). thread_at rows slot) (sym is) ∙ named_new) named shows)

pub returns-in-Some-named_space_in-clause-row : goal.returns-in-Some-named_space_in-clause-row
returns-in-Some-named_space_in-clause-row c = λ slot h.
    tells_once_set c.args.self.now c.args.thread c.in-Some.slot.0 slot c.args.rows.now c.show.new.rows (Some c.args.thread) c.show.ensures.shown.0
    c.in-Some.ensures.found.has h c.requires c.show.ensures.shown.2 c.show.ensures.named
    (ap (option_map (λ (e : Entry). c.args.thread)) c.in-Some-named_space_in.ensures) c.show.ensures.shown.1

pub returns-in-None-named_space_in-clause-row : goal.returns-in-None-named_space_in-clause-row
returns-in-None-named_space_in-clause-row c = λ slot h.
    tells_once_set c.args.self.now c.args.thread c.in-Some.slot.0 slot c.args.rows.now c.clear.new.self None (replicate 16 None)
    c.in-Some.ensures.found.has h c.requires c.clear.ensures.all c.clear.ensures.named
    (ap (option_map (λ (e : Entry). c.args.thread)) c.in-None-named_space_in.ensures)
    (blank_row (state_of c.args.self.now) c.args.thread c.in-None-named_space_in.ensures)

pub returns-in-None-clause-row : goal.returns-in-None-clause-row
returns-in-None-clause-row c = λ slot h.
    absurd (slot_is_there c.args.self.now c.args.thread slot c.in-None.ensures.none h)

pub show-requires-clause-space : goal.show-requires-clause-space
show-requires-clause-space c = named_own c.in-Some-named_space_in.space _ c.in-Some-named_space_in.ensures
