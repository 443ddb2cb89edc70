use Rattle.std.proofs.Common.{sym, ◌∙◌, ap, set}
use Rattle.std.proofs.lemmas.List.{length-set}
use Rattle.arena_state.specs.Stocked.{keeps_space}
use Rattle.arena_state.proofs.EditLaws.{read_is}
use Rattle.arena_state.proofs.RefillLaws.{spaces_sound, reslotted, reslotted_stocked, unslotted}
use Rattle.arena_state.proofs.states.ArenaState.set_slot.Goals as goal

pub invariant_of-self : goal.invariant_of-self
invariant_of-self c =
    let a = c.args.self.now in
    let has = c.in-Some.ensures.found.has in
    let read = read_is a.pieces a.sound c.args.space.id c.in-Some.slot.0 has c.index.result.now c.index.ensures in
    let space = sym (ap (λ r. keeps_space r.body) read) ∙ sym c.if-is_space.ensures in
    record {
      sound = spaces_sound a.pieces c.fill.new.spaces a.sound;
      stocked = reslotted_stocked a.pieces a.sound c.args.space.id c.in-Some.slot.0 has (λ slots. set slots c.args.place c.args.mapping) a.stocked
          c.fill.new.spaces c.fill.ensures (length-set _ c.args.place c.args.mapping) space;
    }

pub returns-then-is_space-clause-state : goal.returns-then-is_space-clause-state
returns-then-is_space-clause-state c =
    let a = c.args.self.now in
    let has = c.in-Some.ensures.found.has in
    let read = read_is a.pieces a.sound c.args.space.id c.in-Some.slot.0 has c.index.result.now c.index.ensures in
    let space = sym (ap (λ r. keeps_space r.body) read) ∙ sym c.if-is_space.ensures in
    reslotted a.pieces a.sound c.args.space.id c.in-Some.slot.0 has (λ slots. set slots c.args.place c.args.mapping) a.stocked
    c.fill.new.spaces c.fill.ensures (length-set _ c.args.place c.args.mapping) space

pub returns-else-is_space-clause-state : goal.returns-else-is_space-clause-state
returns-else-is_space-clause-state c =
    let a = c.args.self.now in
    let has = c.in-Some.ensures.found.has in
    let read = read_is a.pieces a.sound c.args.space.id c.in-Some.slot.0 has c.index.result.now c.index.ensures in
    unslotted a.pieces a.sound c.args.space.id c.in-Some.slot.0 has (λ slots. set slots c.args.place c.args.mapping)
    (sym (ap (λ r. keeps_space r.body) read) ∙ sym c.if-is_space.ensures)
