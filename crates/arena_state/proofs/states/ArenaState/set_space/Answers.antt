use Rattle.std.proofs.Common.{◌≡◌, sym, subst}
use Rattle.kernel_rules.specs.Changes.{changed, spaced}
use Rattle.arena_state.specs.Sound.{IsSound}
use Rattle.arena_state.specs.Stocked.{IsStocked, whole_state}
use Rattle.arena_state.specs.Assembled.{with_space}
use Rattle.arena_state.proofs.SoundLaws.{with_record}
use Rattle.arena_state.specs.declared.records.Record.{Record}
use Rattle.kernel_rules.proofs.ThreadLaws.{spaced_keeps}
use Rattle.arena_state.proofs.EditLaws.{edited_sound, spaced_shape, spaced_claims, spaced_use}
use Rattle.arena_state.proofs.WholeEditLaws.{edited_stocked, edited_whole, respaced_pages, respaced_space, spaced_apart}
use Rattle.arena_state.proofs.states.ArenaState.set_space.Goals as goal

pub invariant_of-self : goal.invariant_of-self
invariant_of-self c = record {
  sound = subst (λ (r : Record). IsSound (with_record c.args.self.now.pieces c.in-Some.slot.0 r)) (sym c.respace.ensures)
      (edited_sound c.args.self.now.pieces c.args.self.now.sound c.args.thread.id c.in-Some.slot.0 c.in-Some.ensures.found.has
      (with_space c.args.space) (spaced c.args.space) (spaced_shape c.args.space c.args.self.now.pieces.holdings.labels) (spaced_keeps c.args.space) (spaced_claims c.args.space) (spaced_use c.args.space) c.index_mut.result.now c.index_mut.ensures.value);
  stocked = subst (λ (r : Record). IsStocked (with_record c.args.self.now.pieces c.in-Some.slot.0 r)) (sym c.respace.ensures)
      (edited_stocked c.args.self.now.pieces c.args.self.now.sound c.args.thread.id c.in-Some.slot.0 c.in-Some.ensures.found.has c.args.self.now.stocked
      (with_space c.args.space) (spaced c.args.space) (spaced_shape c.args.space c.args.self.now.pieces.holdings.labels) (spaced_keeps c.args.space) (spaced_claims c.args.space) (spaced_use c.args.space)
      (λ r. respaced_pages c.args.space r.body) (λ r. respaced_space c.args.space r.body) (spaced_apart c.args.space) c.index_mut.result.now c.index_mut.ensures.value);
}

pub returns-in-Some-clause-state : goal.returns-in-Some-clause-state
returns-in-Some-clause-state c =
    subst (λ (r : Record). whole_state (with_record c.args.self.now.pieces c.in-Some.slot.0 r) ≡ changed (whole_state c.args.self.now.pieces) c.args.thread.id (spaced c.args.space)) (sym c.respace.ensures)
    (edited_whole c.args.self.now.pieces c.args.self.now.sound c.args.thread.id c.in-Some.slot.0 c.in-Some.ensures.found.has c.args.self.now.stocked
    (with_space c.args.space) (spaced c.args.space) (spaced_shape c.args.space c.args.self.now.pieces.holdings.labels) (spaced_keeps c.args.space) (spaced_claims c.args.space) (spaced_use c.args.space)
    (λ r. respaced_pages c.args.space r.body) (λ r. respaced_space c.args.space r.body) (spaced_apart c.args.space) c.index_mut.result.now c.index_mut.ensures.value)
