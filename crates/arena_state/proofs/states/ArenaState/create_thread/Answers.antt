use Rattle.std.proofs.Common.{[], refl, ap, arith, ◌∙◌}
use Rattle.kernel_rules.specs.Step.{new_thread}
use Rattle.kernel_rules.proofs.StoredLaws.{stored_test}
use Rattle.kernel_rules.specs.declared.objects.Body.TheVariants as is
use Rattle.label_intern.proofs.OwnersLemmas.{takes_as, takes_then}
use Rattle.arena_state.specs.declared.records.Record.{Record}
use Rattle.arena_state.specs.declared.records.Kept.TheVariants as keeps
use Rattle.arena_state.proofs.CreateLaws.{labels_fit, slot_room, link_room, below_next, enough}
use Rattle.arena_state.proofs.NewLaws.{new_sound, still}
use Rattle.arena_state.proofs.WholeCreateLaws.{segments_kept, created_stocked, created_whole}
use Rattle.arena_state.proofs.WholeLaws.{same_fitting}
use Rattle.arena_state.proofs.ShownLaws.{placed_slots}
use Rattle.arena_state.proofs.states.ArenaState.create_thread.Goals as goal

pub intern-label-requires : goal.intern-label-requires
intern-label-requires c =
    omega (
      arith,
      labels_fit c.args.self.now.pieces c.args.self.now.sound c.args.container.id c.args.quota c.args.label.now (new_thread c.args.start.now.clearance.now c.args.start.now.entry_point)
          (same_fitting c.args.self.now.pieces c.args.self.now.sound c.args.self.now.stocked c.args.container.id c.args.quota (new_thread c.args.start.now.clearance.now c.args.start.now.entry_point) c.requires.fitting) (stored_test c.args.label.now c.requires.label),
    )

pub intern-clearance-requires : goal.intern-clearance-requires
intern-clearance-requires c =
    omega (
      arith,
      c.intern-label.ensures.owners,
      c.intern-label.ensures.takes.pool,
      labels_fit c.args.self.now.pieces c.args.self.now.sound c.args.container.id c.args.quota c.args.label.now (new_thread c.args.start.now.clearance.now c.args.start.now.entry_point)
          (same_fitting c.args.self.now.pieces c.args.self.now.sound c.args.self.now.stocked c.args.container.id c.args.quota (new_thread c.args.start.now.clearance.now c.args.start.now.entry_point) c.requires.fitting) (stored_test c.args.label.now c.requires.label),
    )

pub intern-verify-requires : goal.intern-verify-requires
intern-verify-requires c =
    omega (
      arith,
      c.intern-label.ensures.owners,
      c.intern-label.ensures.takes.pool,
      c.intern-clearance.ensures.owners,
      c.intern-clearance.ensures.takes.pool,
      labels_fit c.args.self.now.pieces c.args.self.now.sound c.args.container.id c.args.quota c.args.label.now (new_thread c.args.start.now.clearance.now c.args.start.now.entry_point)
          (same_fitting c.args.self.now.pieces c.args.self.now.sound c.args.self.now.stocked c.args.container.id c.args.quota (new_thread c.args.start.now.clearance.now c.args.start.now.entry_point) c.requires.fitting) (stored_test c.args.label.now c.requires.label),
    )

pub place-requires-clause-rises : goal.place-requires-clause-rises
place-requires-clause-rises c =
    below_next c.args.self.now.pieces c.args.self.now.sound c.args.container.id c.args.quota c.args.label.now (new_thread c.args.start.now.clearance.now c.args.start.now.entry_point)
    (same_fitting c.args.self.now.pieces c.args.self.now.sound c.args.self.now.stocked c.args.container.id c.args.quota (new_thread c.args.start.now.clearance.now c.args.start.now.entry_point) c.requires.fitting) (stored_test c.args.label.now c.requires.label)

pub place-requires-clause-slots : goal.place-requires-clause-slots
place-requires-clause-slots c =
    slot_room c.args.self.now.pieces c.args.self.now.sound c.args.container.id c.args.quota c.args.label.now (new_thread c.args.start.now.clearance.now c.args.start.now.entry_point)
    (same_fitting c.args.self.now.pieces c.args.self.now.sound c.args.self.now.stocked c.args.container.id c.args.quota (new_thread c.args.start.now.clearance.now c.args.start.now.entry_point) c.requires.fitting) (stored_test c.args.label.now c.requires.label)

pub place-requires-clause-room : goal.place-requires-clause-room
place-requires-clause-room c =
    link_room c.args.self.now.pieces c.args.self.now.sound c.args.container.id c.args.quota c.args.label.now (new_thread c.args.start.now.clearance.now c.args.start.now.entry_point)
    (same_fitting c.args.self.now.pieces c.args.self.now.sound c.args.self.now.stocked c.args.container.id c.args.quota (new_thread c.args.start.now.clearance.now c.args.start.now.entry_point) c.requires.fitting) (stored_test c.args.label.now c.requires.label)

pub place-requires-clause-quota : goal.place-requires-clause-quota
place-requires-clause-quota c =
    omega (
      arith,
      ap (λ (r : Record). r.quota) c.fresh_record-given.ensures,
      enough c.args.self.now.pieces c.args.self.now.sound c.args.container.id c.args.quota c.args.label.now (new_thread c.args.start.now.clearance.now c.args.start.now.entry_point)
          (same_fitting c.args.self.now.pieces c.args.self.now.sound c.args.self.now.stocked c.args.container.id c.args.quota (new_thread c.args.start.now.clearance.now c.args.start.now.entry_point) c.requires.fitting) (stored_test c.args.label.now c.requires.label) c.in-Some.parent.0 c.in-Some.ensures.found.has,
    )

pub invariant_of-self : goal.invariant_of-self
invariant_of-self c = record {
  sound = new_sound c.args.self.now.pieces c.args.self.now.sound c.args.container.id c.args.quota c.args.label.now (new_thread c.args.start.now.clearance.now c.args.start.now.entry_point)
      (same_fitting c.args.self.now.pieces c.args.self.now.sound c.args.self.now.stocked c.args.container.id c.args.quota (new_thread c.args.start.now.clearance.now c.args.start.now.entry_point) c.requires.fitting) (stored_test c.args.label.now c.requires.label)
      c.in-Some.parent.0 c.in-Some.ensures.found.has c.intern-verify.new.self c.intern-label.result.0 (keeps.Thread c.kept_thread-thread.result)
      c.fresh_record-given.result c.fresh_record-given.ensures c.place.new.pieces c.place.ensures.placed
      (takes_as _ _ _ _ (λ i. rw c.kept_thread-thread.ensures (omega arith)) (takes_then _ _ _ _ _ (takes_then _ _ _ _ _ c.intern-label.ensures.takes c.intern-clearance.ensures.takes) c.intern-verify.ensures.takes)) (still _ _ _ _ _ _ c.intern-label.ensures.takes c.intern-label.ensures.given (takes_then _ _ _ _ _ c.intern-clearance.ensures.takes c.intern-verify.ensures.takes)) (rw c.kept_thread-thread.ensures (λ i. is.Thread (record {
        clearance = still _ _ _ _ _ _ c.intern-clearance.ensures.takes c.intern-clearance.ensures.given c.intern-verify.ensures.takes i;
        verify = (c.intern-verify.ensures.given ∙ c.uniform-top.ensures.value) i;
        space = record { container = 0; object = 0 };
        entry_point = c.args.start.now.entry_point;
        closure = 0;
      }))) (refl);
  stocked = created_stocked c.args.self.now.pieces c.args.self.now.sound c.args.container.id c.args.quota c.args.label.now (new_thread c.args.start.now.clearance.now c.args.start.now.entry_point)
      (same_fitting c.args.self.now.pieces c.args.self.now.sound c.args.self.now.stocked c.args.container.id c.args.quota (new_thread c.args.start.now.clearance.now c.args.start.now.entry_point) c.requires.fitting) (stored_test c.args.label.now c.requires.label)
      c.in-Some.parent.0 c.in-Some.ensures.found.has c.intern-verify.new.self c.intern-label.result.0 (keeps.Thread c.kept_thread-thread.result)
      c.fresh_record-given.result c.fresh_record-given.ensures c.place.new.pieces c.place.ensures.placed
      (takes_as _ _ _ _ (λ i. rw c.kept_thread-thread.ensures (omega arith)) (takes_then _ _ _ _ _ (takes_then _ _ _ _ _ c.intern-label.ensures.takes c.intern-clearance.ensures.takes) c.intern-verify.ensures.takes)) (still _ _ _ _ _ _ c.intern-label.ensures.takes c.intern-label.ensures.given (takes_then _ _ _ _ _ c.intern-clearance.ensures.takes c.intern-verify.ensures.takes)) (rw c.kept_thread-thread.ensures (λ i. is.Thread (record {
        clearance = still _ _ _ _ _ _ c.intern-clearance.ensures.takes c.intern-clearance.ensures.given c.intern-verify.ensures.takes i;
        verify = (c.intern-verify.ensures.given ∙ c.uniform-top.ensures.value) i;
        space = record { container = 0; object = 0 };
        entry_point = c.args.start.now.entry_point;
        closure = 0;
      }))) (refl) c.args.self.now.stocked
      c.place.new.pieces.holdings.segments [] (segments_kept c.args.self.now.pieces c.args.self.now.sound c.args.container.id c.args.quota c.args.label.now (new_thread c.args.start.now.clearance.now c.args.start.now.entry_point)
      (same_fitting c.args.self.now.pieces c.args.self.now.sound c.args.self.now.stocked c.args.container.id c.args.quota (new_thread c.args.start.now.clearance.now c.args.start.now.entry_point) c.requires.fitting) (stored_test c.args.label.now c.requires.label)
      c.in-Some.parent.0 c.in-Some.ensures.found.has c.intern-verify.new.self c.intern-label.result.0 (keeps.Thread c.kept_thread-thread.result)
      c.fresh_record-given.result c.fresh_record-given.ensures c.place.new.pieces c.place.ensures.placed
      (takes_as _ _ _ _ (λ i. rw c.kept_thread-thread.ensures (omega arith)) (takes_then _ _ _ _ _ (takes_then _ _ _ _ _ c.intern-label.ensures.takes c.intern-clearance.ensures.takes) c.intern-verify.ensures.takes)) (still _ _ _ _ _ _ c.intern-label.ensures.takes c.intern-label.ensures.given (takes_then _ _ _ _ _ c.intern-clearance.ensures.takes c.intern-verify.ensures.takes)) (rw c.kept_thread-thread.ensures (λ i. is.Thread (record {
        clearance = still _ _ _ _ _ _ c.intern-clearance.ensures.takes c.intern-clearance.ensures.given c.intern-verify.ensures.takes i;
        verify = (c.intern-verify.ensures.given ∙ c.uniform-top.ensures.value) i;
        space = record { container = 0; object = 0 };
        entry_point = c.args.start.now.entry_point;
        closure = 0;
      }))) (refl) c.args.self.now.stocked) refl;
}

pub returns-clause-state : goal.returns-clause-state
returns-clause-state c =
    created_whole c.args.self.now.pieces c.args.self.now.sound c.args.container.id c.args.quota c.args.label.now (new_thread c.args.start.now.clearance.now c.args.start.now.entry_point)
    (same_fitting c.args.self.now.pieces c.args.self.now.sound c.args.self.now.stocked c.args.container.id c.args.quota (new_thread c.args.start.now.clearance.now c.args.start.now.entry_point) c.requires.fitting) (stored_test c.args.label.now c.requires.label)
    c.in-Some.parent.0 c.in-Some.ensures.found.has c.intern-verify.new.self c.intern-label.result.0 (keeps.Thread c.kept_thread-thread.result)
    c.fresh_record-given.result c.fresh_record-given.ensures c.place.new.pieces c.place.ensures.placed
    (takes_as _ _ _ _ (λ i. rw c.kept_thread-thread.ensures (omega arith)) (takes_then _ _ _ _ _ (takes_then _ _ _ _ _ c.intern-label.ensures.takes c.intern-clearance.ensures.takes) c.intern-verify.ensures.takes)) (still _ _ _ _ _ _ c.intern-label.ensures.takes c.intern-label.ensures.given (takes_then _ _ _ _ _ c.intern-clearance.ensures.takes c.intern-verify.ensures.takes)) (rw c.kept_thread-thread.ensures (λ i. is.Thread (record {
      clearance = still _ _ _ _ _ _ c.intern-clearance.ensures.takes c.intern-clearance.ensures.given c.intern-verify.ensures.takes i;
      verify = (c.intern-verify.ensures.given ∙ c.uniform-top.ensures.value) i;
      space = record { container = 0; object = 0 };
      entry_point = c.args.start.now.entry_point;
      closure = 0;
    }))) (refl) c.args.self.now.stocked
    c.place.new.pieces.holdings.segments [] (segments_kept c.args.self.now.pieces c.args.self.now.sound c.args.container.id c.args.quota c.args.label.now (new_thread c.args.start.now.clearance.now c.args.start.now.entry_point)
    (same_fitting c.args.self.now.pieces c.args.self.now.sound c.args.self.now.stocked c.args.container.id c.args.quota (new_thread c.args.start.now.clearance.now c.args.start.now.entry_point) c.requires.fitting) (stored_test c.args.label.now c.requires.label)
    c.in-Some.parent.0 c.in-Some.ensures.found.has c.intern-verify.new.self c.intern-label.result.0 (keeps.Thread c.kept_thread-thread.result)
    c.fresh_record-given.result c.fresh_record-given.ensures c.place.new.pieces c.place.ensures.placed
    (takes_as _ _ _ _ (λ i. rw c.kept_thread-thread.ensures (omega arith)) (takes_then _ _ _ _ _ (takes_then _ _ _ _ _ c.intern-label.ensures.takes c.intern-clearance.ensures.takes) c.intern-verify.ensures.takes)) (still _ _ _ _ _ _ c.intern-label.ensures.takes c.intern-label.ensures.given (takes_then _ _ _ _ _ c.intern-clearance.ensures.takes c.intern-verify.ensures.takes)) (rw c.kept_thread-thread.ensures (λ i. is.Thread (record {
      clearance = still _ _ _ _ _ _ c.intern-clearance.ensures.takes c.intern-clearance.ensures.given c.intern-verify.ensures.takes i;
      verify = (c.intern-verify.ensures.given ∙ c.uniform-top.ensures.value) i;
      space = record { container = 0; object = 0 };
      entry_point = c.args.start.now.entry_point;
      closure = 0;
    }))) (refl) c.args.self.now.stocked) refl

pub returns-clause-slots : goal.returns-clause-slots
returns-clause-slots c = placed_slots _ _ _ _ _ c.place.ensures.placed
