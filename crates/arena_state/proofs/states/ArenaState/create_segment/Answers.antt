use Rattle.std.proofs.Common.{refl, ap, arith, ◌*◌, replicate}
use Rattle.arena_state.proofs.RecordLaws.{segment_cost}
use Rattle.kernel_rules.proofs.StoredLaws.{stored_test}
use Rattle.kernel_rules.specs.declared.objects.Body.TheVariants as is
use Rattle.label_intern.proofs.OwnersLemmas.{takes_as}
use Rattle.arena_state.specs.declared.records.Record.{Record}
use Rattle.arena_state.specs.declared.records.Kept.TheVariants as keeps
use Rattle.arena_state.proofs.CreateLaws.{labels_fit, slot_room, link_room, below_next, enough}
use Rattle.std.proofs.lemmas.List.{length-replicate}
use Rattle.arena_state.proofs.WholeCreateLaws.{bytes_vacant, created_stocked, created_whole, stocked_sound, resized_new}
use Rattle.arena_state.proofs.WholeLaws.{same_fitting}
use Rattle.arena_state.proofs.PageRoomLaws.{new_room}
use Rattle.arena_state.proofs.ShownLaws.{placed_slots}
use Rattle.arena_state.proofs.states.ArenaState.create_segment.Goals as goal

pub intern-label-requires : goal.intern-label-requires
intern-label-requires c =
    omega (
      arith,
      labels_fit c.args.self.now.pieces c.args.self.now.sound c.args.container.id c.args.quota c.args.label.now (is.Segment (replicate (256 * c.args.pages) 0))
          (same_fitting c.args.self.now.pieces c.args.self.now.sound c.args.self.now.stocked c.args.container.id c.args.quota (is.Segment (replicate (256 * c.args.pages) 0)) c.requires.fitting) (stored_test c.args.label.now c.requires.label),
    )

pub place-made-requires-clause-rises : goal.place-made-requires-clause-rises
place-made-requires-clause-rises c =
    below_next c.args.self.now.pieces c.args.self.now.sound c.args.container.id c.args.quota c.args.label.now (is.Segment (replicate (256 * c.args.pages) 0))
    (same_fitting c.args.self.now.pieces c.args.self.now.sound c.args.self.now.stocked c.args.container.id c.args.quota (is.Segment (replicate (256 * c.args.pages) 0)) c.requires.fitting) (stored_test c.args.label.now c.requires.label)

pub place-made-requires-clause-slots : goal.place-made-requires-clause-slots
place-made-requires-clause-slots c =
    slot_room c.args.self.now.pieces c.args.self.now.sound c.args.container.id c.args.quota c.args.label.now (is.Segment (replicate (256 * c.args.pages) 0))
    (same_fitting c.args.self.now.pieces c.args.self.now.sound c.args.self.now.stocked c.args.container.id c.args.quota (is.Segment (replicate (256 * c.args.pages) 0)) c.requires.fitting) (stored_test c.args.label.now c.requires.label)

pub place-made-requires-clause-room : goal.place-made-requires-clause-room
place-made-requires-clause-room c =
    link_room c.args.self.now.pieces c.args.self.now.sound c.args.container.id c.args.quota c.args.label.now (is.Segment (replicate (256 * c.args.pages) 0))
    (same_fitting c.args.self.now.pieces c.args.self.now.sound c.args.self.now.stocked c.args.container.id c.args.quota (is.Segment (replicate (256 * c.args.pages) 0)) c.requires.fitting) (stored_test c.args.label.now c.requires.label)

pub place-made-requires-clause-quota : goal.place-made-requires-clause-quota
place-made-requires-clause-quota c =
    omega (
      arith,
      ap (λ (r : Record). r.quota) c.fresh_record-given.ensures,
      enough c.args.self.now.pieces c.args.self.now.sound c.args.container.id c.args.quota c.args.label.now (is.Segment (replicate (256 * c.args.pages) 0))
          (same_fitting c.args.self.now.pieces c.args.self.now.sound c.args.self.now.stocked c.args.container.id c.args.quota (is.Segment (replicate (256 * c.args.pages) 0)) c.requires.fitting) (stored_test c.args.label.now c.requires.label) c.in-Some.parent.0 c.in-Some.ensures.found.has,
    )

pub resize-requires-clause-room : goal.resize-requires-clause-room
resize-requires-clause-room c =
    let room = new_room c.args.self.now.pieces c.args.self.now.sound c.args.container.id c.args.quota c.args.label.now (is.Segment (replicate (256 * c.args.pages) 0))
    (same_fitting c.args.self.now.pieces c.args.self.now.sound c.args.self.now.stocked c.args.container.id c.args.quota (is.Segment (replicate (256 * c.args.pages) 0)) c.requires.fitting) (stored_test c.args.label.now c.requires.label)
    c.in-Some.parent.0 c.in-Some.ensures.found.has c.intern-label.new.self c.intern-label.result.0 (keeps.Segment c.args.pages)
    c.fresh_record-given.result c.fresh_record-given.ensures c.place-made.new.pieces c.place-made.ensures.placed
    (takes_as _ _ _ _ (λ i. omega arith) c.intern-label.ensures.takes) (c.intern-label.ensures.given) (refl) (segment_cost c.args.pages) c.args.self.now.stocked in
    omega (arith, room)

pub invariant_of-self : goal.invariant_of-self
invariant_of-self c = record {
  sound = stocked_sound c.args.self.now.pieces c.args.self.now.sound c.args.container.id c.args.quota c.args.label.now (is.Segment (replicate (256 * c.args.pages) 0))
      (same_fitting c.args.self.now.pieces c.args.self.now.sound c.args.self.now.stocked c.args.container.id c.args.quota (is.Segment (replicate (256 * c.args.pages) 0)) c.requires.fitting) (stored_test c.args.label.now c.requires.label)
      c.in-Some.parent.0 c.in-Some.ensures.found.has c.intern-label.new.self c.intern-label.result.0 (keeps.Segment c.args.pages)
      c.fresh_record-given.result c.fresh_record-given.ensures c.place-made.new.pieces c.place-made.ensures.placed
      (takes_as _ _ _ _ (λ i. omega arith) c.intern-label.ensures.takes) (c.intern-label.ensures.given) (refl) (segment_cost c.args.pages) c.args.self.now.stocked
      c.resize.new.self (replicate (256 * c.args.pages) 0)
      (resized_new c.args.self.now.pieces.places.slots c.place-made.result.slot.0 c.place-made.ensures.placed.slot c.place-made.new.pieces.places.slots
      c.place-made.ensures.slot c.place-made.ensures.placed.slots c.args.self.now.pieces.holdings.segments c.place-made.new.pieces.holdings.segments
      c.place-made.ensures.placed.segments c.args.pages c.resize.new.self c.resize.ensures.after
      (bytes_vacant c.args.self.now.pieces c.args.self.now.sound c.args.container.id c.args.quota c.args.label.now (is.Segment (replicate (256 * c.args.pages) 0))
      (same_fitting c.args.self.now.pieces c.args.self.now.sound c.args.self.now.stocked c.args.container.id c.args.quota (is.Segment (replicate (256 * c.args.pages) 0)) c.requires.fitting) (stored_test c.args.label.now c.requires.label)
      c.in-Some.parent.0 c.in-Some.ensures.found.has c.intern-label.new.self c.intern-label.result.0 (keeps.Segment c.args.pages)
      c.fresh_record-given.result c.fresh_record-given.ensures c.place-made.new.pieces c.place-made.ensures.placed
      (takes_as _ _ _ _ (λ i. omega arith) c.intern-label.ensures.takes) (c.intern-label.ensures.given) (refl) (segment_cost c.args.pages) c.args.self.now.stocked))
      (length-replicate (256 * c.args.pages) 0);
  stocked = created_stocked c.args.self.now.pieces c.args.self.now.sound c.args.container.id c.args.quota c.args.label.now (is.Segment (replicate (256 * c.args.pages) 0))
      (same_fitting c.args.self.now.pieces c.args.self.now.sound c.args.self.now.stocked c.args.container.id c.args.quota (is.Segment (replicate (256 * c.args.pages) 0)) c.requires.fitting) (stored_test c.args.label.now c.requires.label)
      c.in-Some.parent.0 c.in-Some.ensures.found.has c.intern-label.new.self c.intern-label.result.0 (keeps.Segment c.args.pages)
      c.fresh_record-given.result c.fresh_record-given.ensures c.place-made.new.pieces c.place-made.ensures.placed
      (takes_as _ _ _ _ (λ i. omega arith) c.intern-label.ensures.takes) (c.intern-label.ensures.given) (refl) (segment_cost c.args.pages) c.args.self.now.stocked
      c.resize.new.self (replicate (256 * c.args.pages) 0)
      (resized_new c.args.self.now.pieces.places.slots c.place-made.result.slot.0 c.place-made.ensures.placed.slot c.place-made.new.pieces.places.slots
      c.place-made.ensures.slot c.place-made.ensures.placed.slots c.args.self.now.pieces.holdings.segments c.place-made.new.pieces.holdings.segments
      c.place-made.ensures.placed.segments c.args.pages c.resize.new.self c.resize.ensures.after
      (bytes_vacant c.args.self.now.pieces c.args.self.now.sound c.args.container.id c.args.quota c.args.label.now (is.Segment (replicate (256 * c.args.pages) 0))
      (same_fitting c.args.self.now.pieces c.args.self.now.sound c.args.self.now.stocked c.args.container.id c.args.quota (is.Segment (replicate (256 * c.args.pages) 0)) c.requires.fitting) (stored_test c.args.label.now c.requires.label)
      c.in-Some.parent.0 c.in-Some.ensures.found.has c.intern-label.new.self c.intern-label.result.0 (keeps.Segment c.args.pages)
      c.fresh_record-given.result c.fresh_record-given.ensures c.place-made.new.pieces c.place-made.ensures.placed
      (takes_as _ _ _ _ (λ i. omega arith) c.intern-label.ensures.takes) (c.intern-label.ensures.given) (refl) (segment_cost c.args.pages) c.args.self.now.stocked))
      (length-replicate (256 * c.args.pages) 0);
}

pub returns-clause-state : goal.returns-clause-state
returns-clause-state c =
    created_whole c.args.self.now.pieces c.args.self.now.sound c.args.container.id c.args.quota c.args.label.now (is.Segment (replicate (256 * c.args.pages) 0))
    (same_fitting c.args.self.now.pieces c.args.self.now.sound c.args.self.now.stocked c.args.container.id c.args.quota (is.Segment (replicate (256 * c.args.pages) 0)) c.requires.fitting) (stored_test c.args.label.now c.requires.label)
    c.in-Some.parent.0 c.in-Some.ensures.found.has c.intern-label.new.self c.intern-label.result.0 (keeps.Segment c.args.pages)
    c.fresh_record-given.result c.fresh_record-given.ensures c.place-made.new.pieces c.place-made.ensures.placed
    (takes_as _ _ _ _ (λ i. omega arith) c.intern-label.ensures.takes) (c.intern-label.ensures.given) (refl) (segment_cost c.args.pages) c.args.self.now.stocked
    c.resize.new.self (replicate (256 * c.args.pages) 0)
    (resized_new c.args.self.now.pieces.places.slots c.place-made.result.slot.0 c.place-made.ensures.placed.slot c.place-made.new.pieces.places.slots
    c.place-made.ensures.slot c.place-made.ensures.placed.slots c.args.self.now.pieces.holdings.segments c.place-made.new.pieces.holdings.segments
    c.place-made.ensures.placed.segments c.args.pages c.resize.new.self c.resize.ensures.after
    (bytes_vacant c.args.self.now.pieces c.args.self.now.sound c.args.container.id c.args.quota c.args.label.now (is.Segment (replicate (256 * c.args.pages) 0))
    (same_fitting c.args.self.now.pieces c.args.self.now.sound c.args.self.now.stocked c.args.container.id c.args.quota (is.Segment (replicate (256 * c.args.pages) 0)) c.requires.fitting) (stored_test c.args.label.now c.requires.label)
    c.in-Some.parent.0 c.in-Some.ensures.found.has c.intern-label.new.self c.intern-label.result.0 (keeps.Segment c.args.pages)
    c.fresh_record-given.result c.fresh_record-given.ensures c.place-made.new.pieces c.place-made.ensures.placed
    (takes_as _ _ _ _ (λ i. omega arith) c.intern-label.ensures.takes) (c.intern-label.ensures.given) (refl) (segment_cost c.args.pages) c.args.self.now.stocked))
    (length-replicate (256 * c.args.pages) 0)

pub returns-clause-slots : goal.returns-clause-slots
returns-clause-slots c = placed_slots _ _ _ _ _ c.place-made.ensures.placed
