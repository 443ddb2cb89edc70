use Rattle.std.proofs.Common.{◌*◌, replicate, ap, arith}
use Rattle.kernel_rules.proofs.StoredLaws.{stored_test}
use Rattle.kernel_rules.specs.declared.objects.Body.TheVariants as is
use Rattle.arena_state.specs.declared.records.Record.{Record}
use Rattle.arena_state.proofs.CreateLaws.{labels_fit, slot_room, link_room, below_next, enough}
use Rattle.arena_state.proofs.CopyLaws.{blank_fits, copy_blank, copy_from, copy_room, copy_sound, copy_stocked, copy_whole}
use Rattle.arena_state.proofs.ShownLaws.{placed_slots}
use Rattle.arena_state.proofs.states.ArenaState.create_copy.Goals as goal

pub intern-label-requires : goal.intern-label-requires
intern-label-requires c =
    omega (
      arith,
      labels_fit c.args.self.now.pieces c.args.self.now.sound c.args.container.id c.args.quota c.args.label.now
          (is.Segment (replicate (256 * c.page_count-pages.result) 0)) (blank_fits c.args.self.now c.args.container.id c.args.quota c.args.label.now c.args.source.id c.page_count-pages.result c.page_count-pages.ensures c.requires.fitting)
          (stored_test c.args.label.now c.requires.label),
    )

pub place-made-requires-clause-rises : goal.place-made-requires-clause-rises
place-made-requires-clause-rises c =
    below_next c.args.self.now.pieces c.args.self.now.sound c.args.container.id c.args.quota c.args.label.now
    (is.Segment (replicate (256 * c.page_count-pages.result) 0)) (blank_fits c.args.self.now c.args.container.id c.args.quota c.args.label.now c.args.source.id c.page_count-pages.result c.page_count-pages.ensures c.requires.fitting)
    (stored_test c.args.label.now c.requires.label)

pub place-made-requires-clause-slots : goal.place-made-requires-clause-slots
place-made-requires-clause-slots c =
    slot_room c.args.self.now.pieces c.args.self.now.sound c.args.container.id c.args.quota c.args.label.now
    (is.Segment (replicate (256 * c.page_count-pages.result) 0)) (blank_fits c.args.self.now c.args.container.id c.args.quota c.args.label.now c.args.source.id c.page_count-pages.result c.page_count-pages.ensures c.requires.fitting)
    (stored_test c.args.label.now c.requires.label)

pub place-made-requires-clause-room : goal.place-made-requires-clause-room
place-made-requires-clause-room c =
    link_room c.args.self.now.pieces c.args.self.now.sound c.args.container.id c.args.quota c.args.label.now
    (is.Segment (replicate (256 * c.page_count-pages.result) 0)) (blank_fits c.args.self.now c.args.container.id c.args.quota c.args.label.now c.args.source.id c.page_count-pages.result c.page_count-pages.ensures c.requires.fitting)
    (stored_test c.args.label.now c.requires.label)

pub place-made-requires-clause-quota : goal.place-made-requires-clause-quota
place-made-requires-clause-quota c =
    omega (
      arith,
      ap (λ (r : Record). r.quota) c.fresh_record-given.ensures,
      enough c.args.self.now.pieces c.args.self.now.sound c.args.container.id c.args.quota c.args.label.now
          (is.Segment (replicate (256 * c.page_count-pages.result) 0)) (blank_fits c.args.self.now c.args.container.id c.args.quota c.args.label.now c.args.source.id c.page_count-pages.result c.page_count-pages.ensures c.requires.fitting)
          (stored_test c.args.label.now c.requires.label) c.in-Some.parent.0 c.in-Some.ensures.found.has,
    )

pub copy_bytes-requires-clause-from : goal.copy_bytes-requires-clause-from
copy_bytes-requires-clause-from c =
    copy_from c.args.self.now c.args.container.id c.args.quota c.args.label.now c.args.source.id c.page_count-pages.result c.page_count-pages.ensures c.requires.fitting (stored_test c.args.label.now c.requires.label)
    c.in-Some.parent.0 c.in-Some.ensures.found.has c.intern-label.new.self c.intern-label.result.0 c.fresh_record-given.result
    c.fresh_record-given.ensures c.place-made.new.pieces c.place-made.ensures.placed c.intern-label.ensures.takes c.intern-label.ensures.given
    c.place-made.result.slot.0 c.place-made.ensures.slot c.told-from.result c.told-from.ensures.found c.told-from.ensures.none

pub copy_bytes-requires-clause-blank : goal.copy_bytes-requires-clause-blank
copy_bytes-requires-clause-blank c =
    copy_blank c.args.self.now c.args.container.id c.args.quota c.args.label.now c.args.source.id c.page_count-pages.result c.page_count-pages.ensures c.requires.fitting (stored_test c.args.label.now c.requires.label)
    c.in-Some.parent.0 c.in-Some.ensures.found.has c.intern-label.new.self c.intern-label.result.0 c.fresh_record-given.result
    c.fresh_record-given.ensures c.place-made.new.pieces c.place-made.ensures.placed c.intern-label.ensures.takes c.intern-label.ensures.given
    c.place-made.result.slot.0 c.place-made.ensures.slot c.told-from.result c.told-from.ensures.found c.told-from.ensures.none

pub copy_bytes-requires-clause-room : goal.copy_bytes-requires-clause-room
copy_bytes-requires-clause-room c =
    copy_room c.args.self.now c.args.container.id c.args.quota c.args.label.now c.args.source.id c.page_count-pages.result c.page_count-pages.ensures c.requires.fitting (stored_test c.args.label.now c.requires.label)
    c.in-Some.parent.0 c.in-Some.ensures.found.has c.intern-label.new.self c.intern-label.result.0 c.fresh_record-given.result
    c.fresh_record-given.ensures c.place-made.new.pieces c.place-made.ensures.placed c.intern-label.ensures.takes c.intern-label.ensures.given
    c.place-made.result.slot.0 c.place-made.ensures.slot c.told-from.result c.told-from.ensures.found c.told-from.ensures.none

pub invariant_of-self : goal.invariant_of-self
invariant_of-self c =
    record {
      sound = copy_sound c.args.self.now c.args.container.id c.args.quota c.args.label.now c.args.source.id c.page_count-pages.result c.page_count-pages.ensures c.requires.fitting (stored_test c.args.label.now c.requires.label)
          c.in-Some.parent.0 c.in-Some.ensures.found.has c.intern-label.new.self c.intern-label.result.0 c.fresh_record-given.result
          c.fresh_record-given.ensures c.place-made.new.pieces c.place-made.ensures.placed c.intern-label.ensures.takes c.intern-label.ensures.given
          c.place-made.result.slot.0 c.place-made.ensures.slot c.told-from.result c.told-from.ensures.found c.told-from.ensures.none
          c.copy_bytes.new.segments c.copy_bytes.ensures.after;
      stocked = copy_stocked c.args.self.now c.args.container.id c.args.quota c.args.label.now c.args.source.id c.page_count-pages.result c.page_count-pages.ensures c.requires.fitting (stored_test c.args.label.now c.requires.label)
          c.in-Some.parent.0 c.in-Some.ensures.found.has c.intern-label.new.self c.intern-label.result.0 c.fresh_record-given.result
          c.fresh_record-given.ensures c.place-made.new.pieces c.place-made.ensures.placed c.intern-label.ensures.takes c.intern-label.ensures.given
          c.place-made.result.slot.0 c.place-made.ensures.slot c.told-from.result c.told-from.ensures.found c.told-from.ensures.none
          c.copy_bytes.new.segments c.copy_bytes.ensures.after;
    }

pub returns-clause-state : goal.returns-clause-state
returns-clause-state c =
    copy_whole c.args.self.now c.args.container.id c.args.quota c.args.label.now c.args.source.id c.page_count-pages.result c.page_count-pages.ensures c.requires.fitting (stored_test c.args.label.now c.requires.label)
    c.in-Some.parent.0 c.in-Some.ensures.found.has c.intern-label.new.self c.intern-label.result.0 c.fresh_record-given.result
    c.fresh_record-given.ensures c.place-made.new.pieces c.place-made.ensures.placed c.intern-label.ensures.takes c.intern-label.ensures.given
    c.place-made.result.slot.0 c.place-made.ensures.slot c.told-from.result c.told-from.ensures.found c.told-from.ensures.none
    c.copy_bytes.new.segments c.copy_bytes.ensures.after

pub returns-clause-slots : goal.returns-clause-slots
returns-clause-slots c = placed_slots _ _ _ _ _ c.place-made.ensures.placed
