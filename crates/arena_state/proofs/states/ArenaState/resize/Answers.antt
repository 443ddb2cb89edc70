use Rattle.std.proofs.Common.{◌≤◌, ◌+◌, ap, subst}
use Rattle.base.specs.declared.kinds.Kind.TheVariants as kinds
use Rattle.arena_state.specs.declared.records.Record.{Record}
use Rattle.arena_state.specs.declared.records.Kept.TheVariants as keeps
use Rattle.arena_state.proofs.EditLaws.{read_is}
use Rattle.arena_state.proofs.RefillLaws.{segments_sound}
use Rattle.arena_state.proofs.ResizeLaws.{resized_sound, resized_room, resized_state, resized_stocked}
use Rattle.arena_state.proofs.SoundLaws.{with_record}
use Rattle.arena_state.proofs.WholeLaws.{kind_bare, quota_same}
use Rattle.arena_state.proofs.states.ArenaState.resize.Goals as goal

pub resize-requires-clause-room : goal.resize-requires-clause-room
resize-requires-clause-room c =
    let a = c.args.self.now in
    let has = c.in-Some.ensures.found.has in
    let read = read_is a.pieces a.sound c.args.segment.id c.in-Some.slot.0 has c.index_mut.result.now c.index_mut.ensures.value in
    resized_room a.pieces a.sound c.args.segment.id c.in-Some.slot.0 has c.args.pages c.requires.few
    (kind_bare a.pieces kinds.Segment c.args.segment.id _ c.requires.kind)
    (subst (λ n. 1 + c.args.pages ≤ n) (quota_same a.pieces c.args.segment.id) c.requires.room)
    (record c.index_mut.result.now { body = keeps.Segment c.args.pages })
    (ap (λ (z : Record). record z { body = keeps.Segment c.args.pages }) read) a.stocked

pub invariant_of-self : goal.invariant_of-self
invariant_of-self c =
    let a = c.args.self.now in
    let has = c.in-Some.ensures.found.has in
    let read = read_is a.pieces a.sound c.args.segment.id c.in-Some.slot.0 has c.index_mut.result.now c.index_mut.ensures.value in
    let r : Record = record c.index_mut.result.now { body = keeps.Segment c.args.pages } in
    record {
      sound = segments_sound (with_record a.pieces c.in-Some.slot.0 r) c.resize.new.self
          (resized_sound a.pieces a.sound c.args.segment.id c.in-Some.slot.0 has c.args.pages c.requires.few
          (kind_bare a.pieces kinds.Segment c.args.segment.id _ c.requires.kind)
          (subst (λ n. 1 + c.args.pages ≤ n) (quota_same a.pieces c.args.segment.id) c.requires.room) r
          (ap (λ (z : Record). record z { body = keeps.Segment c.args.pages }) read));
      stocked = resized_stocked a.pieces a.sound c.args.segment.id c.in-Some.slot.0 has c.args.pages c.requires.few
          (kind_bare a.pieces kinds.Segment c.args.segment.id _ c.requires.kind)
          (subst (λ n. 1 + c.args.pages ≤ n) (quota_same a.pieces c.args.segment.id) c.requires.room) r
          (ap (λ (z : Record). record z { body = keeps.Segment c.args.pages }) read) a.stocked c.resize.new.self c.resize.ensures.after;
    }

pub returns-clause-state : goal.returns-clause-state
returns-clause-state c =
    let a = c.args.self.now in
    let has = c.in-Some.ensures.found.has in
    let read = read_is a.pieces a.sound c.args.segment.id c.in-Some.slot.0 has c.index_mut.result.now c.index_mut.ensures.value in
    let r : Record = record c.index_mut.result.now { body = keeps.Segment c.args.pages } in
    resized_state a.pieces a.sound c.args.segment.id c.in-Some.slot.0 has c.args.pages c.requires.few
    (kind_bare a.pieces kinds.Segment c.args.segment.id _ c.requires.kind)
    (subst (λ n. 1 + c.args.pages ≤ n) (quota_same a.pieces c.args.segment.id) c.requires.room) r
    (ap (λ (z : Record). record z { body = keeps.Segment c.args.pages }) read) a.stocked c.resize.new.self c.resize.ensures.after
