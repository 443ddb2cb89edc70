use Rattle.std.proofs.Common.{None, Some, Bool, cond, sym, ap, ◌∙◌, slice_get, arith, length-set}
use Rattle.kernel_rules.specs.State.{slots_at}
use Rattle.kernel_rules.specs.Translate.{slot_in, slot_at, through, through_space}
use Rattle.arena_state.specs.States.{state_of}
use Rattle.arena_state.proofs.ShownLaws.{more_shown}
use Rattle.arena_state.proofs.states.ArenaState.row_through.Goals as goal

pub loop-place-preserved : goal.loop-place-preserved
loop-place-preserved c =
    let s = state_of c.args.self.now in
    let t = c.args.thread in
    let e = c.args.space.now in
    let n = c.loop-place.place in
    let long = c.loop-place.invariant.long in
    record {
      long = length-set c.loop-place.row n c.through.result ∙ long;
      shown = more_shown c.loop-place.row n c.through.result (λ i. through_space s t i (Some e)) (omega (arith, long, c.loop-place-test.true))
          (c.through.ensures.value
          ∙ ap (through s t) (c.mapping_in.ensures ∙ ap (λ ms. slot_in (slice_get ms n)) (c.slots-slots.ensures.value ∙ ap (slots_at s) c.find-at.ensures.id))
          ∙ sym (ap (λ (b : Bool). cond b (through s t (slot_at s e.object n)) None) c.requires))
          c.loop-place.invariant.shown;
      scans = c.through.ensures.scans ∙ c.loop-place.invariant.scans;
    }
