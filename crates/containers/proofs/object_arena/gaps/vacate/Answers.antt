use Rattle.std.proofs.Common.{rules, ◌≡◌, ℕ, ◌+◌, ◌<◌, length, get_or, sym, ◌∙◌, subst, arith}
use Rattle.containers.specs.Gaps.{IsVacated}
use Rattle.std.proofs.lemmas.List.{get_or_read}
use Rattle.containers.proofs.GapSteps.{vacated_none, vacated_some, vacated_as}
use Rattle.containers.proofs.object_arena.gaps.vacate.Goals as goal
use Rattle.containers.proofs.object_arena.gaps.vacate.Goals.{in-Some, in_default}

pub loop-id-preserved : goal.loop-id-preserved
loop-id-preserved g c =
    let v = c.loop-id.invariant.vacated in
    let last : c.loop-id.id-index < length c.args.gone.now = c.loop-id-test.true in
    let id_is : c.number.result ≡ get_or c.args.gone.now c.loop-id.id-index 0 = c.number.ensures ∙ get_or_read c.args.gone.now c.loop-id.id-index c.id-item.result last c.id-item.is 0 in
    elim c.match-place_from_end.branch [
      | in-Some w ↦
          let found = w.in-Some.ensures.found in
          let within : w.in-Some.place < length c.args.ids.now = found.0 in
          let slot_in : get_or c.args.slots.now w.in-Some.place 0 < length c.args.cells.now = c.requires.within w.in-Some.place (omega (arith, within, c.requires.beside)) in
          record {
            vacated = vacated_as c.args.ids.now c.args.slots.now c.args.gone.now c.args.cells.now (c.loop-id.id-index + 1) _ _ _ _ w.cells-is w.first-is
                (vacated_some c.args.ids.now c.args.slots.now c.args.gone.now c.args.cells.now c.loop-id.id-index c.loop-id.first c.loop-id.cells v w.in-Some.place w.min-first.result c.requires.rises within (found.1 ∙ id_is) slot_in w.min-first.ensures);
            scans = search rules;
          }
      | in_default w ↦ record {
        vacated = vacated_as c.args.ids.now c.args.slots.now c.args.gone.now c.args.cells.now (c.loop-id.id-index + 1) _ _ _ _ w.cells-is w.first-is
            (vacated_none c.args.ids.now c.args.slots.now c.args.gone.now c.args.cells.now c.loop-id.id-index c.loop-id.first c.loop-id.cells v (λ k lt e. w.in_default.ensures.absent k lt (e ∙ sym id_is)));
        scans = search rules;
      }
    ]

pub returns-clause-vacated : goal.returns-clause-vacated
returns-clause-vacated g c =
    let done : c.loop-id.id-index ≡ length c.args.gone.now = omega (arith, c.loop-id-test.false, c.loop-id.auto.id-index-end) in
    subst (λ (n : ℕ). IsVacated c.args.ids.now c.args.slots.now c.args.gone.now n c.args.cells.now c.loop-id.cells c.loop-id.first) done c.loop-id.invariant.vacated
