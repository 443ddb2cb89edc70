use Rattle.std.proofs.Common.{◌≡◌, ◌+◌, sym, ◌∙◌, ap, subst, arith, refl}
use Rattle.base.specs.Counts.{Counts}
use Rattle.arena_memory.specs.Rows.{BySlot}
use Rattle.arena_state.specs.Shown.{AreKeptBut}
use Rattle.arena_state.specs.States.{state_of}
use Rattle.arena_state.proofs.RepairedLaws.{all_passed, none_passed, slot_remade, untouched_passed}
use Rattle.arena_state.proofs.states.ArenaState.repair.Goals as goal
use Rattle.arena_state.proofs.states.ArenaState.repair.Goals.{then-is_touched, else-is_touched}

pub loop-found-init : goal.loop-found-init
loop-found-init c = record {
  rows = none_passed c.args.self.now c.args.change.now 0 c.first-from.result c.args.rows.now (λ slot past lt. c.first-from.ensures.none slot lt)
      c.requires;
  scans = refl;
}

pub loop-found-preserved : goal.loop-found-preserved
loop-found-preserved c =
    let a = c.args.self.now in
    let change = c.args.change.now in
    let next = c.in-Some.ensures.found in
    let passed : AreKeptBut a change c.in-Some.found.slot.0 c.loop-found.rows
    = none_passed a change c.loop-found.from c.in-Some.found.slot.0 c.loop-found.rows next.first c.loop-found.invariant.rows in
    let walked : c.next_thread.new.meter.scans ≡ c.args.meter.now.scans
    = ap (λ (m : Counts). m.scans) c.next_thread.ensures.counted ∙ c.loop-found.invariant.scans in
    let looked : c.is_touched.new.meter.scans ≡ c.args.meter.now.scans = c.is_touched.ensures.scans ∙ walked in
    elim c.if-is_touched.branch [
      | then-is_touched w ↦ record {
        rows = subst (λ (rows : BySlot). AreKeptBut a change (c.in-Some.found.slot.0 + 1) rows) (sym w.rows-is)
            (slot_remade a change c.in-Some.found.slot.0 c.in-Some.found.thread c.loop-found.rows w.remake_row.new.rows passed (sym next.names)
            w.remake_row.ensures.size w.remake_row.ensures.row w.remake_row.ensures.others);
        scans = ap (λ (m : Counts). m.scans) w.meter-is ∙ w.remake_row.ensures.scans ∙ looked;
      }
      | else-is_touched w ↦ record {
        rows = subst (λ (rows : BySlot). AreKeptBut a change (c.in-Some.found.slot.0 + 1) rows) (sym w.rows-is)
            (untouched_passed a change c.in-Some.found.slot.0 c.in-Some.found.thread c.loop-found.rows passed (sym next.names)
            (sym c.is_touched.ensures.value ∙ w.if-is_touched.false));
        scans = ap (λ (m : Counts). m.scans) w.meter-is ∙ looked;
      }
    ]

pub returns-clause-kept : goal.returns-clause-kept
returns-clause-kept c =
    let a = c.args.self.now in
    let change = c.args.change.now in
    all_passed a change (state_of a).limits.pages c.loop-found.rows (omega arith)
    (none_passed a change c.loop-found.from (state_of a).limits.pages c.loop-found.rows
    (λ slot past lt. c.in_default.ensures.absent slot past) c.loop-found.invariant.rows)
