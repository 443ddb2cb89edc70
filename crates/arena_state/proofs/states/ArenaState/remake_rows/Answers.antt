use Rattle.std.proofs.Common.{◌∙◌, ◌<◌, ap, arith, length}
use Rattle.base.specs.Counts.{Counts}
use Rattle.containers.specs.Tree.{ids_in}
use Rattle.arena_state.proofs.ShownLaws.{more_made, all_made}
use Rattle.arena_state.proofs.states.ArenaState.remake_rows.Goals as goal

pub loop-place-preserved : goal.loop-place-preserved
loop-place-preserved c =
    let within : c.loop-place.place < length (ids_in c.args.self.now.pieces.places.lists) = omega (arith, c.loop-place-test.true, c.len-place-end.ensures.count) in
    record {
      size = c.remake_row.ensures.size ∙ c.loop-place.invariant.size;
      made = more_made c.args.self.now c.loop-place.rows c.remake_row.new.rows c.loop-place.place c.live-id.result within
          c.live-id.ensures.value c.loop-place.invariant.made c.remake_row.ensures.row c.remake_row.ensures.others;
      scans = c.remake_row.ensures.scans ∙ ap (λ (m : Counts). m.scans) c.live-id.ensures.counted ∙ c.loop-place.invariant.scans;
    }

pub returns-clause-kept : goal.returns-clause-kept
returns-clause-kept c =
    all_made c.args.self.now c.loop-place.rows c.loop-place.place
    (omega (arith, c.loop-place-test.false, c.len-place-end.ensures.count)) c.loop-place.invariant.size c.loop-place.invariant.made
