use Rattle.std.proofs.Common.{◌≡◌, ◌∙◌, Some, option_map, slice_get, sym}
use Rattle.script_runner.proofs.NumberLaws.{workers_more}
use Rattle.script_runner.proofs.parts.add_workers.Goals as goal

pub loop-place-preserved : goal.loop-place-preserved
loop-place-preserved c =
    let first : option_map (λ l. l.worker) (slice_get c.args.phase.now c.loop-place.place) ≡ Some c.in-Some.worker
    = sym c.worker.ensures ∙ c.in-Some.is in
    record {
      workers = c.in_ok-add_worker.ensures.added ∙ workers_more c.args.workers.now.keys c.loop-place.workers.keys c.args.phase.now
          c.loop-place.place c.in-Some.worker first c.loop-place.invariant.workers;
      last = c.in_ok-add_worker.ensures.known;
    }
