use Rattle.script_runner.proofs.shared_play.part.Goals as goal

pub loop-worker-preserved : goal.loop-worker-preserved
loop-worker-preserved g c = record {
  left = c.in_ok-add_left.ensures.left c.loop-worker.yielded c.loop-worker.invariant.left;
  seen = c.in_ok-add_left.ensures.seen c.loop-worker.yielded c.loop-worker.invariant.seen;
}
