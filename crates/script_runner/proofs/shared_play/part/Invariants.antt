-- what the workers so far leave
use Rattle.std.specs.List.{AllZip}
use Rattle.script_runner.specs.Shared.{AreLeft, HasSeen}
use Rattle.script_runner.proofs.shared_play.part.Given as goal

abbrev pub invariant-loop-worker : goal.invariant-loop-worker
invariant-loop-worker g l = record {
  left : AreLeft l.yielded l.left.items;
  seen : AllZip (λ p pass. HasSeen pass p.events) l.yielded l.passes.items;
}
