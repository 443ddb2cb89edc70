-- the lines of the workers so far
use Rattle.std.proofs.Common.{◌≡◌, ◌++◌, flat_map, take, drop}
use Rattle.script_rules.specs.Output.{worker_text}
use Rattle.script_rules.specs.Run.{Run}
use Rattle.script_runner.specs.Shared.{left_text}
use Rattle.script_runner.specs.Turns.{AreOwn}
use Rattle.script_runner.proofs.printing.output_of.Given as goal

abbrev pub invariant-loop-index : goal.invariant-loop-index
invariant-loop-index l = record {
  text : (r : Run) → AreOwn l.workers.keys l.left r → l.names ≡ r.names
      → l.out.items ≡ flat_map (worker_text r.names r.told) (take l.index l.workers.keys);
  lines : l.out.items ++ left_text l.names (drop l.index l.workers.keys) (drop l.index l.left)
      ≡ left_text l.names l.workers.keys l.left;
}
