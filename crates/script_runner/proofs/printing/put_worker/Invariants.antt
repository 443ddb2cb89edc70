-- the lines so far are added
use Rattle.std.proofs.Common.{◌≡◌, ◌++◌, flat_map, take}
use Rattle.script_rules.specs.Output.{told_text}
use Rattle.script_runner.proofs.printing.put_worker.Given as goal

abbrev pub invariant-loop-place : goal.invariant-loop-place
invariant-loop-place l = l.out.items ≡ l.fn.out.items ++ flat_map (told_text l.names l.worker) (take l.place l.answers.told)
