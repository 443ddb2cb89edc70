-- the workers of the lines so far, and the last line's is among them
use Rattle.std.proofs.Common.{◌≡◌, true, IfSome, take}
use Rattle.std.specs.List.{list_any}
use Rattle.std.specs.Str.{bytes_eq}
use Rattle.script_rules.specs.Workers.{with_workers}
use Rattle.script_runner.proofs.parts.add_workers.Given as goal

abbrev pub invariant-loop-place : goal.invariant-loop-place
invariant-loop-place l = record {
  workers : l.workers.keys ≡ with_workers l.fn.workers.keys (take l.place l.phase);
  last : IfSome l.last (λ w. list_any (bytes_eq w) l.workers.keys ≡ true);
}
