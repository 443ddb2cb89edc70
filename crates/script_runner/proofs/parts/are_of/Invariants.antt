-- the lines so far are the worker's
use Rattle.std.proofs.Common.{◌≡◌, drop}
use Rattle.script_runner.specs.Workers as spec
use Rattle.script_runner.proofs.parts.are_of.Given as goal

abbrev pub invariant-loop-place : goal.invariant-loop-place
invariant-loop-place l = spec.are_of l.worker (drop l.place l.phase) ≡ spec.are_of l.worker l.phase
