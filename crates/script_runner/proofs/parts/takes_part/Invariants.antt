-- none of the lines so far is the worker's
use Rattle.std.proofs.Common.{◌≡◌, drop}
use Rattle.script_runner.specs.Shared as spec
use Rattle.script_runner.proofs.parts.takes_part.Given as goal

abbrev pub invariant-loop-place : goal.invariant-loop-place
invariant-loop-place l = spec.takes_part l.worker (drop l.place l.phase) ≡ spec.takes_part l.worker l.phase
