use Rattle.std.proofs.Common.{◌≡◌, ◌++◌}
use Rattle.script_runner.specs.Names.{named_of}
use Rattle.script_runner.proofs.names.BoundNames.text.Given as goal

abbrev pub invariant-loop-name : goal.invariant-loop-name
invariant-loop-name l = l.names.items ++ named_of l.name-iterator ≡ l.self
