use Rattle.std.proofs.Common.{◌≡◌}
use Rattle.script_runner.specs.Names.{named_of, all_bound}
use Rattle.script_runner.proofs.names.BoundNames.bind_all.Given as goal

abbrev pub invariant-loop-name : goal.invariant-loop-name
invariant-loop-name l = all_bound (named_of l.name-iterator) l.self ≡ all_bound l.others l.fn.self
