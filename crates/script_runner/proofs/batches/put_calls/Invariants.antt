-- the calls so far, and those of the lines to come
use Rattle.std.proofs.Common.{◌≡◌, ◌++◌, drop, map}
use Rattle.script_rules.specs.Lines.{calls_of}
use Rattle.script_runner.specs.Turns.{waiting_in}
use Rattle.script_runner.proofs.batches.put_calls.Given as goal

abbrev pub invariant-loop-line : goal.invariant-loop-line
invariant-loop-line l =
    l.calls.items ++ calls_of (map waiting_in (drop l.line-index l.lines))
    ≡ l.fn.calls.items ++ calls_of (map waiting_in l.lines)
