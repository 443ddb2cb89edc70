-- the lines to come are refused
use Rattle.std.proofs.Common.{◌≡◌, List, [], drop, map}
use Rattle.kernel_rules.specs.Events.{Event}
use Rattle.call_text.specs.declared.known_names.Named.{Named}
use Rattle.script_rules.specs.Lines.{refuse_all}
use Rattle.script_runner.specs.Turns.{stand, waiting_in}
use Rattle.script_runner.proofs.batches.refuse_lines.Given as goal

abbrev pub invariant-loop-line : goal.invariant-loop-line
invariant-loop-line l =
    (journal : List Event) (names : List Named)
    → refuse_all l.refusal (stand journal names [] l.answers) (map waiting_in (drop l.line-index l.lines))
    ≡ refuse_all l.refusal (stand journal names [] l.fn.answers) (map waiting_in l.lines)
