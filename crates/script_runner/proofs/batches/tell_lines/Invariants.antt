-- what the lines to come are told, with the replies that are left
use Rattle.std.proofs.Common.{◌≡◌, List, [], drop, map}
use Rattle.kernel_rules.specs.Events.{Event}
use Rattle.script_runner.specs.Turns.{stand, tell_with, waiting_in}
use Rattle.script_runner.proofs.batches.tell_lines.Given as goal

abbrev pub invariant-loop-line : goal.invariant-loop-line
invariant-loop-line l =
    (journal : List Event)
    → tell_with (map waiting_in (drop l.line-index l.lines)) l.left (stand journal l.names [] l.answers)
    ≡ tell_with (map waiting_in l.lines) l.replies (stand journal l.fn.names [] l.fn.answers)
