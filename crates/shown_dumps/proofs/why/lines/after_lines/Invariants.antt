use Rattle.std.proofs.Common.{◌≡◌}
use Rattle.shown_dumps.specs.Lines.{after_lines}
use Rattle.shown_dumps.proofs.why.lines.after_lines.Given as goal

abbrev pub invariant-loop : goal.invariant-loop
invariant-loop l = l.rest ≡ after_lines l.counter l.text
