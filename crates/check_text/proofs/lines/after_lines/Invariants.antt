use Rattle.std.proofs.Common.{◌≡◌}
use Rattle.check_text.specs.Lines.{after_lines}
use Rattle.check_text.proofs.lines.after_lines.Given as goal

abbrev pub invariant-loop : goal.invariant-loop
invariant-loop l = l.rest ≡ after_lines l.counter l.text
