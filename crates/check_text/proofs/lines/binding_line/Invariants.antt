use Rattle.std.proofs.Common.{◌≡◌, ◌-◌, ◌+◌}
use Rattle.check_text.specs.Lines.{binding_line}
use Rattle.check_text.proofs.lines.binding_line.Given as goal

abbrev pub invariant-loop-before : goal.invariant-loop-before
invariant-loop-before l = binding_line 1 l.count l.name l.text ≡ binding_line (l.before + 1) (l.count - l.before) l.name l.rest
