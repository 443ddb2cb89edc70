use Rattle.std.proofs.Common.{◌≡◌, drop}
use Rattle.check_text.specs.Givers.{is_ended}
use Rattle.check_text.proofs.script_checks.givers.is_ended.Given as goal

abbrev pub invariant-loop-line : goal.invariant-loop-line
invariant-loop-line l = is_ended l.outlines l.from l.to ≡ is_ended (drop l.line-index l.outlines) l.from l.to
