use Rattle.std.proofs.Common.{◌≡◌, ◌++◌, drop}
use Rattle.check_text.specs.Mentions.{script_mentions}
use Rattle.check_text.proofs.script_checks.mentions.put_script.Given as goal

abbrev pub invariant-loop-phase : goal.invariant-loop-phase
invariant-loop-phase l = l.out.items ++ script_mentions (drop l.phase-index l.phases) ≡ l.fn.out.items ++ script_mentions l.phases
