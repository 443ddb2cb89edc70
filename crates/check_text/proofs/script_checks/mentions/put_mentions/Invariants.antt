use Rattle.std.proofs.Common.{◌≡◌, ◌++◌, drop}
use Rattle.check_text.specs.Mentions.{mentions_in}
use Rattle.check_text.proofs.script_checks.mentions.put_mentions.Given as goal

abbrev pub invariant-loop-arg : goal.invariant-loop-arg
invariant-loop-arg l = l.out.items ++ mentions_in (drop l.arg-index l.args) ≡ l.fn.out.items ++ mentions_in l.args
