use Rattle.std.proofs.Common.{◌≡◌, ◌++◌, drop}
use Rattle.check_text.specs.Mentions.{pair_mentions}
use Rattle.check_text.proofs.script_checks.mentions.put_pairs.Given as goal

abbrev pub invariant-loop-pair : goal.invariant-loop-pair
invariant-loop-pair l = l.out.items ++ pair_mentions (drop l.pair-index l.pairs) ≡ l.fn.out.items ++ pair_mentions l.pairs
