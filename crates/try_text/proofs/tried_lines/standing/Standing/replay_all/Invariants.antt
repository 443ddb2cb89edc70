use Rattle.std.proofs.Common.{◌≡◌, drop}
use Rattle.try_text.specs.Standing.{after_all}
use Rattle.try_text.proofs.tried_lines.standing.Standing.replay_all.Given as goal

abbrev pub invariant-loop-one : goal.invariant-loop-one
invariant-loop-one l = after_all l.self (drop l.one-index l.kept) ≡ after_all l.fn.self l.kept
