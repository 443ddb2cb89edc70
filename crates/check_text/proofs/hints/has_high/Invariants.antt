use Rattle.std.proofs.Common.{◌≡◌, drop}
use Rattle.check_text.specs.Hints.{high_after}
use Rattle.check_text.proofs.hints.has_high.Given as goal

abbrev pub invariant-loop-byte : goal.invariant-loop-byte
invariant-loop-byte l = high_after l.before (drop l.byte-index l.word) ≡ high_after 0 l.word
