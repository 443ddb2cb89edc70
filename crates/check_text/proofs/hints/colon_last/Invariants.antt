use Rattle.std.proofs.Common.{◌≡◌, false, drop}
use Rattle.check_text.specs.Hints.{colon_last}
use Rattle.check_text.proofs.hints.colon_last.Given as goal

abbrev pub invariant-loop-byte : goal.invariant-loop-byte
invariant-loop-byte l = colon_last l.seen (drop l.byte-index l.word) ≡ colon_last false l.word
