use Rattle.std.proofs.Common.{◌≡◌, ◌++◌, drop, map}
use Rattle.check_text.specs.FaultTexts.{shown_byte}
use Rattle.check_text.proofs.fault_texts.put_shown.Given as goal

abbrev pub invariant-loop-byte : goal.invariant-loop-byte
invariant-loop-byte l = l.out.items ++ map shown_byte (drop l.byte-index l.word) ≡ l.fn.out.items ++ map shown_byte l.word
