use Rattle.std.proofs.Common.{◌≡◌, ◌++◌, drop}
use Rattle.call_text.specs.NameLines.{named_from, named_line}
use Rattle.call_text.proofs.names_text.lines.named_line.Given as goal

abbrev pub invariant-loop-byte : goal.invariant-loop-byte
invariant-loop-byte l = l.text.items ++ named_from l.names l.meant l.word.items (drop l.byte-index l.line) ≡ named_line l.names l.line
