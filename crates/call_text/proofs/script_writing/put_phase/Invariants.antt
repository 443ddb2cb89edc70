use Rattle.std.proofs.Common.{◌≡◌, ◌++◌, map, take}
use Rattle.call_text.specs.Line.{written_text}
use Rattle.call_text.specs.Text.{lines_text}
use Rattle.call_text.specs.Script.{said_of}
use Rattle.call_text.proofs.script_writing.put_phase.Given as goal

abbrev pub invariant-loop-place : goal.invariant-loop-place
invariant-loop-place l = l.out.items ≡ l.fn.out.items ++ lines_text written_text (map said_of (take l.place l.phase))
