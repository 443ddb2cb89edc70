use Rattle.std.proofs.Common.{◌≡◌, ◌+◌, ◌≤◌, ◌++◌, length, map}
use Rattle.shown_dumps.specs.Json.{lines_data}
use Rattle.shown_dumps.specs.Pieces.{lines_of}
use Rattle.serde_json.specs.View.{view}
use Rattle.shown_dumps.proofs.json.pieces.line_values.Given as goal

abbrev pub invariant-lines : goal.invariant-lines
invariant-lines l = record {
  told : map view l.values.items ++ lines_data l.number (lines_of l.rest) ≡ lines_data 1 (lines_of l.fn.text);
  few : l.number + length l.rest ≤ 1 + length l.fn.text;
}

abbrev pub decreases-lines : goal.decreases-lines
decreases-lines l = length l.rest
