use Rattle.std.proofs.Common.{◌≡◌, ◌+◌, ◌≤◌, length, drop}
use Rattle.std.specs.Option.{option_map}
use Rattle.shown_dumps.specs.Pieces.{lines_of}
use Rattle.page_text.specs.Edits.{place_in}
use Rattle.page_text.proofs.lines.find_line.Given as goal

abbrev pub invariant-lines : goal.invariant-lines
invariant-lines l = record {
  place : option_map (λ n. n + l.count) (place_in (lines_of l.rest) l.line) ≡ place_in (lines_of l.fn.text) l.line;
  rest : lines_of l.rest ≡ drop l.count (lines_of l.fn.text);
  few : l.count + length l.rest ≤ length l.fn.text;
}

abbrev pub decreases-lines : goal.decreases-lines
decreases-lines l = length l.rest
