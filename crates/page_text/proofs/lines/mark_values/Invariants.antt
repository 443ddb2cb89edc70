use Rattle.std.proofs.Common.{◌≡◌, ◌++◌, map, drop}
use Rattle.page_text.specs.Marked.{mark_data}
use Rattle.serde_json.specs.View.{view}
use Rattle.shown_dumps.specs.Colours.{marks_of}
use Rattle.page_text.proofs.lines.mark_values.Given as goal

abbrev pub invariant-loop-mark : goal.invariant-loop-mark
invariant-loop-mark l =
    map view l.values.items ++ map mark_data (drop l.mark-index l.mark-items) ≡ map mark_data (marks_of l.line)
