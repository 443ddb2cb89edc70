use Rattle.std.proofs.Common.{◌≡◌, ◌+◌, ◌≤◌, ◌++◌, map, length}
use Rattle.shown_dumps.specs.Pieces.{lines_of}
use Rattle.page_text.specs.Edits.{edits}
use Rattle.page_text.specs.Marked.{edit_data}
use Rattle.serde_json.specs.View.{view}
use Rattle.page_text.proofs.edits.edit_values.Given as goal

abbrev pub invariant-lines : goal.invariant-lines
invariant-lines l = record {
  told : map view l.values.items
      ++ map (edit_data l.before.names.now l.before.reached.now l.before.tree.now) (edits l.kept (lines_of l.old) (lines_of l.new))
      ≡ map (edit_data l.before.names.now l.before.reached.now l.before.tree.now) (edits 0 (lines_of l.before.tree.now) (lines_of l.after));
  few : l.kept + length l.new ≤ length l.after;
}

abbrev pub decreases-lines : goal.decreases-lines
decreases-lines l = length l.new
