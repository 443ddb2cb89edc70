use Rattle.std.proofs.Common.{◌≡◌, ◌++◌, drop}
use Rattle.std.specs.List.{flat_map}
use Rattle.shown_dumps.specs.Colours.{piece_text, pieces_by}
use Rattle.shown_dumps.proofs.tree.painting.put_pieces.Given as goal

abbrev pub invariant-loop-mark : goal.invariant-loop-mark
invariant-loop-mark l =
    l.out.items ++ flat_map piece_text (pieces_by (drop l.mark-index l.marks) l.rest)
    ≡ l.fn.out.items ++ flat_map piece_text (pieces_by l.marks l.text)
