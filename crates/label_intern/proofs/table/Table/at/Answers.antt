use Rattle.std.proofs.Common.{arith, ◌<◌, ◌/◌, length}
use Rattle.label_intern.proofs.TableLemmas.{cell_read, cell_low, cell_high, byte_within}
use Rattle.label_intern.proofs.table.Table.at.Goals as goal

pub returns-then-row-column : goal.returns-then-row-column
returns-then-row-column c =
    let within : c.place_of-place.result / 2 < length c.args.self.now.cells.items =
    rw (c.place_of-place.ensures, ← c.args.self.now.cells.ok.0, c.args.self.now.whole) (byte_within _ _ _ c.requires.row_in c.requires.column_in) in
    cell_low _ _ _ _
    (cell_read c.args.self.now c.args.row c.args.column _ _ _ _ c.place_of-place.ensures within c.index.ensures c.half_of.ensures.half c.told_by-both.ensures)
    c.if-row-column.true

pub returns-else-row-column : goal.returns-else-row-column
returns-else-row-column c =
    let within : c.place_of-place.result / 2 < length c.args.self.now.cells.items =
    rw (c.place_of-place.ensures, ← c.args.self.now.cells.ok.0, c.args.self.now.whole) (byte_within _ _ _ c.requires.row_in c.requires.column_in) in
    cell_high _ _ _ _
    (cell_read c.args.self.now c.args.row c.args.column _ _ _ _ c.place_of-place.ensures within c.index.ensures c.half_of.ensures.half c.told_by-both.ensures)
    (omega arith)
