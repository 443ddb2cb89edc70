use Rattle.std.proofs.Common.{◌∙◌, lit<}
use Rattle.containers.proofs.Spares.{spare_none, spare_second, open_first, open_second}
use Rattle.containers.proofs.cells.spare_rings.Goals as goal

pub loop-cell-init : goal.loop-cell-init
loop-cell-init c = c.in_ok-rings.ensures ∙ spare_none c.args.size

pub push_back-requires : goal.push_back-requires
push_back-requires c =
    let open' = open_first c.loop-cell.rings c.args.size c.loop-cell.cell c.loop-cell-test.true c.loop-cell.invariant in
    (lit< tt, (lit< tt, (open'.head, (open'.cell, open'.free))))

pub push_back-requires-in-loop-cell : goal.push_back-requires-in-loop-cell
push_back-requires-in-loop-cell c =
    let open' = open_second c.loop-cell.rings c.push_back.new.self c.args.size c.loop-cell.cell c.loop-cell-test.true c.loop-cell.invariant c.push_back.ensures.appended in
    (lit< tt, (lit< tt, (open'.head, (open'.cell, open'.free))))

pub loop-cell-preserved : goal.loop-cell-preserved
loop-cell-preserved c = spare_second c.loop-cell.rings c.push_back.new.self c.push_back-in-loop-cell.new.self c.args.size c.loop-cell.cell c.loop-cell.invariant c.push_back.ensures.appended c.push_back-in-loop-cell.ensures.appended
