use Rattle.std.proofs.Common.{arith, sym}
use Rattle.std.proofs.lemmas.List.{append-nil}
use Rattle.plain_state.specs.StateOf.{state_of}
use Rattle.shown_dumps.proofs.TextLaws.{told_level}
use Rattle.shown_dumps.specs.TreePlaces.{nothing}
use Rattle.shown_dumps.specs.Trees.{lines_at}
use Rattle.shown_dumps.proofs.tree.trees.+put_tree.Goals as goal

pub returns : goal.returns
returns t c =
    told_level (lines_at c.args.look.now.names.now c.args.look.now.asked (state_of c.args.state.now)) nothing (state_of c.args.state.now)
    c.args.levels c.args.place.now c.args.out.now.items c.put_lines.new.out.items c.loop-id.out.items c.loop-id.out.items
    c.list-id-items.result.now c.loop-id.id-index (omega (arith, c.if-levels-eq0.false)) c.in_ok-put_lines.ensures
    c.list-id-items.ensures c.loop-id-test.false c.loop-id.invariant (sym (append-nil c.loop-id.out.items))
