use Rattle.std.proofs.Common.{arith}
use Rattle.plain_state.specs.StateOf.{state_of}
use Rattle.shown_dumps.proofs.TextLaws.{told_level}
use Rattle.shown_dumps.specs.Dots.{closed_at, opened_at}
use Rattle.shown_dumps.proofs.dot.dots.+put_dot.Goals as goal

pub returns : goal.returns
returns t c =
    told_level (opened_at c.args.look.now.names.now (state_of c.args.state.now) c.args.look.now.reached.now)
    (closed_at (state_of c.args.state.now)) (state_of c.args.state.now) c.args.levels c.args.place.now c.args.out.now.items
    c.put_before.new.out.items c.loop-id.out.items c.put_after.new.out.items c.list-id-items.result.now c.loop-id.id-index
    (omega (arith, c.if-levels-eq0.false)) c.in_ok-put_before.ensures c.list-id-items.ensures c.loop-id-test.false
    c.loop-id.invariant c.in_ok-put_after.ensures
