use Rattle.std.proofs.Common.{◌∙◌, ap}
use Rattle.flows.proofs.Playing.{written_touch}
use Rattle.flows.specs.Looks.{unless}
use Rattle.plain_state.specs.StateOf.{state_of}
use Rattle.flows.proofs.plays.write.Goals as goal

pub returns-clause-touch : goal.returns-clause-touch
returns-clause-touch c =
    written_touch (state_of c.args.state.now) (state_of c.step.new.state) c.args.category.0 c.args.thread
    c.args.call.now c.in-Ok.reply c.unless.result c.unless-2.result c.is_outside.result
    c.is_owner-owned.result c.is_refusal-refused.result c.asks_owner-gate.result c.is_owner.result
    c.in-Ok.ensures.reply c.in-Ok.ensures.ok c.is_refusal-refused.ensures c.is_owner-owned.ensures
    c.asks_owner-gate.ensures (c.unless.ensures ∙ ap (unless c.is_refusal-refused.result) c.sees-seen.ensures)
    (c.unless-2.ensures ∙ ap (unless c.is_refusal-refused.result) c.changes-changed.ensures)
    c.is_outside.ensures c.is_owner.ensures
