use Rattle.std.proofs.Common.{◌∙◌, ap}
use Rattle.flows.proofs.Playing.{read_touch}
use Rattle.flows.specs.Looks.{is_refusal, unless}
use Rattle.plain_state.specs.StateOf.{state_of}
use Rattle.flows.proofs.plays.read.Goals as goal

pub returns : goal.returns
returns c =
    read_touch (state_of c.args.state.now) c.args.category.0 c.args.thread c.args.query.now c.unless.result
    c.unless-2.result c.is_refusal-refused.result c.is_owner-owner.result
    (c.is_refusal-refused.ensures ∙ ap is_refusal c.ask.ensures.value) c.is_owner-owner.ensures
    (c.unless.ensures ∙ ap (unless c.is_refusal-refused.result) c.reads-seen.ensures) c.unless-2.ensures
