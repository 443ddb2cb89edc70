use Rattle.std.proofs.Common.{◌∙◌, ap, take, List}
use Rattle.kernel_rules.specs.Events.{Event}
use Rattle.kernel_rules.specs.History.{state_from}
use Rattle.kernel_rules.specs.State.{State}
use Rattle.kernel_rules.specs.Step.{query_answer}
use Rattle.dump_text.specs.Whole.{raw_reply}
use Rattle.auditor.proofs.ReadLaws.{state_replayed}
use Rattle.auditor.proofs.replays.Replay.answer.Goals as goal

pub returns-clause-told : goal.returns-clause-told
returns-clause-told c = λ start events takes.
    let at = c.args.earlier.now.place in
    let state = takes.replay.state ∙ ap (λ (es : List Event). state_from start.state es) takes.all ∙ state_replayed start (take at events) in
    let reply = c.raw_reply.ensures ∙ ap raw_reply (c.in_ok-reply.ensures.reply ∙ ap (λ (s : State). query_answer s c.args.thread c.args.earlier.now.read.query) state) in
    (λ i. record { place = at; read = record { thread = c.args.thread; query = c.args.earlier.now.read.query; reply = reply i } })
