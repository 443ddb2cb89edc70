use Rattle.std.proofs.Common.{◌≡◌, ◌∙◌, ap, sym, subst}
use Rattle.kernel_rules.specs.History.{state_of}
use Rattle.kernel_rules.specs.Step.{query_answer}
use Rattle.published_copy.proofs.Prefixes.{prefix_trans}
use Rattle.one_history.specs.OneHistory.{IsAnswered}
use Rattle.one_history.proofs.told.answered.Goals as goal

-- what was learnt begins what was read, by the thread that was given the seat
pub returns : goal.returns
returns g c =
    let limits = g.B.Naming.boot.limits in
    let query = c.args.query.now in
    let opened = c.in_ok-seat.ensures.done in
    let learnt = c.learn.ensures in
    let read = c.in_ok-reply.ensures.done in
    let seen = c.read.new.self.pass.seen in
    let thread : c.learn.new.self.pass.thread ≡ c.args.thread = learnt.0 ∙ ap (λ s. s.pass.thread) opened.6 in
    let reply = read.3 ∙ ap (λ t. query_answer (state_of limits seen) t query) thread in
    subst (λ pass. IsAnswered limits c.args.note.now c.args.thread query c.in_ok-reply.reply pass.seen) (sym c.into_pass.ensures)
    (prefix_trans _ _ _ learnt.2.2 read.1, read.2, reply)
