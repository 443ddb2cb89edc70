use Rattle.std.proofs.Common.{◌≡◌, ◌+◌, ◌∷◌, ◌++◌, [], ◌∙◌, sym, ap, refl, false, length, map, List, rules, arith}
use Rattle.kernel_rules.specs.Events.{Event, by, replies_in}
use Rattle.kernel_rules.specs.History.{answered, state_of}
use Rattle.kernel_rules.proofs.BatchLaws.{answered_calls, answered_replies, answered_length, answered_answers}
use Rattle.kernel_rules.proofs.HistoryLaws.{answered_follows}
use Rattle.kernel_rules.specs.Step.{answer}
use Rattle.kernel_rules.specs.Runs.{replies_to}
use Rattle.kernel_rules.specs.declared.calls.Call.{Call}
use Rattle.kernel_rules.specs.declared.replies.Reply.{Reply}
use Rattle.published_copy.specs.declared.entries.Entry.TheVariants.{Made}
use Rattle.published_copy.specs.Absorbed.{calls_with, list_of}
use Rattle.published_copy.specs.Entries.{made}
use Rattle.published_copy.specs.Shares.{IsNext, copies_with}
use Rattle.published_copy.specs.Turns.{event_at}
use Rattle.published_copy.proofs.Batches.{event_same, replies_length, told_last, paired}
use Rattle.published_copy.proofs.Commits.{awaits}
use Rattle.published_copy.proofs.Prefixes.{last_same}
use Rattle.published_copy.proofs.pairs.Pair.commit.Goals as goal

pub publish-requires : goal.publish-requires
publish-requires g c =
    let boot = g.B.Naming.boot in
    let list = made c.self.inside.whole in
    let whole = c.attempt-tried.new.whole in
    let pass = c.args.pass.now in
    let calls : List Call = c.args.call.now ∷ c.args.more.now in
    let event : Event = event_at (state_of boot.limits list) pass calls in
    let op = c.operation-op.result in
    let lists : c.queue.new.self.list ≡ list = search rules in
    let pending : c.queue.new.self.pending ≡ op ∷ [] = search rules in
    let saw : c.operation-op.result.seen.log ≡ whole = search rules in
    let tried : list_of false whole ≡ list ++ event ∷ [] = search rules in
    let first : op.call.value ≡ c.args.call.now = search rules in
    let others : op.more.items ≡ c.args.more.now = search rules in
    let nx : IsNext boot list op =
    record {
      event = event;
      thread_is = search rules;
      calls_are = (λ i. first i ∷ others i) ∙ sym (answered_calls (state_of boot.limits list) pass.thread calls);
      length_is = search rules;
      log_is = search rules;
      list_is = ap (list_of false) saw ∙ tried;
      may = answered_follows boot.limits list pass.thread pass.number calls c.requires.size (search rules);
    }
    in
    let settled : c.settle.new.self ≡ whole ++ Made ∷ [] = search rules in
    awaits boot c.queue.new.self list op whole c.settle.new.self lists pending nx saw settled

pub event-requires : goal.event-requires
event-requires g c =
    let limits = g.B.Naming.boot.limits in
    let list = made c.self.inside.whole in
    let pass = c.args.pass.now in
    let calls : List Call = c.args.call.now ∷ c.args.more.now in
    let journal : made c.settle.new.self ≡ list ++ event_at (state_of limits list) pass calls ∷ [] = search rules in
    let told = ap length (told_last limits list (made c.settle.new.self) pass calls _ c.publish.ensures.replies journal) in
    let kept : length c.in_ok-kept.kept ≡ length calls = ap length c.in_ok-kept.ensures in
    let further : length c.further-further.result.now ≡ length c.publish.new.self.further = ap length c.further-further.ensures in
    omega (arith, kept, told, further, replies_length (state_of limits list) pass.thread calls)

pub returns-clause-event : goal.returns-clause-event
returns-clause-event g c =
    let limits = g.B.Naming.boot.limits in
    let list = made c.self.inside.whole in
    let pass = c.args.pass.now in
    let calls : List Call = c.args.call.now ∷ c.args.more.now in
    let journal : made c.settle.new.self ≡ list ++ event_at (state_of limits list) pass calls ∷ [] = search rules in
    let told = told_last limits list (made c.settle.new.self) pass calls _ c.publish.ensures.replies journal in
    let reply : c.new-3.result ≡ c.publish.new.self.reply = search rules in
    let said : c.new-3.result ∷ c.further-further.result.now ≡ replies_to (state_of limits list) (by pass.thread calls) =
    (λ i. reply i ∷ c.further-further.ensures i) ∙ told in
    let here : c.event.result.calls ≡ answered (state_of limits list) pass.thread calls =
    c.event.ensures.calls ∙ paired (state_of limits list) pass.thread calls c.in_ok-kept.kept _ c.in_ok-kept.ensures said in
    event_same (state_of limits list) pass calls c.event.result (search rules) (search rules) here
    ∙ ap (λ l. event_at (state_of limits l) pass calls) c.self.view_is

pub returns-clause-reply : goal.returns-clause-reply
returns-clause-reply g c =
    let limits = g.B.Naming.boot.limits in
    let list = made c.self.inside.whole in
    let pass = c.args.pass.now in
    let calls : List Call = c.args.call.now ∷ c.args.more.now in
    let journal : made c.settle.new.self ≡ list ++ event_at (state_of limits list) pass calls ∷ [] = search rules in
    let told : c.publish.new.self.reply ∷ c.publish.new.self.further ≡ replies_to (state_of limits list) (by pass.thread calls) =
    told_last limits list (made c.settle.new.self) pass calls _ c.publish.ensures.replies journal in
    let first : c.publish.new.self.reply ≡ answer (state_of limits list) pass.thread c.args.call.now = cc told in
    c.publish.ensures.reply ∙ first
    ∙ ap (λ l. answer (state_of limits l) pass.thread c.args.call.now) c.self.view_is
