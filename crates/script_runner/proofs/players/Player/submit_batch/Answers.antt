use Rattle.std.proofs.Common.{◌≡◌, ◌∙◌, List, [], ap, map}
use Rattle.base.specs.declared.ranges.Limits.{Limits}
use Rattle.kernel_rules.specs.Events.{Event, by}
use Rattle.kernel_rules.specs.History.{state_of}
use Rattle.kernel_rules.specs.Runs.{replies_to}
use Rattle.kernel_rules.specs.declared.calls.Call.{Call}
use Rattle.kernel_rules.specs.declared.replies.Reply.{Reply}
use Rattle.call_text.specs.declared.known_names.Named.{Named}
use Rattle.script_rules.specs.Asking.{with_calls}
use Rattle.script_runner.specs.Turns.{stand, tell_with, waiting_in}
use Rattle.script_runner.specs.declared.batches.Gathered.{Gathered}
use Rattle.script_runner.proofs.TurnLaws.{asked_by}
use Rattle.script_runner.proofs.players.Player.submit_batch.Goals as goal

pub returns-clause-stands : goal.returns-clause-stands
returns-clause-stands g c no_read =
    let limits : Limits = g.B.Naming.boot.limits in
    let journal : List Event = c.args.self.now.desk.journal in
    let names : List Named = c.args.self.now.names in
    let lines : List Gathered = c.args.self.now.batch.lines.items in
    let calls : List Call = c.put_calls.new.self.calls.items in
    let replies : List Reply = c.in_ok-replies.replies.items in
    let same : c.as_slice.result.now ≡ calls = c.as_slice.ensures.value in
    let kept : c.put_calls.new.self.lines.items ≡ lines = ap (λ l. l.items) c.put_calls.ensures.lines in
    asked_by limits c.args.thread journal c.submit_all.new.self.journal names c.tell.new.names lines c.args.answers.now c.tell.new.answers
    calls replies no_read c.in_ok-put_calls.ensures.calls
    (c.in_ok-replies.ensures.replies ∙ ap (λ (cs : List Call). replies_to (state_of limits journal) (by c.args.thread cs)) same)
    (c.in_ok-replies.ensures.journal ∙ ap (with_calls limits c.args.thread journal) same)
    (c.in_ok-tell.ensures journal
    ∙ (λ i. tell_with (map waiting_in (kept i)) replies (stand journal names [] c.args.answers.now)))
