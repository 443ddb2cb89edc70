use Rattle.std.proofs.Common.{◌≡◌, ◌∙◌, List, [], ap, map}
use Rattle.base.specs.declared.ranges.Limits.{Limits}
use Rattle.kernel_rules.specs.Events.{Event, by}
use Rattle.kernel_rules.specs.History.{state_of}
use Rattle.kernel_rules.specs.Runs.{replies_to}
use Rattle.kernel_rules.specs.declared.calls.Call.{Call}
use Rattle.kernel_rules.specs.declared.replies.Reply.{Reply}
use Rattle.call_text.specs.declared.known_names.Named.{Named}
use Rattle.script_rules.specs.Asking.{with_calls}
use Rattle.script_runner.specs.Turns.{stand, tell_with, waiting_in}
use Rattle.script_runner.specs.declared.batches.Gathered.{Gathered}
use Rattle.script_runner.proofs.LineLaws.{noted_after}
use Rattle.script_runner.proofs.TurnLaws.{asked_by}
use Rattle.script_runner.proofs.workers.Hand.submit_batch.Goals as goal

pub returns-clause-asked : goal.returns-clause-asked
returns-clause-asked g c no_read =
    let limits : Limits = g.B.Naming.boot.limits in
    let names : List Named = c.args.self.now.own in
    let lines : List Gathered = c.args.self.now.batch.lines.items in
    let calls : List Call = c.put_calls.new.self.calls.items in
    let replies : List Reply = c.in_ok-replies.replies.items in
    let made = c.in_ok-replies.ensures in
    let events : List Event = made.0 in
    let same : c.as_slice.result.now ≡ calls = c.as_slice.ensures.value in
    let kept : c.put_calls.new.self.lines.items ≡ lines = ap (λ l. l.items) c.put_calls.ensures.lines in (
      events,
      made.1,
      asked_by limits c.args.desk.now.thread events c.submit_all.new.self.events names c.tell.new.names lines c.args.self.now.answers
          c.tell.new.answers calls replies no_read c.in_ok-put_calls.ensures.calls
          (made.3 ∙ ap (λ (cs : List Call). replies_to (state_of limits events) (by c.args.desk.now.thread cs)) same)
          (ap (λ p. p.events) made.2 ∙ ap (with_calls limits c.args.desk.now.thread events) same)
          (c.in_ok-tell.ensures events
          ∙ (λ i. tell_with (map waiting_in (kept i)) replies (stand events names [] c.args.self.now.answers))),
      noted_after limits c.args.desk.now c.submit_all.new.self events c.as_slice.result.now made.2,
    )
