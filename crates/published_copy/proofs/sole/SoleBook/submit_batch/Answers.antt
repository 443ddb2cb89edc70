use Rattle.std.proofs.Common.{◌≡◌, ◌∙◌, ◌++◌, ◌∷◌, [], ap, sym, rules}
use Rattle.kernel_rules.specs.Events.{by}
use Rattle.kernel_rules.specs.History.{state_of}
use Rattle.kernel_rules.specs.Runs.{replies_to}
use Rattle.published_copy.specs.Turns.{event_at, next_turn, with_event}
use Rattle.published_copy.proofs.Batches.{last_room, last_told}
use Rattle.published_copy.proofs.sole.SoleBook.submit_batch.Goals as goal

pub tell_last-requires-clause-room : goal.tell_last-requires-clause-room
tell_last-requires-clause-room g c before e is =
    last_room g.B.Naming.boot.limits c.args.self.now.journal _ before e (next_turn c.args.thread c.args.self.now.journal) c.args.calls.now _ (search rules) is (search rules)

pub returns-clause-receipt : goal.returns-clause-receipt
returns-clause-receipt g c =
    let limits = g.B.Naming.boot.limits in
    let old = c.args.self.now.journal in
    let calls = c.args.calls.now in
    let pass = next_turn c.args.thread old in
    let grown : c.as_slice.result.now ≡ with_event limits old pass calls = search rules in
    let said = c.tell_last.ensures old (event_at (state_of limits old) pass calls) grown in
    (c.batch_receipt.ensures.replies ∙ said ∙ last_told limits old _ old (event_at (state_of limits old) pass calls) pass calls grown grown, search rules, search rules)
