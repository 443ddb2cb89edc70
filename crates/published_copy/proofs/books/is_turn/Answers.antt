use Rattle.std.proofs.Common.{◌∙◌, length, arith, rules, ◌<◌, ◌+◌, ◌^◌}
use Rattle.kernel_rules.proofs.HistoryLaws.{count_within}
use Rattle.published_copy.proofs.books.is_turn.Goals as goal

pub overflow_add-events_of : goal.overflow_add-events_of
overflow_add-events_of g c =
    let same = c.events_of.ensures ∙ c.requires c.thread.result in
    let within = count_within c.thread.result c.args.journal.now in
    let bound : length c.args.journal.now + 2 < 2 ^ 64 = search rules in
    omega (arith, same, within, bound)

pub returns-then-number-events_of-clause-fits : goal.returns-then-number-events_of-clause-fits
returns-then-number-events_of-clause-fits g c within_seen =
    let same = c.events_of.ensures ∙ c.requires c.thread.result in
    let within = count_within c.thread.result c.args.journal.now in
    let bound : length c.args.journal.now + 2 < 2 ^ 64 = search rules in
    omega (arith, same, within, bound, c.number.ensures, c.if-number-events_of.true)
