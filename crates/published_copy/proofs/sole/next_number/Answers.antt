use Rattle.std.proofs.Common.{◌∙◌, length, arith, rules, ◌<◌, ◌+◌, ◌^◌}
use Rattle.kernel_rules.proofs.HistoryLaws.{count_within}
use Rattle.published_copy.proofs.sole.next_number.Goals as goal

pub overflow_add-result : goal.overflow_add-result
overflow_add-result c =
    let same = c.events_of.ensures ∙ c.requires c.args.thread in
    let within = count_within c.args.thread c.args.journal.now in
    let bound : length c.args.journal.now + 2 < 2 ^ 64 = search rules in
    omega (arith, same, within, bound)
