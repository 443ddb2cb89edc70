use Rattle.std.proofs.Common.{ap, subst, ◌<◌, ◌+◌}
use Rattle.plain_core.proofs.CountLaws.{counted_one}
use Rattle.plain_core.proofs.restoring.counts.count.Goals as goal

pub returns-in_ok-insert : goal.returns-in_ok-insert
returns-in_ok-insert c =
    counted_one c.args.counts.now c.insert.new.self c.args.id (c.counted-before.result + 1) c.in_ok-insert.ensures.updates.0
    (subst (λ n. n < 2) c.counted-before.ensures c.if-before-lt2.true)
    (ap (λ n. n + 1) c.counted-before.ensures)
