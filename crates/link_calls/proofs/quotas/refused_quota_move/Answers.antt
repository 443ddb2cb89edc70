use Rattle.std.proofs.Common.{rules, ◌≡◌, to_z, of_z, w32}
use Rattle.std.proofs.lemmas.Int.{to_z-of_z}
use Rattle.kernel_rules.specs.Table.{refused}
use Rattle.link_calls.proofs.quotas.refused_quota_move.Goals as goal

pub returns-clause-value : goal.returns-clause-value
unfolding refused
returns-clause-value g c =
    let passed : to_z w32 (of_z w32 c.args.change) ≡ c.args.change =
    to_z-of_z w32 c.args.change c.ranges.change in
    let unseen = rw passed at c.observed_to_go_down.ensures in
    let without_room = rw passed at c.is_without_room-without_room.ensures in
    search rules
