use Rattle.std.proofs.Common.{◌≡◌, ◌≤◌, ◌+◌, ◌*◌, ◌^◌, sum_by, take}
use Rattle.kernel_rules.specs.State.{quota_at}
use Rattle.plain_state.specs.Recorded.{records_state}
use Rattle.plain_state.proofs.uses.looked_up.Given as goal

abbrev pub invariant-loop-id : goal.invariant-loop-id
invariant-loop-id l =
    (l.total ≡ l.before + sum_by (quota_at (records_state l.records)) (take l.id-index l.ids))
    × (l.total ≤ l.before + 2 ^ 32 * l.id-index)
