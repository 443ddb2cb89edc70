use Rattle.std.proofs.Common.{◌≡◌, ◌≤◌, ◌*◌, ◌^◌, length, sum_by, take}
use Rattle.kernel_rules.specs.State.{quota_at}
use Rattle.plain_state.specs.Recorded.{records_state}
use Rattle.plain_state.proofs.uses.walked.Given as goal

abbrev pub invariant-loop-id : goal.invariant-loop-id
invariant-loop-id l = record {
  within : l.met ≤ length l.ids;
  sum : l.total ≡ sum_by (quota_at (records_state l.records)) (take l.met l.ids);
  small : l.total ≤ 2 ^ 32 * l.met;
}
