use Rattle.std.proofs.Common.{◌≡◌, ◌<◌, ◌≤◌, ℕ, true, length, drop}
use Rattle.std.specs.List.{list_all}
use Rattle.std.specs.Option.{unwrap_or}
use Rattle.std.specs.Ordering.{nat_cmp}
use Rattle.std.specs.BTreeMap.{get}
use Rattle.checkpoints.specs.Starts.{number_of}
use Rattle.logged_kernel.specs.Numbers.{is_noted}
use Rattle.logged_kernel.proofs.numbers.noted_first.Given as goal

abbrev pub invariant-loop-place : goal.invariant-loop-place
invariant-loop-place l = record {
  within : l.place ≤ length l.first;
  value : (t : ℕ) → t < l.next_id → unwrap_or (get nat_cmp l.numbers t) 1 ≡ number_of (drop l.place l.first) t;
  noted : list_all (is_noted l.next_id) l.numbers.entries ≡ true;
}

abbrev pub decreases-loop-place : goal.decreases-loop-place
decreases-loop-place l = l.place
