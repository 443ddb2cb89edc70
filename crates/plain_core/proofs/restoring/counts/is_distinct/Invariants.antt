use Rattle.std.proofs.Common.{◌≡◌, ℕ, true, take}
use Rattle.std.specs.Ordering.{nat_cmp}
use Rattle.std.specs.BTreeSet.{contains}
use Rattle.base.specs.Live.{has}
use Rattle.kernel_rules.specs.WellFormed.{is_distinct}
use Rattle.plain_core.proofs.restoring.counts.is_distinct.Given as goal

abbrev pub invariant-loop-id : goal.invariant-loop-id
invariant-loop-id l =
    ((q : ℕ) → contains nat_cmp l.seen q ≡ has (take l.id-index l.ids) q)
    × (is_distinct (take l.id-index l.ids) ≡ true)
