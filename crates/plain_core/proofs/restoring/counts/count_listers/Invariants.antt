use Rattle.std.proofs.Common.{◌≡◌, ℕ, true, List, ◌++◌, sum_by, cond}
use Rattle.std.specs.List.{list_all}
use Rattle.base.specs.Live.{has}
use Rattle.kernel_rules.specs.State.{listed, lists_of}
use Rattle.kernel_rules.specs.WellFormed.{is_distinct}
use Rattle.kernel_rules.specs.declared.objects.Object.{Object}
use Rattle.plain_core.specs.Counted.{count_in, capped}
use Rattle.plain_core.proofs.restoring.counts.count_listers.Given as goal

abbrev pub invariant-loop-object : goal.invariant-loop-object
invariant-loop-object l =
    (done : List (ℕ × Object)) × (done ++ l.object-iterator ≡ l.records.objects.entries)
    × (list_all (λ (e : ℕ × Object). is_distinct (listed e.1.body)) done ≡ true)
    × ((q : ℕ) → count_in l.counts q ≡ capped (sum_by (λ e. cond (has e.1 q) 1 0) (lists_of done)))
