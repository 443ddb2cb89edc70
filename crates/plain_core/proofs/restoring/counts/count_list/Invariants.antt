use Rattle.std.proofs.Common.{◌≡◌, ℕ, take, cond}
use Rattle.base.specs.Live.{has}
use Rattle.plain_core.specs.Counted.{count_in, one_more}
use Rattle.plain_core.proofs.restoring.counts.count_list.Given as goal

abbrev pub invariant-loop-id : goal.invariant-loop-id
invariant-loop-id l =
    (q : ℕ) → count_in l.counts q
    ≡ cond (has (take l.id-index l.ids) q) (one_more (count_in l.fn.counts q)) (count_in l.fn.counts q)
