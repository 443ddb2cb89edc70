use Rattle.std.proofs.Common.{◌≡◌, ◌+◌, ℕ, take}
use Rattle.std.specs.BTreeMap.{get}
use Rattle.std.specs.Option.{unwrap_or}
use Rattle.std.specs.Ordering.{nat_cmp}
use Rattle.checkpoints.specs.Starts.{number_of}
use Rattle.auditor.proofs.starts.counts_of.Given as goal

abbrev pub invariant-loop-numbered : goal.invariant-loop-numbered
invariant-loop-numbered l =
    (t : ℕ) → unwrap_or (get nat_cmp l.counts t) 0 + 1 ≡ number_of (take l.numbered-index l.next) t
