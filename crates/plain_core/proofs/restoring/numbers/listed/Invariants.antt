use Rattle.std.proofs.Common.{◌≡◌, ℕ, map, ◌++◌}
use Rattle.checkpoints.specs.declared.checkpoints.NextNumber.{NextNumber}
use Rattle.plain_core.proofs.restoring.numbers.listed.Given as goal

abbrev pub invariant-loop-thread : goal.invariant-loop-thread
invariant-loop-thread l =
    map {B = ℕ × ℕ} (λ (n : NextNumber). (n.thread, n.number)) l.next.items ++ l.thread-iterator
    ≡ l.numbers.entries
