use Rattle.std.proofs.Common.{ℕ, map, sym, subst, nat_cmp, List}
use Rattle.std.specs.List.Sorted.{IsStrictlySortedBy}
use Rattle.std.specs.Map.{keys_of}
use Rattle.checkpoints.specs.declared.checkpoints.NextNumber.{NextNumber}
use Rattle.plain_core.proofs.NumberLaws.{rise_from, all_left}
use Rattle.plain_core.proofs.restoring.numbers.listed.Goals as goal

pub returns-clause-rise : goal.returns-clause-rise
returns-clause-rise c =
    rise_from c.loop-thread.next.items
    (subst (λ (es : List (ℕ × ℕ)). IsStrictlySortedBy nat_cmp (keys_of es))
    (sym (all_left (map {B = ℕ × ℕ} (λ (n : NextNumber). (n.thread, n.number)) c.loop-thread.next.items)
    c.loop-thread.thread-iterator c.args.numbers.now.entries c.loop-thread.invariant c.in-None.ensures.steps.0))
    c.iter-thread-items.ensures.ordered)
