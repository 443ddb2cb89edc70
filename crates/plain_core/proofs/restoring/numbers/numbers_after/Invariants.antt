use Rattle.std.proofs.Common.{◌≡◌, ℕ, ◌+◌, Bool, true, nat_le, take}
use Rattle.std.specs.List.{list_all}
use Rattle.std.specs.Option.{unwrap_or}
use Rattle.std.specs.Ordering.{nat_cmp}
use Rattle.std.specs.BTreeMap.{get}
use Rattle.kernel_rules.specs.Events.{Event}
use Rattle.kernel_rules.specs.History.{count}
use Rattle.plain_core.proofs.restoring.numbers.numbers_after.Given as goal

abbrev pub invariant-loop-event : goal.invariant-loop-event
invariant-loop-event l =
    ((t : ℕ) → unwrap_or (get nat_cmp l.numbers t) 1
    ≡ count t (take l.event-index l.events) + 1)
    × (list_all (λ (e : ℕ × ℕ). nat_le 2 e.1) l.numbers.entries ≡ true)
    × ((test : ℕ → Bool) → list_all (λ (e : Event). test e.thread) (take l.event-index l.events) ≡ true
    → list_all (λ (e : ℕ × ℕ). test e.0) l.numbers.entries ≡ true)
