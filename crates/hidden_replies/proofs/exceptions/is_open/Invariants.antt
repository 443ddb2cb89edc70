use Rattle.std.proofs.Common.{◌≡◌, ℕ}
use Rattle.std.specs.List.{list_all}
use Rattle.hidden_replies.specs.Exceptions.{hides_none}
use Rattle.kernel_rules.specs.declared.objects.Object.{Object}
use Rattle.plain_state.specs.StateOf.{state_of}
use Rattle.hidden_replies.proofs.exceptions.is_open.Given as goal

abbrev pub invariant-loop-object : goal.invariant-loop-object
invariant-loop-object l =
    list_all (λ (e : ℕ × Object). hides_none l.label (state_of l.state) e.1) (state_of l.state).objects
    ≡ list_all (λ (e : ℕ × Object). hides_none l.label (state_of l.state) e.1) l.object-iterator
