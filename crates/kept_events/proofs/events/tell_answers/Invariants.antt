use Rattle.std.proofs.Common.{◌≡◌, ◌++◌, take, vec_capacity}
use Rattle.kernel_rules.specs.Events.{answers}
use Rattle.kept_events.proofs.events.tell_answers.Given as goal

abbrev pub invariant-loop-place : goal.invariant-loop-place
invariant-loop-place l =
    (l.all.items ≡ l.fn.all.items ++ take l.place (answers l.calls l.replies)) × (vec_capacity l.all ≡ vec_capacity l.fn.all)
