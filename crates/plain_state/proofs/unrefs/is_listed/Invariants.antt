use Rattle.std.proofs.Common.{◌≡◌}
use Rattle.plain_state.specs.Settled.{is_listed}
use Rattle.plain_state.proofs.unrefs.is_listed.Given as goal

abbrev pub invariant-loop-object : goal.invariant-loop-object
invariant-loop-object l = is_listed l.records.objects.entries l.id ≡ is_listed l.object-iterator l.id
