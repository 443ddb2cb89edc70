use Rattle.std.proofs.Common.{◌≡◌, ℕ, true, map, ◌++◌}
use Rattle.std.specs.List.{list_all}
use Rattle.kernel_rules.specs.declared.objects.Object.{Object}
use Rattle.checkpoints.specs.Restorable.{has_slots, filled_in}
use Rattle.checkpoints.specs.Restored.{object_of}
use Rattle.checkpoints.specs.declared.checkpoints.Recorded.{Recorded}
use Rattle.plain_core.proofs.restoring.writing.written_objects.Given as goal

abbrev pub invariant-loop-id : goal.invariant-loop-id
invariant-loop-id l =
    (map {B = ℕ × Object} (λ (e : Recorded). (e.id, object_of e.object)) l.all.items ++ l.id-iterator
    ≡ l.objects.entries)
    × (list_all (λ (e : Recorded). has_slots (filled_in e.object.body)) l.all.items ≡ true)
