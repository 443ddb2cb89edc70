use Rattle.std.proofs.Common.{◌≡◌, true, take, map}
use Rattle.std.specs.List.{list_all}
use Rattle.checkpoints.specs.Restored.{object_of}
use Rattle.checkpoints.specs.declared.checkpoints.Recorded.{Recorded}
use Rattle.plain_core.specs.Written.{is_written}
use Rattle.plain_core.proofs.restoring.building.objects_of.Given as goal

abbrev pub invariant-loop-recorded : goal.invariant-loop-recorded
invariant-loop-recorded l =
    (l.built.entries ≡ map (λ (e : Recorded). (e.id, object_of e.object)) (take l.recorded-index l.objects))
    × (list_all (λ (e : Recorded). is_written e.object) (take l.recorded-index l.objects) ≡ true)
