-- What a restorable checkpoint's state has to meet, and what the checkpoint as it is written.
use Rattle.std.specs.Prelude.{Bool, ◌&&◌, nat_lt, map}
use Rattle.std.specs.List.{list_all}
use Rattle.kernel_rules.specs.State.{State}
use Rattle.kernel_rules.specs.WellFormed.{ids_rise}
use Rattle.checkpoints.specs.Restorable.{each, has_root, names_given, is_made_below, has_counters, is_starless}
use Rattle.checkpoints.specs.Restorable.{lists_rightly, maps_rightly, names_kinds, is_whole_entry, spaces_in}
use Rattle.checkpoints.specs.Restorable.{is_ordered}
use Rattle.checkpoints.specs.Restored.{object_of}
use Rattle.checkpoints.specs.Checkpoint.{Checkpoint}

-- the conditions on the state but that it is well formed
abbrev pub holds : State → Bool
holds s =
    has_root s.limits s && each (names_given s.next_id) s && each (is_made_below s.next_category) s
    && has_counters s.limits s && each is_starless s && each (lists_rightly s) s && each maps_rightly s
    && each (names_kinds s) s && each (λ x. list_all is_whole_entry (spaces_in x.body)) s

-- the conditions on what is written, with rising ids
abbrev pub is_written_rightly : Checkpoint → Bool
is_written_rightly c =
    is_ordered c && ids_rise (map (λ e. (e.id, object_of e.object)) c.objects)
    && list_all (λ n. nat_lt n.thread c.next_id) c.next
