-- Which objects can be built as they are written.
use Rattle.std.specs.Prelude.{Bool, true, ◌&&◌}
use Rattle.kernel_rules.specs.WellFormed.{is_stored}
use Rattle.checkpoints.specs.Restorable.{has_slots}
use Rattle.checkpoints.specs.Restored.{as_written}
use Rattle.checkpoints.specs.declared.checkpoints.RawBody as raw_body
use Rattle.checkpoints.specs.declared.checkpoints.RawBody.TheVariants as raw
use Rattle.checkpoints.specs.declared.checkpoints.RawObject.{RawObject}

-- its labels are written as stored ones, and its slots rise up to 15
abbrev pub is_written_body : raw_body.RawBody → Bool
is_written_body (raw.AddressSpace marks filled) = has_slots filled
is_written_body (raw.Thread t) = is_stored (as_written t.clearance) && is_stored (as_written t.verify)
is_written_body (raw.Gate marks g) = is_stored (as_written g.clearance)
is_written_body (raw.Container marks avoid list) = true
is_written_body (raw.Segment marks bytes) = true
is_written_body (raw.Device metadata packets) = true

abbrev pub is_written : RawObject → Bool
is_written x = is_stored (as_written x.label) && is_written_body x.body
