-- The state that a checkpoint writes down: labels as they are written, each mapping in its slot.
use Rattle.std.specs.Prelude.{ℕ, Bool, false, List, [], ◌∷◌, map, replicate, slice_set, Option, Some, None}
use Rattle.base.specs.declared.ranges.Limits.{Limits}
use Rattle.label_lattice.specs.Label.{LabelValue}
use Rattle.label_lattice.specs.declared.raw_labels.RawLabel.{RawLabel}
use Rattle.kernel_rules.specs.Sizes.{most_bytes, slot_count}
use Rattle.kernel_rules.specs.State.{State}
use Rattle.kernel_rules.specs.declared.objects.Mapping.{Mapping}
use Rattle.kernel_rules.specs.declared.objects.Object.{Object}
use Rattle.kernel_rules.specs.declared.objects.Body as body
use Rattle.kernel_rules.specs.declared.objects.Body.TheVariants as is
use Rattle.checkpoints.specs.Checkpoint.{Checkpoint}
use Rattle.checkpoints.specs.declared.slot_lists.FilledSlot.{FilledSlot}
use Rattle.checkpoints.specs.declared.checkpoints.RawObject.{RawObject}
use Rattle.checkpoints.specs.declared.checkpoints.RawBody as raw_body
use Rattle.checkpoints.specs.declared.checkpoints.RawBody.TheVariants as raw

-- the label as it is written
abbrev pub as_written : RawLabel → LabelValue
as_written l = record { default_level = l.default; exceptions = l.pairs }

-- the sixteen slots, of which these are filled
abbrev pub slotted : List FilledSlot → List (Option Mapping)
slotted [] = replicate slot_count None
slotted (f ∷ fs) = slice_set (slotted fs) f.slot (Some f.mapping)

-- the body as it is written
abbrev pub body_of : raw_body.RawBody → body.Body
body_of (raw.Container marks avoid list) = is.Container avoid list
body_of (raw.Segment marks bytes) = is.Segment bytes
body_of (raw.AddressSpace marks filled) = is.AddressSpace (record { slots = slotted filled })
body_of (raw.Thread t) = is.Thread (record {
  clearance = as_written t.clearance;
  verify = as_written t.verify;
  space = t.space;
  entry_point = t.entry_point;
  closure = t.closure;
})
body_of (raw.Gate marks g) = is.Gate (record {
  clearance = as_written g.clearance;
  space = g.space;
  entry_point = g.entry_point;
  closure = g.closure;
})
body_of (raw.Device metadata packets) = is.Device packets

-- whether it is read-only for good, which no thread or device is
abbrev pub immutable_of : raw_body.RawBody → Bool
immutable_of (raw.Container marks avoid list) = marks.immutable
immutable_of (raw.Segment marks bytes) = marks.immutable
immutable_of (raw.AddressSpace marks filled) = marks.immutable
immutable_of (raw.Thread t) = false
immutable_of (raw.Gate marks g) = marks.immutable
immutable_of (raw.Device metadata packets) = false

-- its metadata, which are a thread's never set
abbrev pub metadata_of : raw_body.RawBody → List ℕ
metadata_of (raw.Container marks avoid list) = marks.metadata
metadata_of (raw.Segment marks bytes) = marks.metadata
metadata_of (raw.AddressSpace marks filled) = marks.metadata
metadata_of (raw.Thread t) = replicate most_bytes 0
metadata_of (raw.Gate marks g) = marks.metadata
metadata_of (raw.Device metadata packets) = metadata

-- the object as it is written
abbrev pub object_of : RawObject → Object
object_of x = record {
  label = as_written x.label;
  quota = x.quota;
  fixed = x.fixed;
  immutable = immutable_of x.body;
  metadata = metadata_of x.body;
  body = body_of x.body;
}

-- the state
abbrev pub restored : Limits → Checkpoint → State
restored limits c = record {
  limits = limits;
  objects = map (λ e. (e.id, object_of e.object)) c.objects;
  next_id = c.next_id;
  next_category = c.next_category;
}
