-- The write calls that records ask for: none where a number, the bytes or a label are malformed.
use Rattle.std.specs.Prelude.{List, [], ◌∷◌, Option, Some, None, option_map, slice_get}
use Rattle.std.specs.Option.{option_and_then}
use Rattle.kernel_rules.specs.declared.calls.Call.{Call}
use Rattle.kernel_rules.specs.declared.calls.Call.TheVariants as calls
use Rattle.call_records.specs.declared.records.Request.{Request}
use Rattle.call_records.specs.Labels.{label_of}
use Rattle.call_records.specs.Maybe.{map2, map3, map5}
use Rattle.call_records.specs.Words.{entry_of, other_of, wide_at, number_at, signed_at, kinds_of}
use Rattle.call_records.specs.Words.{rights_of, bytes_of}

abbrev pub cat_create : Request → Option Call
cat_create r = Some calls.CatCreate

abbrev pub self_set_label : Request → Option Call
self_set_label r = option_map calls.SelfSetLabel (label_of r.label)

abbrev pub self_set_clearance : Request → Option Call
self_set_clearance r = option_map calls.SelfSetClearance (label_of r.clearance)

abbrev pub self_set_as : Request → Option Call
self_set_as r = Some (calls.SelfSetAs (entry_of r))

abbrev pub container_create : Request → Option Call
container_create r =
    map3 (λ label quota avoid. calls.ContainerCreate (record {
      container = r.container;
      label = label;
      quota = quota;
      avoid = avoid;
    })) (label_of r.label) (number_at r 0) (kinds_of (wide_at r 1))

abbrev pub segment_create : Request → Option Call
segment_create r =
    map3 (λ label quota pages. calls.SegmentCreate (record {
      container = r.container;
      label = label;
      quota = quota;
      pages = pages;
    })) (label_of r.label) (number_at r 0) (number_at r 1)

abbrev pub segment_copy : Request → Option Call
segment_copy r =
    map2 (λ label quota. calls.SegmentCopy (record {
      container = r.container;
      label = label;
      quota = quota;
      source = other_of r;
    })) (label_of r.label) (number_at r 0)

abbrev pub as_create : Request → Option Call
as_create r =
    map2 (λ label quota. calls.AsCreate (record {
      container = r.container;
      label = label;
      quota = quota;
    })) (label_of r.label) (number_at r 0)

abbrev pub thread_create : Request → Option Call
thread_create r =
    map3 (λ label quota clearance. calls.ThreadCreate (record {
      container = r.container;
      label = label;
      quota = quota;
      clearance = clearance;
      entry_point = wide_at r 1;
    })) (label_of r.label) (number_at r 0) (label_of r.clearance)

abbrev pub gate_create : Request → Option Call
gate_create r =
    map3 (λ label quota clearance. calls.GateCreate (record {
      container = r.container;
      label = label;
      quota = quota;
      clearance = clearance;
      space = other_of r;
      entry_point = wide_at r 1;
      closure = wide_at r 2;
    })) (label_of r.label) (number_at r 0) (label_of r.clearance)

-- the target is the container of the second entry
abbrev pub link : Request → Option Call
link r = Some (calls.Link r.other_container (entry_of r))

abbrev pub unref : Request → Option Call
unref r = Some (calls.Unref (entry_of r))

abbrev pub quota_move : Request → Option Call
quota_move r = option_map (calls.QuotaMove (entry_of r)) (signed_at r 0)

abbrev pub set_fixed : Request → Option Call
set_fixed r = Some (calls.SetFixed (entry_of r))

abbrev pub set_immutable : Request → Option Call
set_immutable r = Some (calls.SetImmutable (entry_of r))

abbrev pub meta_set : Request → Option Call
meta_set r = option_map (calls.MetaSet (entry_of r)) (bytes_of r)

abbrev pub segment_resize : Request → Option Call
segment_resize r = option_map (calls.SegmentResize (entry_of r)) (number_at r 0)

abbrev pub segment_write : Request → Option Call
segment_write r = map2 (calls.SegmentWrite (entry_of r)) (number_at r 0) (bytes_of r)

abbrev pub as_map : Request → Option Call
as_map r =
    map5 (λ slot page first count rights. calls.AsMap (entry_of r) slot (record {
      page = page;
      entry = other_of r;
      first = first;
      count = count;
      rights = rights;
    })) (number_at r 0) (number_at r 1) (number_at r 2) (number_at r 3) (rights_of (wide_at r 4))

abbrev pub as_unmap : Request → Option Call
as_unmap r = option_map (calls.AsUnmap (entry_of r)) (number_at r 0)

abbrev pub store : Request → Option Call
store r = option_map (calls.Store (wide_at r 0)) (bytes_of r)

abbrev pub gate_enter : Request → Option Call
gate_enter r =
    map3 (calls.GateEnter (entry_of r)) (label_of r.label) (label_of r.clearance) (label_of r.verify)

abbrev pub dev_send : Request → Option Call
dev_send r = option_map (calls.DevSend (entry_of r)) (bytes_of r)

abbrev pub dev_recv : Request → Option Call
dev_recv r = Some (calls.DevRecv (entry_of r))

-- the write calls by their numbers, from 1
abbrev pub all : List (Request → Option Call)
all =
    (λ r. None) ∷ cat_create ∷ self_set_label ∷ self_set_clearance ∷ self_set_as ∷ container_create
    ∷ segment_create ∷ segment_copy ∷ as_create ∷ thread_create ∷ gate_create ∷ link ∷ unref
    ∷ quota_move ∷ set_fixed ∷ set_immutable ∷ meta_set ∷ segment_resize ∷ segment_write ∷ as_map
    ∷ as_unmap ∷ store ∷ gate_enter ∷ dev_send ∷ dev_recv ∷ []

-- the write call that a record asks for
abbrev pub call_of : Request → Option Call
call_of r = option_and_then (λ asks. asks r) (slice_get all r.call)
