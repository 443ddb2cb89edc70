-- The call that is kept in a form.
use Rattle.kernel_rules.specs.declared.calls.Call.{Call}
use Rattle.kernel_rules.specs.declared.calls.Call.TheVariants as call
use Rattle.kept_events.specs.declared.calls.Form.{Form}
use Rattle.kept_events.specs.declared.calls.Form.TheVariants as form
use Rattle.kept_events.specs.declared.calls.Labelled.{Labelled}
use Rattle.kept_events.specs.declared.calls.Labelled.TheVariants as labelled
use Rattle.kept_events.specs.declared.calls.Unlabelled.{Unlabelled}
use Rattle.kept_events.specs.declared.calls.Unlabelled.TheVariants as kept

-- of the same name
abbrev pub call_of : Unlabelled → Call
call_of kept.CatCreate = call.CatCreate
call_of (kept.SelfSetAs space) = call.SelfSetAs space
call_of (kept.Link target entry) = call.Link target entry
call_of (kept.Unref entry) = call.Unref entry
call_of (kept.QuotaMove entry change) = call.QuotaMove entry change
call_of (kept.SetFixed entry) = call.SetFixed entry
call_of (kept.SetImmutable entry) = call.SetImmutable entry
call_of (kept.MetaSet entry bytes) = call.MetaSet entry bytes
call_of (kept.SegmentResize entry pages) = call.SegmentResize entry pages
call_of (kept.SegmentWrite entry offset bytes) = call.SegmentWrite entry offset bytes
call_of (kept.AsMap space slot mapping) = call.AsMap space slot mapping
call_of (kept.AsUnmap space slot) = call.AsUnmap space slot
call_of (kept.Store address bytes) = call.Store address bytes
call_of (kept.DevSend entry bytes) = call.DevSend entry bytes
call_of (kept.DevRecv entry) = call.DevRecv entry

-- of the same name, with the same label
abbrev pub labelled_call : Labelled → Call
labelled_call (labelled.SelfSetLabel label) = call.SelfSetLabel label
labelled_call (labelled.SelfSetClearance clearance) = call.SelfSetClearance clearance
labelled_call (labelled.ContainerCreate container label quota avoid) = call.ContainerCreate (record {
  container = container;
  label = label;
  quota = quota;
  avoid = avoid;
})
labelled_call (labelled.SegmentCreate container label quota pages) = call.SegmentCreate (record {
  container = container;
  label = label;
  quota = quota;
  pages = pages;
})
labelled_call (labelled.SegmentCopy container label quota source) = call.SegmentCopy (record {
  container = container;
  label = label;
  quota = quota;
  source = source;
})
labelled_call (labelled.AsCreate container label quota) = call.AsCreate (record {
  container = container;
  label = label;
  quota = quota;
})

abbrev pub formed : Form → Call
formed (form.Unlabelled unlabelled) = call_of unlabelled
formed (form.Labelled labelled) = labelled_call labelled
formed (form.Whole apart) = apart.value
