-- How an object is assembled from what its slot keeps, what it lists, and the stored labels.
use Rattle.std.specs.Prelude.{ℕ, ◌+◌, ◌*◌, false, List, [], map, Option, Some, None, replicate}
use Rattle.std.specs.Prelude.{slice_index_or, sum_by}
use Rattle.label_intern.specs.declared.held.Held.{Held}
use Rattle.label_intern.specs.Held.{label_of}
use Rattle.label_intern.specs.Owners.{one_at}
use Rattle.kernel_rules.specs.declared.calls.Entry.{Entry}
use Rattle.kernel_rules.specs.declared.objects.Object.{Object}
use Rattle.kernel_rules.specs.declared.objects.Body as body
use Rattle.kernel_rules.specs.declared.objects.Body.TheVariants as is
use Rattle.kernel_rules.specs.State.{State}
use Rattle.arena_state.specs.declared.records.Record.{Record}
use Rattle.arena_state.specs.declared.records.KeptThread.{KeptThread}
use Rattle.arena_state.specs.declared.records.Kept as kept
use Rattle.arena_state.specs.declared.records.Kept.TheVariants as keeps
use Rattle.arena_state.specs.declared.holdings.Holdings.{Holdings}
use Rattle.arena_state.specs.declared.pieces.Pieces.{Pieces}
use Rattle.arena_state.specs.Rows.{Row, rows_of}

-- the record that stands for none
abbrev pub blank : Record
blank = record {
  label = record { 0 = 0 };
  quota = 0;
  fixed = false;
  immutable = false;
  metadata = [];
  body = keeps.Device;
}

-- the record of a slot
abbrev pub record_in : List Record → ℕ → Record
record_in records slot = slice_index_or records slot blank

-- what an object holds by its kind; the bytes of a segment are 0, the slots of an address space
-- empty, and a device has no packet
abbrev pub body_of : List (Option Held) → kept.Kept → List ℕ → body.Body
body_of labels (keeps.Container avoid used) list = is.Container avoid list
body_of labels (keeps.Segment pages) list = is.Segment (replicate (256 * pages) 0)
body_of labels keeps.AddressSpace list =
    is.AddressSpace (record { slots = replicate 16 None })
body_of labels (keeps.Thread t) list = is.Thread (record {
  clearance = label_of labels t.clearance.0;
  verify = label_of labels t.verify.0;
  space = t.space;
  entry_point = t.entry_point;
  closure = t.closure;
})
body_of labels (keeps.Gate g) list = is.Gate (record {
  clearance = label_of labels g.clearance.0;
  space = g.space;
  entry_point = g.entry_point;
  closure = g.closure;
})
body_of labels keeps.Device list = is.Device []

-- the object of a record that lists these ids
abbrev pub assembled : List (Option Held) → Record → List ℕ → Object
assembled labels r list = record {
  label = label_of labels r.label.0;
  quota = r.quota;
  fixed = r.fixed;
  immutable = r.immutable;
  metadata = r.metadata;
  body = body_of labels r.body list;
}

-- the object of a row
abbrev pub object_in : Holdings → Row → Object
object_in h row = assembled h.labels (record_in h.records.items row.slot) row.list

-- the objects of rows
abbrev pub objects_in : Holdings → List (ℕ × Row) → List (ℕ × Object)
objects_in h rows = map (λ e. (e.0, object_in h e.1)) rows

-- the state that the pieces are
abbrev pub pieces_state : Pieces → State
pieces_state p = record {
  limits = p.limits;
  objects = objects_in p.holdings (rows_of p.places.lists p.places.slots);
  next_id = p.next_id;
  next_category = p.next_category;
}

-- how often a body owns the label of an index
abbrev pub body_claims : ℕ → kept.Kept → ℕ
body_claims i (keeps.Container avoid used) = 0
body_claims i (keeps.Segment pages) = 0
body_claims i keeps.AddressSpace = 0
body_claims i (keeps.Thread t) = one_at i t.clearance.0 + one_at i t.verify.0
body_claims i (keeps.Gate g) = one_at i g.clearance.0
body_claims i keeps.Device = 0

-- how often a record owns the label of an index
abbrev pub claims : ℕ → Record → ℕ
claims i r = one_at i r.label.0 + body_claims i r.body

-- how often the records of these slots own the label of an index
abbrev pub claims_in : List Record → List ℕ → ℕ → ℕ
claims_in records slots i = sum_by (λ s. claims i (record_in records s)) slots

-- what is kept of the use of a body
abbrev pub body_use : kept.Kept → ℕ
body_use (keeps.Container avoid used) = used
body_use (keeps.Segment pages) = 1 + pages
body_use keeps.AddressSpace = 1
body_use (keeps.Thread t) = 1
body_use (keeps.Gate g) = 1
body_use keeps.Device = 2

-- what is kept of the use of a record, 0 where there is none
abbrev pub use_in : List Record → Option Row → ℕ
use_in records None = 0
use_in records (Some row) = body_use (record_in records row.slot).body

-- a body with another kept use
abbrev pub reuse : ℕ → kept.Kept → kept.Kept
reuse n (keeps.Container avoid used) = keeps.Container avoid n
reuse n (keeps.Segment pages) = keeps.Segment pages
reuse n keeps.AddressSpace = keeps.AddressSpace
reuse n (keeps.Thread t) = keeps.Thread t
reuse n (keeps.Gate g) = keeps.Gate g
reuse n keeps.Device = keeps.Device

-- a record with another kept use
abbrev pub with_use : ℕ → Record → Record
with_use n r = record r { body = reuse n r.body }

-- a record with another quota
abbrev pub with_quota : ℕ → Record → Record
with_quota n r = record r { quota = n }

-- a new record: nothing fixed, not immutable, its metadata 64 bytes of 0
abbrev pub fresh_record : ℕ → ℕ → kept.Kept → Record
fresh_record label quota body = record {
  label = record { 0 = label };
  quota = quota;
  fixed = false;
  immutable = false;
  metadata = replicate 64 0;
  body = body;
}

-- a body of another address space, where it is a thread's
abbrev pub respaced : Entry → kept.Kept → kept.Kept
respaced e (keeps.Container avoid used) = keeps.Container avoid used
respaced e (keeps.Segment pages) = keeps.Segment pages
respaced e keeps.AddressSpace = keeps.AddressSpace
respaced e (keeps.Thread t) = keeps.Thread (record t { space = e })
respaced e (keeps.Gate g) = keeps.Gate g
respaced e keeps.Device = keeps.Device

-- a record of another address space, where it is a thread's
abbrev pub with_space : Entry → Record → Record
with_space e r = record r { body = respaced e r.body }

-- a new thread, which has no address space
abbrev pub fresh_thread : ℕ → ℕ → ℕ → KeptThread
fresh_thread clearance verify entry_point = record {
  clearance = record { 0 = clearance };
  verify = record { 0 = verify };
  space = record { container = 0; object = 0 };
  entry_point = entry_point;
  closure = 0;
}

-- a body of another clearance, by its index, where it is a thread's
abbrev pub recleared : ℕ → kept.Kept → kept.Kept
recleared n (keeps.Container avoid used) = keeps.Container avoid used
recleared n (keeps.Segment pages) = keeps.Segment pages
recleared n keeps.AddressSpace = keeps.AddressSpace
recleared n (keeps.Thread t) = keeps.Thread (record t { clearance = record { 0 = n } })
recleared n (keeps.Gate g) = keeps.Gate g
recleared n keeps.Device = keeps.Device

-- a record of another clearance, where it is a thread's
abbrev pub with_clearance : ℕ → Record → Record
with_clearance n r = record r { body = recleared n r.body }

-- a record of another label that is this thread's
abbrev pub with_thread : ℕ → KeptThread → Record → Record
with_thread label t r = record r { label = record { 0 = label }; body = keeps.Thread t }
