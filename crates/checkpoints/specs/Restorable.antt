-- Which checkpoints can be restored.
use Rattle.std.specs.Prelude.{ℕ, Bool, true, false, not, ◌&&◌, ◌||◌, ◌==◌, nat_lt, nat_le, List, [], ◌∷◌}
use Rattle.std.specs.Prelude.{Option, Some, None}
use Rattle.std.specs.List.{list_all, list_any}
use Rattle.base.specs.Limits.{spent}
use Rattle.base.specs.Sets.{has_kind, no_kind}
use Rattle.base.specs.declared.kinds.Kind as kind
use Rattle.base.specs.declared.kinds.Kind.TheVariants as kinds
use Rattle.base.specs.declared.ranges.Limits.{Limits}
use Rattle.base.specs.declared.sets.TypeSet.{TypeSet}
use Rattle.label_lattice.specs.Label.{has_star}
use Rattle.label_lattice.specs.Raw.{all_made}
use Rattle.kernel_rules.specs.Conditions.{meets, is_mapping}
use Rattle.kernel_rules.specs.Scratch.{labels_of}
use Rattle.kernel_rules.specs.Sizes.{last_slot}
use Rattle.kernel_rules.specs.State.{State, object_at, of_object, is_kind, listed}
use Rattle.kernel_rules.specs.State.{kind_of, slots_of}
use Rattle.kernel_rules.specs.Translate.{names_none}
use Rattle.kernel_rules.specs.WellFormed.{is_well_formed}
use Rattle.kernel_rules.specs.declared.calls.Entry.{Entry}
use Rattle.kernel_rules.specs.declared.objects.Mapping.{Mapping}
use Rattle.kernel_rules.specs.declared.objects.Object.{Object}
use Rattle.kernel_rules.specs.declared.objects.Body as body
use Rattle.kernel_rules.specs.declared.objects.Body.TheVariants as is
use Rattle.checkpoints.specs.Restored.{restored}
use Rattle.checkpoints.specs.Checkpoint.{Checkpoint}
use Rattle.checkpoints.specs.declared.slot_lists.FilledSlot.{FilledSlot}
use Rattle.checkpoints.specs.declared.checkpoints.NextNumber.{NextNumber}
use Rattle.checkpoints.specs.declared.checkpoints.RawBody as raw_body
use Rattle.checkpoints.specs.declared.checkpoints.RawBody.TheVariants as raw

-- the test holds of each object
abbrev pub each : (Object → Bool) → State → Bool
each test s = list_all (λ e. test e.1) s.objects

-- a container whose quota is that of the limits
abbrev pub is_root : Limits → Object → Bool
is_root limits x = is_kind kinds.Container x && x.quota == limits.pages

-- the root is one
abbrev pub has_root : Limits → State → Bool
has_root limits s = of_object false (is_root limits) (object_at s 1)

-- the slots rise
abbrev pub slots_rise : List FilledSlot → Bool
slots_rise [] = true
slots_rise (f ∷ fs) = list_all (λ g. nat_lt f.slot g.slot) fs && slots_rise fs

-- they do, and there are slots of these numbers
abbrev pub has_slots : List FilledSlot → Bool
has_slots fs = slots_rise fs && list_all (λ f. nat_le f.slot last_slot) fs

-- the threads rise
abbrev pub threads_rise : List NextNumber → Bool
threads_rise [] = true
threads_rise (n ∷ ns) = list_all (λ m. nat_lt n.thread m.thread) ns && threads_rise ns

-- the slots that a body fills, as they are written
abbrev pub filled_in : raw_body.RawBody → List FilledSlot
filled_in (raw.AddressSpace marks filled) = filled
filled_in (raw.Container marks avoid list) = []
filled_in (raw.Segment marks bytes) = []
filled_in (raw.Thread t) = []
filled_in (raw.Gate marks g) = []
filled_in (raw.Device metadata packets) = []

-- slots rise up to 15, threads rise, no object has the id 0, and each number is from 2
abbrev pub is_ordered : Checkpoint → Bool
is_ordered c =
    list_all (λ e. nat_lt 0 e.id && has_slots (filled_in e.object.body)) c.objects
    && threads_rise c.next && list_all (λ n. nat_le 2 n.number) c.next

-- the entries of these mappings
abbrev pub mapped : List (Option Mapping) → List Entry
mapped [] = []
mapped (None ∷ ms) = mapped ms
mapped (Some m ∷ ms) = m.entry ∷ mapped ms

-- the entry of the address space that a thread or a gate has
abbrev pub spaces_in : body.Body → List Entry
spaces_in (is.Thread t) = t.space ∷ []
spaces_in (is.Gate g) = g.space ∷ []
spaces_in (is.Container avoid list) = []
spaces_in (is.Segment bytes) = []
spaces_in (is.AddressSpace slots) = []
spaces_in (is.Device packets) = []

-- the ids of the entry are below n
abbrev pub is_entry_given : ℕ → Entry → Bool
is_entry_given n e = nat_lt e.container n && nat_lt e.object n

-- the ids that the object's entries name are below n
abbrev pub names_given : ℕ → Object → Bool
names_given n x =
    list_all (is_entry_given n) (mapped (slots_of x.body))
    && list_all (is_entry_given n) (spaces_in x.body)

-- the categories of the object's labels are below n
abbrev pub is_made_below : ℕ → Object → Bool
is_made_below n x = list_all (λ l. all_made n l.exceptions) (labels_of x)

-- both counters are at most 2^61, and at least what the limits give
abbrev pub has_counters : Limits → State → Bool
has_counters limits s =
    nat_le limits.next_id s.next_id && nat_le s.next_id spent
    && nat_le limits.next_category s.next_category && nat_le s.next_category spent

-- whether only threads and gates may have a label with star: no other has one
abbrev pub is_starless : Object → Bool
is_starless x = is_kind kinds.Thread x || is_kind kinds.Gate x || not (has_star x.label)

-- each kind of the first set is in the second
abbrev pub is_within : TypeSet → TypeSet → Bool
is_within a b =
    (not a.container || b.container) && (not a.segment || b.segment)
    && (not a.address_space || b.address_space) && (not a.thread || b.thread)
    && (not a.gate || b.gate) && (not a.device || b.device)

-- what a container avoids
abbrev pub avoid_of : body.Body → TypeSet
avoid_of (is.Container avoid list) = avoid
avoid_of (is.Segment bytes) = no_kind
avoid_of (is.AddressSpace slots) = no_kind
avoid_of (is.Thread t) = no_kind
avoid_of (is.Gate g) = no_kind
avoid_of (is.Device packets) = no_kind

-- a container that avoids these kinds may list the object: it is of another kind, and if it is a
-- container, it avoids these kinds too
abbrev pub may_hold : TypeSet → Object → Bool
may_hold avoid x =
    not (has_kind avoid (kind_of x.body))
    && (not (is_kind kinds.Container x) || is_within avoid (avoid_of x.body))

-- the object lists only what it may list
abbrev pub lists_rightly : State → Object → Bool
lists_rightly s x =
    list_all (λ i. of_object true (may_hold (avoid_of x.body)) (object_at s i)) (listed x.body)

-- a mapping is in its bounds
abbrev pub is_in_bounds : Option Mapping → Bool
is_in_bounds None = true
is_in_bounds (Some m) = is_mapping 0 m

-- no two of the mappings meet
abbrev pub lie_apart : List (Option Mapping) → Bool
lie_apart [] = true
lie_apart (None ∷ ms) = lie_apart ms
lie_apart (Some m ∷ ms) = not (list_any (meets m) ms) && lie_apart ms

-- the mappings are such as calls make: each is in its bounds, and no two of them meet
abbrev pub maps_rightly : Object → Bool
maps_rightly x = list_all is_in_bounds (slots_of x.body) && lie_apart (slots_of x.body)

-- what the entry names is of kind k, if it is recorded
abbrev pub names_kind : State → kind.Kind → Entry → Bool
names_kind s k e = of_object true (is_kind k) (object_at s e.object)

-- mappings name segments, and threads and gates address spaces
abbrev pub names_kinds : State → Object → Bool
names_kinds s x =
    list_all (names_kind s kinds.Segment) (mapped (slots_of x.body))
    && list_all (names_kind s kinds.AddressSpace) (spaces_in x.body)

-- the entry is (0, 0), or has no 0
abbrev pub is_whole_entry : Entry → Bool
is_whole_entry e = names_none e || nat_lt 0 e.container && nat_lt 0 e.object

-- what a checkpoint has to meet. That labels are stored ones, and packets at most 4 of 1 to 64
-- bytes, is part of a well-formed state, and so are rising ids, all below the next one
abbrev pub conditions : Limits → State → Checkpoint → List Bool
conditions limits s c =
    is_well_formed s ∷ has_root limits s
    ∷ is_ordered c
    ∷ each (names_given s.next_id) s ∷ list_all (λ n. nat_lt n.thread s.next_id) c.next
    ∷ each (is_made_below s.next_category) s
    ∷ has_counters limits s
    ∷ each is_starless s
    ∷ each (lists_rightly s) s
    ∷ each maps_rightly s
    ∷ each (names_kinds s) s
    ∷ each (λ x. list_all is_whole_entry (spaces_in x.body)) s ∷ []

-- the checkpoint can be restored
unfoldable pub is_restorable : Limits → Checkpoint → Bool
is_restorable limits c = list_all (λ b. b) (conditions limits (restored limits c) c)
