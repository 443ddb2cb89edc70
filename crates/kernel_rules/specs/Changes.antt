-- How a state changes, one object at a time.
use Rattle.std.specs.Prelude.{ℕ, ◌+◌, ◌-◌, ◌==◌, false, true, not, List, [], ◌∷◌, ◌++◌}
use Rattle.std.specs.Prelude.{replicate, Option}
use Rattle.std.specs.List.{filter}
use Rattle.std.specs.Ordering.{nat_cmp}
use Rattle.std.specs.Map.{set_value}
use Rattle.std.specs.BTreeMap.{insert_entry, is_at}
use Rattle.base.specs.Sets.{union}
use Rattle.base.specs.Padded.{padded}
use Rattle.base.specs.declared.sets.TypeSet.{TypeSet}
use Rattle.label_lattice.specs.Label.{LabelValue}
use Rattle.kernel_rules.specs.Sizes.{most_bytes}
use Rattle.kernel_rules.specs.State.{State, object_at, of_object}
use Rattle.kernel_rules.specs.declared.calls.Entry.{Entry}
use Rattle.kernel_rules.specs.declared.objects.Gate.{Gate}
use Rattle.kernel_rules.specs.declared.objects.Mapping.{Mapping}
use Rattle.kernel_rules.specs.declared.objects.Object.{Object}
use Rattle.kernel_rules.specs.declared.objects.Thread as thread
use Rattle.kernel_rules.specs.declared.objects.Body as body
use Rattle.kernel_rules.specs.declared.objects.Body.TheVariants as is

-- the state with x as the object of o, which has one
abbrev pub put : State → ℕ → Object → State
put s o x = record s { objects = set_value (is_at (nat_cmp o)) s.objects x }

-- the state with the object of o changed, if there is one
abbrev pub changed : State → ℕ → (Object → Object) → State
changed s o f = of_object s (λ x. put s o (f x)) (object_at s o)

-- the object with its body changed
abbrev pub with_body : (body.Body → body.Body) → Object → Object
with_body f x = record x { body = f x.body }

-- a container with another list
abbrev pub relist : (List ℕ → List ℕ) → body.Body → body.Body
relist f (is.Container avoid list) = is.Container avoid (f list)
relist f (is.Segment bytes) = is.Segment bytes
relist f (is.AddressSpace slots) = is.AddressSpace slots
relist f (is.Thread t) = is.Thread t
relist f (is.Gate g) = is.Gate g
relist f (is.Device packets) = is.Device packets

-- a segment with other bytes
abbrev pub rebyte : (List ℕ → List ℕ) → body.Body → body.Body
rebyte f (is.Segment bytes) = is.Segment (f bytes)
rebyte f (is.Container avoid list) = is.Container avoid list
rebyte f (is.AddressSpace slots) = is.AddressSpace slots
rebyte f (is.Thread t) = is.Thread t
rebyte f (is.Gate g) = is.Gate g
rebyte f (is.Device packets) = is.Device packets

-- a thread with other fields
abbrev pub rethread : (thread.Thread → thread.Thread) → body.Body → body.Body
rethread f (is.Thread t) = is.Thread (f t)
rethread f (is.Container avoid list) = is.Container avoid list
rethread f (is.Segment bytes) = is.Segment bytes
rethread f (is.AddressSpace slots) = is.AddressSpace slots
rethread f (is.Gate g) = is.Gate g
rethread f (is.Device packets) = is.Device packets

-- an address space with other slots
abbrev pub reslot : (List (Option Mapping) → List (Option Mapping)) → body.Body → body.Body
reslot f (is.AddressSpace slots) = is.AddressSpace (record { slots = f slots.slots })
reslot f (is.Container avoid list) = is.Container avoid list
reslot f (is.Segment bytes) = is.Segment bytes
reslot f (is.Thread t) = is.Thread t
reslot f (is.Gate g) = is.Gate g
reslot f (is.Device packets) = is.Device packets

-- a device with other packets
abbrev pub requeue : (List (List ℕ) → List (List ℕ)) → body.Body → body.Body
requeue f (is.Device packets) = is.Device (f packets)
requeue f (is.Container avoid list) = is.Container avoid list
requeue f (is.Segment bytes) = is.Segment bytes
requeue f (is.AddressSpace slots) = is.AddressSpace slots
requeue f (is.Thread t) = is.Thread t
requeue f (is.Gate g) = is.Gate g

-- the list without an id
abbrev pub without : ℕ → List ℕ → List ℕ
without o ids = filter (λ i. not (o == i)) ids

-- as many bytes as metadata has, of which these are the first and the others 0
abbrev pub padded_data : List ℕ → List ℕ
padded_data bytes = padded most_bytes 0 bytes

-- the thread with this label
abbrev pub labelled : LabelValue → Object → Object
labelled l x = record x { label = l }

-- the thread with this clearance
abbrev pub cleared : LabelValue → Object → Object
cleared c = with_body (rethread (λ t. record t { clearance = c }))

-- the thread with this address space
abbrev pub spaced : Entry → Object → Object
spaced e = with_body (rethread (λ t. record t { space = e }))

-- the thread that entered a gate with these labels: it has them, and what the gate hands on
abbrev pub entered : LabelValue → LabelValue → LabelValue → Gate → Object → Object
entered l c v gate x = record x {
  label = l;
  body = rethread (λ t. record {
    clearance = c;
    verify = v;
    space = gate.space;
    entry_point = gate.entry_point;
    closure = gate.closure;
  }) x.body;
}

-- the container without an id
abbrev pub delisting : ℕ → Object → Object
delisting o = with_body (relist (without o))

-- the object with a quota that is so many pages more, and so many less
abbrev pub requoted : ℕ → ℕ → Object → Object
requoted more less x = record x { quota = (x.quota + more) - less }

-- the object whose quota is fixed
abbrev pub made_fixed : Object → Object
made_fixed x = record x { fixed = true }

-- the object that is immutable
abbrev pub made_immutable : Object → Object
made_immutable x = record x { immutable = true }

-- the object with these metadata
abbrev pub noted : List ℕ → Object → Object
noted bytes x = record x { metadata = padded_data bytes }

-- a new object: nothing fixed, not immutable, its metadata zeros
abbrev pub fresh_object : LabelValue → ℕ → body.Body → Object
fresh_object l q b = record {
  label = l;
  quota = q;
  fixed = false;
  immutable = false;
  metadata = replicate most_bytes 0;
  body = b;
}

-- the thread with this label and clearance
abbrev pub owning : LabelValue → LabelValue → Object → Object
owning l c x = record x { label = l; body = rethread (λ t. record t { clearance = c }) x.body }

-- the container with one id more, at the end of its list
abbrev pub listing : ℕ → Object → Object
listing o = with_body (relist (λ ids. ids ++ o ∷ []))

-- x is the object of the next id
abbrev pub with_new : State → Object → State
with_new s x = record s {
  objects = insert_entry nat_cmp s.objects s.next_id x;
  next_id = s.next_id + 1;
}

-- x is the object of the next id, last in d's list
abbrev pub made : State → ℕ → Object → State
made s d x = with_new (changed s d (listing s.next_id)) x

-- what a new container in one of this body avoids: the kinds given, and those that this one avoids
abbrev pub joined : TypeSet → body.Body → TypeSet
joined kinds (is.Container avoid list) = union kinds avoid
joined kinds (is.Segment bytes) = kinds
joined kinds (is.AddressSpace slots) = kinds
joined kinds (is.Thread t) = kinds
joined kinds (is.Gate g) = kinds
joined kinds (is.Device packets) = kinds

-- what a new container in container d avoids, which is asked to avoid these kinds
abbrev pub joined_at : State → TypeSet → ℕ → TypeSet
joined_at s kinds d = of_object kinds (λ x. joined kinds x.body) (object_at s d)
