-- The kernel's state, and the words in which the rules are said.
use Rattle.std.specs.Prelude.{ℕ, ◌+◌, ◌/◌, Bool, false, ◌&&◌, ◌||◌, ◌==◌, List, [], map}
use Rattle.std.specs.Prelude.{length, Option, Some, None, sum_by}
use Rattle.std.specs.List.{filter}
use Rattle.std.specs.Option.{option_map, option_and_then}
use Rattle.std.specs.Ordering.{nat_cmp}
use Rattle.std.specs.Map.{lookup}
use Rattle.std.specs.BTreeMap.{is_at}
use Rattle.base.specs.Live.{has, is_live}
use Rattle.base.specs.Sets.{has_kind}
use Rattle.base.specs.declared.ranges.Limits.{Limits}
use Rattle.base.specs.declared.kinds.Kind as kind
use Rattle.base.specs.declared.kinds.Kind.TheVariants as kinds
use Rattle.label_lattice.specs.Label.{LabelValue}
use Rattle.label_lattice.specs.LabelRules.{both, below, visible}
use Rattle.kernel_rules.specs.Sizes.{page_bytes}
use Rattle.kernel_rules.specs.declared.calls.Entry.{Entry}
use Rattle.kernel_rules.specs.declared.objects.Gate.{Gate}
use Rattle.kernel_rules.specs.declared.objects.Mapping.{Mapping}
use Rattle.kernel_rules.specs.declared.objects.Object.{Object}
use Rattle.kernel_rules.specs.declared.objects.Thread.{Thread}
use Rattle.kernel_rules.specs.declared.objects.Body as body
use Rattle.kernel_rules.specs.declared.objects.Body.TheVariants as is

-- the limits of the boot, the objects by rising ids, and the id and the category to be given next
pub record State : Type 0 where
  pub limits : Limits
  pub objects : List (ℕ × Object)
  pub next_id : ℕ
  pub next_category : ℕ

-- the object of an id
abbrev pub object_at : State → ℕ → Option Object
object_at s o = lookup (is_at (nat_cmp o)) s.objects

-- a value read off an object, and another where there is no object
abbrev pub of_object : {X : Type 0} → X → (Object → X) → Option Object → X
of_object d f None = d
of_object d f (Some x) = f x

-- the kind of an object of this body
abbrev pub kind_of : body.Body → kind.Kind
kind_of (is.Container avoid list) = kinds.Container
kind_of (is.Segment bytes) = kinds.Segment
kind_of (is.AddressSpace slots) = kinds.AddressSpace
kind_of (is.Thread t) = kinds.Thread
kind_of (is.Gate g) = kinds.Gate
kind_of (is.Device packets) = kinds.Device

-- the kinds in the order of the table
abbrev pub kind_number : kind.Kind → ℕ
kind_number kinds.Container = 0
kind_number kinds.Segment = 1
kind_number kinds.AddressSpace = 2
kind_number kinds.Thread = 3
kind_number kinds.Gate = 4
kind_number kinds.Device = 5

-- the object has this kind
abbrev pub is_kind : kind.Kind → Object → Bool
is_kind k x = kind_number (kind_of x.body) == kind_number k

-- the ids in a container's list, in the order of their linking
abbrev pub listed : body.Body → List ℕ
listed (is.Container avoid list) = list
listed (is.Segment bytes) = []
listed (is.AddressSpace slots) = []
listed (is.Thread t) = []
listed (is.Gate g) = []
listed (is.Device packets) = []

-- whether a container avoids a kind
abbrev pub avoids : kind.Kind → body.Body → Bool
avoids k (is.Container avoid list) = has_kind avoid k
avoids k (is.Segment bytes) = false
avoids k (is.AddressSpace slots) = false
avoids k (is.Thread t) = false
avoids k (is.Gate g) = false
avoids k (is.Device packets) = false

-- a segment's bytes
abbrev pub bytes_of : body.Body → List ℕ
bytes_of (is.Segment bytes) = bytes
bytes_of (is.Container avoid list) = []
bytes_of (is.AddressSpace slots) = []
bytes_of (is.Thread t) = []
bytes_of (is.Gate g) = []
bytes_of (is.Device packets) = []

-- own cost in pages of 256 bytes: one, and for a segment one for each page, for a device one more
abbrev pub own_cost : body.Body → ℕ
own_cost (is.Segment bytes) = 1 + length bytes / page_bytes
own_cost (is.Device packets) = 2
own_cost (is.Container avoid list) = 1
own_cost (is.AddressSpace slots) = 1
own_cost (is.Thread t) = 1
own_cost (is.Gate g) = 1

-- a thread's clearance
abbrev pub clearance_of : body.Body → Option LabelValue
clearance_of (is.Thread t) = Some t.clearance
clearance_of (is.Container avoid list) = None
clearance_of (is.Segment bytes) = None
clearance_of (is.AddressSpace slots) = None
clearance_of (is.Gate g) = None
clearance_of (is.Device packets) = None

-- what a thread is, beside its label
abbrev pub thread_of : body.Body → Option Thread
thread_of (is.Thread t) = Some t
thread_of (is.Container avoid list) = None
thread_of (is.Segment bytes) = None
thread_of (is.AddressSpace slots) = None
thread_of (is.Gate g) = None
thread_of (is.Device packets) = None

-- what a gate hands on
abbrev pub gate_of : body.Body → Option Gate
gate_of (is.Gate g) = Some g
gate_of (is.Container avoid list) = None
gate_of (is.Segment bytes) = None
gate_of (is.AddressSpace slots) = None
gate_of (is.Thread t) = None
gate_of (is.Device packets) = None

-- an address space's slots
abbrev pub slots_of : body.Body → List (Option Mapping)
slots_of (is.AddressSpace slots) = slots.slots
slots_of (is.Container avoid list) = []
slots_of (is.Segment bytes) = []
slots_of (is.Thread t) = []
slots_of (is.Gate g) = []
slots_of (is.Device packets) = []

-- a device's packets, the first one first
abbrev pub packets_of : body.Body → List (List ℕ)
packets_of (is.Device packets) = packets
packets_of (is.Container avoid list) = []
packets_of (is.Segment bytes) = []
packets_of (is.AddressSpace slots) = []
packets_of (is.Thread t) = []
packets_of (is.Gate g) = []

-- o has kind k
abbrev pub is_kind_at : State → kind.Kind → ℕ → Bool
is_kind_at s k o = of_object false (is_kind k) (object_at s o)

-- the label of o
abbrev pub label_at : State → ℕ → Option LabelValue
label_at s o = option_map (λ x. x.label) (object_at s o)

-- the clearance of thread t
abbrev pub clearance_at : State → ℕ → Option LabelValue
clearance_at s t = option_and_then (λ x. clearance_of x.body) (object_at s t)

-- what thread t is, beside its label
abbrev pub thread_at : State → ℕ → Option Thread
thread_at s t = option_and_then (λ x. thread_of x.body) (object_at s t)

-- what gate g hands on
abbrev pub gate_at : State → ℕ → Option Gate
gate_at s g = option_and_then (λ x. gate_of x.body) (object_at s g)

-- the quota of o, in pages of 256 bytes
abbrev pub quota_at : State → ℕ → ℕ
quota_at s o = of_object 0 (λ x. x.quota) (object_at s o)

-- the ids that container o lists
abbrev pub list_at : State → ℕ → List ℕ
list_at s o = of_object [] (λ x. listed x.body) (object_at s o)

-- the bytes of segment o
abbrev pub bytes_at : State → ℕ → List ℕ
bytes_at s o = of_object [] (λ x. bytes_of x.body) (object_at s o)

-- the slots of address space a
abbrev pub slots_at : State → ℕ → List (Option Mapping)
slots_at s a = of_object [] (λ x. slots_of x.body) (object_at s a)

-- the packets that wait in device o
abbrev pub packets_at : State → ℕ → List (List ℕ)
packets_at s o = of_object [] (λ x. packets_of x.body) (object_at s o)

-- the own cost of o, in pages of 256 bytes
abbrev pub cost_at : State → ℕ → ℕ
cost_at s o = of_object 0 (λ x. own_cost x.body) (object_at s o)

-- container d avoids kind k
abbrev pub avoids_at : State → kind.Kind → ℕ → Bool
avoids_at s k d = of_object false (λ x. avoids k x.body) (object_at s d)

-- o is immutable
abbrev pub is_immutable : State → ℕ → Bool
is_immutable s o = of_object false (λ x. x.immutable) (object_at s o)

-- the quota of o never changes again
abbrev pub is_fixed : State → ℕ → Bool
is_fixed s o = of_object false (λ x. x.fixed) (object_at s o)

-- the whole pages of segment o
abbrev pub page_count : State → ℕ → ℕ
page_count s o = length (bytes_at s o) / page_bytes

-- own cost, and the declared quotas of what the entries name
abbrev pub use_of : State → ℕ → ℕ
use_of s o = cost_at s o + sum_by (quota_at s) (list_at s o)

-- the entry stands: the object is in the container's list, or is the container
abbrev pub holds : State → Entry → Bool
holds s e =
    is_kind_at s kinds.Container e.container
    && (has (list_at s e.container) e.object || e.object == e.container)

-- what each id lists
abbrev pub lists_of : List (ℕ × Object) → List (ℕ × List ℕ)
lists_of objects = map (λ e. (e.0, listed e.1.body)) objects

-- the records that are live
unfoldable pub live_part : List (ℕ × Object) → List (ℕ × Object)
live_part objects = filter (λ e. is_live (lists_of objects) e.0) objects

-- a live object of this kind
abbrev pub is_live_kind : State → kind.Kind → ℕ → Bool
is_live_kind s k o = is_kind_at s k o && is_live (lists_of s.objects) o

-- thread t observes o: o's label is at most t's, with star raised
abbrev pub observes : State → ℕ → ℕ → Bool
observes s t o = both visible (label_at s o) (label_at s t)

-- t's label is at most o's
abbrev pub flows_to : State → ℕ → ℕ → Bool
flows_to s t o = both below (label_at s t) (label_at s o)

-- thread t may name what container d lists: d is a live container that t observes
abbrev pub is_accessible : State → ℕ → ℕ → Bool
is_accessible s t d = is_live_kind s kinds.Container d && observes s t d
