-- What can refuse a call: conditions, each of which holds or does not in a state, for the calling
-- thread.
--
-- In what follows s is the state, t the calling thread, d a container, o an object, e an entry (an
-- object in a container), and x and y labels as the caller hands them in. A condition that holds
-- refuses the call.
use Rattle.std.specs.Prelude.{ℕ, ◌+◌, ◌%◌, Bool, true, false, not, ◌&&◌, ◌||◌, ◌==◌, nat_le}
use Rattle.std.specs.Prelude.{nat_lt, length, Option, Some, None, is_none, is_some, ℤ, pos, negsuc}
use Rattle.std.specs.List.{list_any}
use Rattle.std.specs.Option.{option_and_then, option_map}
use Rattle.base.specs.Limits.{spent}
use Rattle.base.specs.Live.{has}
use Rattle.base.specs.Sets.{may_read, may_write}
use Rattle.base.specs.declared.kinds.Kind as kind
use Rattle.base.specs.declared.kinds.Kind.TheVariants as kinds
use Rattle.base.specs.declared.levels.Level.TheVariants.{Star, L3}
use Rattle.base.specs.declared.sets.Rights.{Rights}
use Rattle.label_lattice.specs.Label.{LabelValue}
use Rattle.label_lattice.specs.declared.raw_labels.RawLabel.{RawLabel}
use Rattle.label_lattice.specs.Raw.{is_bad_below, raw_has_star}
use Rattle.label_lattice.specs.LabelRules.{both, below, shown, between, may_clear, may_enter, stored}
use Rattle.label_lattice.specs.LabelRules.{with_category}
use Rattle.label_lattice.specs.declared.label_rules.gates.Asked.{Asked}
use Rattle.label_lattice.specs.declared.label_rules.gates.Bearer.{Bearer}
use Rattle.kernel_rules.specs.Sizes.{page_bytes, most_bytes, page_limit, most_pages, last_slot}
use Rattle.kernel_rules.specs.Sizes.{most_packets}
use Rattle.kernel_rules.specs.State.{State, object_at, of_object, kind_of, is_live_kind, is_kind_at}
use Rattle.kernel_rules.specs.State.{is_accessible, holds, observes, flows_to, is_immutable, is_fixed}
use Rattle.kernel_rules.specs.State.{label_at, clearance_at, quota_at, use_of, list_at, avoids_at}
use Rattle.kernel_rules.specs.State.{gate_at, slots_at, packets_at}
use Rattle.kernel_rules.specs.Translate.{place_of, slot_at}
use Rattle.kernel_rules.specs.declared.calls.Entry.{Entry}
use Rattle.kernel_rules.specs.declared.objects.Mapping.{Mapping}
use Rattle.kernel_rules.specs.declared.places.Place.{Place}

-- 1 to 64 bytes from a on, which lie in one page
abbrev pub is_shape : ℕ → ℕ → Bool
is_shape a n =
    nat_le 1 n && nat_le n most_bytes && nat_le (a % page_bytes + n) page_bytes

-- by how many pages a change of quota goes up
abbrev pub pages_up : ℤ → ℕ
pages_up (pos n) = n
pages_up (negsuc n) = 0

-- by how many pages a change of quota goes down
abbrev pub pages_down : ℤ → ℕ
pages_down (pos n) = 0
pages_down (negsuc n) = n + 1

-- a mapping is of 1 to 16 pages of a segment, which end at virtual page 65,536 at most, in a slot
-- from 0 to 15, and gives some right
abbrev pub is_mapping : ℕ → Mapping → Bool
is_mapping slot m =
    nat_le slot last_slot && nat_le 1 m.count && nat_le (m.page + m.count) page_limit
    && nat_le (m.first + m.count) most_pages && (may_read m.rights || may_write m.rights)

-- a mapping's range of virtual pages meets that of a slot
abbrev pub meets : Mapping → Option Mapping → Bool
meets m None = false
meets m (Some other) =
    nat_lt m.page (other.page + other.count) && nat_lt other.page (m.page + m.count)

-- a place that is there, where this is allowed
abbrev pub allows : (Rights → Bool) → Option Place → Bool
allows right None = false
allows right (Some place) = right place.rights

-- the entry (1, 1), of the root in itself
abbrev pub names_root : Entry → Bool
names_root e = e.container == 1 && e.object == 1

-- a thread's label and clearance
abbrev pub own_bearer : State → ℕ → Bearer
own_bearer s t = record { label = label_at s t; clearance = clearance_at s t }

-- a gate's label and clearance
abbrev pub gate_bearer : State → ℕ → Bearer
gate_bearer s g = record {
  label = label_at s g;
  clearance = option_map (λ gate. gate.clearance) (gate_at s g);
}

-- what a thread asks of a gate, as it is stored
abbrev pub asked_of_gate : RawLabel → RawLabel → RawLabel → Asked
asked_of_gate label clearance verify = record {
  label = stored label;
  clearance = stored clearance;
  verify = stored verify;
}

-- what can refuse a call
pub data Condition : Type 0 where
  -- the caller is no live thread
  Halted : Condition
  -- d is no live container that the thread observes
  NotAccessible : ℕ → Condition
  -- the entry does not stand
  NotHeld : Entry → Condition
  -- d does not list the object
  NotListed : Entry → Condition
  -- d does not list the object, and the entry is not that of the root in itself
  NotLinked : Entry → Condition
  -- d lists o
  Listed : ℕ → ℕ → Condition
  -- the entry is that of the root in itself
  Root : Entry → Condition
  -- o has another kind than this
  NotOfKind : kind.Kind → ℕ → Condition
  -- o has this kind
  OfKind : kind.Kind → ℕ → Condition
  -- the thread does not observe o
  NotObserved : ℕ → Condition
  -- the thread's label is not at most o's
  NotFlowing : ℕ → Condition
  -- o is a thread, whose label is not shown to the caller
  NotShown : ℕ → Condition
  -- x can't be stored, or has a category that nobody made
  BadLabel : RawLabel → Condition
  -- x can't be stored, has a category that nobody made, or has a star
  BadOrStarred : RawLabel → Condition
  -- x is not at least the thread's label
  BelowThread : RawLabel → Condition
  -- x is not at least the thread's label, or not at most its clearance
  OutOfRange : RawLabel → Condition
  -- the clearance y is not at least x, or not at most the thread's clearance
  OutOfClearance : RawLabel → RawLabel → Condition
  -- y can't be the thread's own clearance
  NotClearable : RawLabel → Condition
  -- o's label is not at most the thread's clearance
  AboveClearance : ℕ → Condition
  -- d avoids this kind
  Avoided : kind.Kind → ℕ → Condition
  -- d avoids the kind of o
  KindAvoided : ℕ → ℕ → Condition
  -- a number is above the most that it may be
  Above : ℕ → ℕ → Condition
  -- a number is 0
  Zero : ℕ → Condition
  -- so many pages more are above d's quota
  Overfull : ℕ → ℕ → Condition
  -- a change of the object's quota has no room
  WithoutRoom : Entry → ℤ → Condition
  -- o is read-only for good
  Immutable : ℕ → Condition
  -- o's quota never changes again
  Fixed : ℕ → Condition
  -- o's quota may still change
  NotFixed : ℕ → Condition
  -- all ids were given
  IdsSpent : Condition
  -- all categories were made
  CategoriesSpent : Condition
  -- the thread's label or clearance has no room for one more category
  LabelFull : Condition
  -- from the number on, these are not 1 to 64 bytes of one page
  NotShaped : ℕ → ℕ → Condition
  -- the mapping can't stand in the slot
  NotMapping : ℕ → Mapping → Condition
  -- the slot of o maps something, or another slot maps one of the mapping's pages
  Overlapping : ℕ → ℕ → Mapping → Condition
  -- the slot of o maps nothing
  SlotEmpty : ℕ → ℕ → Condition
  -- the address is in no mapping that the thread can use
  NotMapped : ℕ → Condition
  -- the address is in no mapping that the thread can use, or that mapping does not give this right
  NotAllowed : ℕ → (Rights → Bool) → Condition
  -- gate o does not let the thread in with this label, clearance and verify label
  NotAdmitted : ℕ → RawLabel → RawLabel → RawLabel → Condition
  -- four packets wait in device o
  QueueFull : ℕ → Condition
  -- no packet waits in device o
  QueueEmpty : ℕ → Condition
  -- the test holds, and so does the condition
  When : Bool → Condition → Condition

-- the calling thread is t
module _ (s : State) (t : ℕ) where
  -- the stored label is at least the thread's, and at most its clearance
  abbrev pub in_range_of : Option LabelValue → Bool
  in_range_of x = between (label_at s t) x (clearance_at s t)

  -- the thread's label with the next category as its own
  abbrev pub own_label : Option LabelValue
  own_label =
      option_and_then (λ l. with_category l (record { 0 = s.next_category }) Star) (label_at s t)

  -- the thread's clearance with the next category at 3
  abbrev pub own_clearance : Option LabelValue
  own_clearance =
      option_and_then (λ c. with_category c (record { 0 = s.next_category }) L3) (clearance_at s t)

  -- container d avoids the kind of o
  abbrev pub avoids_kind_of : ℕ → ℕ → Bool
  avoids_kind_of d o = of_object true (λ x. avoids_at s (kind_of x.body) d) (object_at s o)

  -- a change of o's quota has no room: upwards in its container d, downwards in o itself
  abbrev pub is_without_room : Entry → ℤ → Bool
  is_without_room e n =
      (nat_lt 0 (pages_up n)
      && nat_lt (quota_at s e.container) (use_of s e.container + pages_up n))
      || (nat_lt 0 (pages_down n)
      && nat_lt (quota_at s e.object) (use_of s e.object + pages_down n))

  -- the condition holds, and refuses the call
  abbrev pub refuses : Condition → Bool
  refuses Halted = not (is_live_kind s kinds.Thread t)
  refuses (NotAccessible d) = not (is_accessible s t d)
  refuses (NotHeld e) = not (holds s e)
  refuses (NotListed e) = not (has (list_at s e.container) e.object)
  refuses (NotLinked e) = not (names_root e) && not (has (list_at s e.container) e.object)
  refuses (Listed d o) = has (list_at s d) o
  refuses (Root e) = names_root e
  refuses (NotOfKind k o) = not (is_kind_at s k o)
  refuses (OfKind k o) = is_kind_at s k o
  refuses (NotObserved o) = not (observes s t o)
  refuses (NotFlowing o) = not (flows_to s t o)
  refuses (NotShown o) =
      is_kind_at s kinds.Thread o && not (both shown (label_at s o) (label_at s t))
  refuses (BadLabel x) = is_bad_below s.next_category x
  refuses (BadOrStarred x) = is_bad_below s.next_category x || raw_has_star x
  refuses (BelowThread x) = not (both below (label_at s t) (stored x))
  refuses (OutOfRange x) = not (in_range_of (stored x))
  refuses (OutOfClearance x y) = not (between (stored x) (stored y) (clearance_at s t))
  refuses (NotClearable y) = not (may_clear (label_at s t) (clearance_at s t) (stored y))
  refuses (AboveClearance o) = not (both below (label_at s o) (clearance_at s t))
  refuses (Avoided k d) = avoids_at s k d
  refuses (KindAvoided d o) = avoids_kind_of d o
  refuses (Above n most) = nat_lt most n
  refuses (Zero n) = n == 0
  refuses (Overfull d n) = nat_lt (quota_at s d) (use_of s d + n)
  refuses (WithoutRoom e n) = is_without_room e n
  refuses (Immutable o) = is_immutable s o
  refuses (Fixed o) = is_fixed s o
  refuses (NotFixed o) = not (is_fixed s o)
  refuses IdsSpent = nat_le spent s.next_id
  refuses CategoriesSpent = nat_le spent s.next_category
  refuses LabelFull = is_none own_label || is_none own_clearance
  refuses (NotShaped a n) = not (is_shape a n)
  refuses (NotMapping slot m) = not (is_mapping slot m)
  refuses (Overlapping o slot m) =
      is_some (slot_at s o slot) || list_any (meets m) (slots_at s o)
  refuses (SlotEmpty o slot) = is_none (slot_at s o slot)
  refuses (NotMapped a) = is_none (place_of s t a)
  refuses (NotAllowed a right) = not (allows right (place_of s t a))
  refuses (NotAdmitted g r q v) =
      not (may_enter (own_bearer s t) (gate_bearer s g) (asked_of_gate r q v))
  refuses (QueueFull o) = nat_le most_packets (length (packets_at s o))
  refuses (QueueEmpty o) = length (packets_at s o) == 0
  refuses (When b k) = b && refuses k
