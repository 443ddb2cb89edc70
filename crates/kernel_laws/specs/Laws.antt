-- Laws of the next state, which a reader may ask for.
use Rattle.std.specs.Prelude.{List, [], ◌∷◌, ◌≡◌, ◌≢◌, ◌↔◌, ℕ, true, is_some, Some, IsTrue}
use Rattle.std.specs.List.{flat_map}
use Rattle.std.specs.List.Sorted.{IsStrictlySortedBy, IsStrictlyIncreasing}
use Rattle.label_lattice.specs.Label.{LabelValue}
use Rattle.label_lattice.specs.Listing.{label_cmp}
use Rattle.kernel_rules.specs.Scratch.{stored_labels, is_stored_in, labels_of}
use Rattle.base.specs.Live.{IsLive, links}
use Rattle.base.specs.declared.kinds.Kind.TheVariants as kinds
use Rattle.kernel_rules.specs.State.{State, object_at, lists_of, is_kind, own_cost}
use Rattle.kernel_rules.specs.Step.{next, edit}
use Rattle.kernel_rules.specs.Runs.{booted, replies_to, state_after}
use Rattle.kernel_rules.specs.Translate.{covers, slot_at}
use Rattle.base.specs.declared.ranges.Limits.{Limits}
use Rattle.kernel_rules.specs.Table.{refused}
use Rattle.kernel_rules.specs.declared.replies.Reply.{Reply}
use Rattle.kernel_rules.specs.declared.replies.Reply.TheVariants as reply
use Rattle.kernel_rules.specs.declared.calls.Call.{Call}
use Rattle.kernel_rules.specs.declared.objects.Object.{Object}
use Rattle.std.specs.Prelude.{None, Bool, false, ◌≤◌, ◌+◌, length, sum_by}
use Rattle.kernel_rules.specs.WellFormed.{is_well_formed}
use Rattle.label_lattice.specs.Order.{levels, Leq}
use Rattle.kernel_rules.specs.declared.calls.Call.TheVariants as call

-- the label of an object changes by its own calls alone: whoever is recorded before and after a
-- call of another thread, under an id that was given, has the label that it had
abbrev pub LabelsAreOwn : Type 0
LabelsAreOwn =
    (s : State) (t : ℕ) (c : Call) (o : ℕ) (x y : Object) → o ≢ t → o ≢ s.next_id
    → object_at s o ≡ Some x → object_at (next s t c) o ≡ Some y → y.label ≡ x.label

-- after a call that is not refused, an unreference among them, an id is recorded exactly where the
-- edit records it and a path of entries leads to it from the root
abbrev pub RecordedAreLive : Type 0
RecordedAreLive =
    (s : State) (t : ℕ) (c : Call) (o : ℕ) → refused s t c ≡ None
    → IsTrue (is_some (object_at (next s t c) o))
    ↔ (IsLive (lists_of (edit s t c).objects) o × IsTrue (is_some (object_at (edit s t c) o)))

-- so an object stays that is also linked in a container that is live then
abbrev pub LinkedStays : Type 0
LinkedStays =
    (s : State) (t : ℕ) (c : Call) (d o : ℕ) → refused s t c ≡ None
    → IsLive (lists_of (edit s t c).objects) d → links (lists_of (edit s t c).objects) d o ≡ true
    → is_some (object_at (edit s t c) o) ≡ true → is_some (object_at (next s t c) o) ≡ true

-- what a call that is not refused leaves recorded is as the edit made it
abbrev pub RecordedAreEdited : Type 0
RecordedAreEdited =
    (s : State) (t : ℕ) (c : Call) (o : ℕ) (y : Object) → refused s t c ≡ None
    → object_at (next s t c) o ≡ Some y → object_at (edit s t c) o ≡ Some y

-- the calls that may lower a category of the caller's label: the one makes a category, which the
-- caller then owns, the other takes what a gate owns
abbrev pub may_lower : Call → Bool
may_lower call.CatCreate = true
may_lower (call.GateEnter e r q v) = true
may_lower c = false

-- no other call lowers a category of the caller's label, star included
abbrev pub LabelsRise : Type 0
LabelsRise =
    (s : State) (t : ℕ) (c : Call) (x y : Object) → may_lower c ≡ false → t ≢ s.next_id
    → object_at s t ≡ Some x → object_at (next s t c) t ≡ Some y
    → Leq (levels x.label) (levels y.label)

-- y is what x was, and is immutable
pub record IsUntouched (x y : Object) : Type 0 where
  pub body : y.body ≡ x.body
  pub metadata : y.metadata ≡ x.metadata
  pub quota : y.quota ≡ x.quota
  pub fixed : y.fixed ≡ x.fixed
  pub immutable : y.immutable ≡ true

-- an immutable object is read-only for good: its bytes, mappings, entries, metadata, quota and
-- fixed flag never change. Threads and devices are never made immutable
abbrev pub ReadOnlyStays : Type 0
ReadOnlyStays =
    (s : State) (t : ℕ) (c : Call) (o : ℕ) (x y : Object) → x.immutable ≡ true
    → is_kind kinds.Thread x ≡ false → is_kind kinds.Device x ≡ false → o ≢ s.next_id
    → object_at s o ≡ Some x → object_at (next s t c) o ≡ Some y → IsUntouched x y

-- how many links there are: how often an id stands in a list
abbrev pub link_count : State → ℕ
link_count s = sum_by (λ e. length e.1) (lists_of s.objects)

-- the quota of the root bounds the objects of a well-formed state, and with one more its links
abbrev pub RootBoundsAll : Type 0
RootBoundsAll =
    (s : State) (root : Object) → is_well_formed s ≡ true → object_at s 1 ≡ Some root
    → (length s.objects ≤ root.quota) × (link_count s + 1 ≤ root.quota)

-- the quota of the root bounds what all objects of a well-formed state cost for themselves, in
-- pages
abbrev pub RootBoundsCosts : Type 0
RootBoundsCosts =
    (s : State) (root : Object) → is_well_formed s ≡ true → object_at s 1 ≡ Some root
    → sum_by (λ e. own_cost e.1.body) s.objects ≤ root.quota

-- a table of labels has each label that the objects store once, in its place, and no other
abbrev pub LabelsAreListed : Type 0
LabelsAreListed =
    (objects : List (ℕ × Object)) → IsStrictlySortedBy label_cmp (stored_labels objects)
    × ((l : LabelValue) → is_stored_in l (stored_labels objects)
    ≡ is_stored_in l (flat_map (λ e. labels_of e.1) objects))

-- the id of the new object that a reply tells of
abbrev pub new_id : Reply → List ℕ
new_id (reply.Object id) = id ∷ []
new_id r = []

-- the category that a reply tells of
abbrev pub new_category : Reply → List ℕ
new_category (reply.Category c) = c.0 ∷ []
new_category r = []

-- an id is never given again: those that a list of calls was given, from any state on, rise
abbrev pub IdsRise : Type 0
IdsRise =
    (s : State) (calls : List (ℕ × Call))
    → IsStrictlyIncreasing (flat_map new_id (replies_to s calls))

-- nor is a category
abbrev pub CategoriesRise : Type 0
CategoriesRise =
    (s : State) (calls : List (ℕ × Call))
    → IsStrictlyIncreasing (flat_map new_category (replies_to s calls))

-- in each state that calls lead to from a boot, at most one slot of an address space covers a page
abbrev pub MappingsApart : Type 0
MappingsApart =
    (limits : Limits) (calls : List (ℕ × Call)) (a page i j : ℕ)
    → covers page (slot_at (state_after (booted limits) calls) a i) ≡ true
    → covers page (slot_at (state_after (booted limits) calls) a j) ≡ true → i ≡ j
