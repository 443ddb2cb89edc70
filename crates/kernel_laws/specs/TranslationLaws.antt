-- Which rows of translation a change of the state can touch.
use Rattle.std.specs.Prelude.{is_some, ◌≡◌, ◌≢◌, ℕ, true, false, Some, None}
use Rattle.base.specs.Live.{has, is_live, are_live}
use Rattle.kernel_rules.specs.State.{State, list_at, label_at, is_immutable, lists_of}
use Rattle.kernel_rules.specs.Step.{restricted, next}
use Rattle.kernel_rules.specs.declared.calls.Call.{Call}
use Rattle.kernel_rules.specs.Translate.{slot_at, own_space, translate}
use Rattle.kernel_rules.specs.declared.calls.Entry.{Entry}
use Rattle.kernel_laws.specs.Through.{Through, SameEntry, mapped_entry}
use Rattle.kernel_rules.specs.State.{object_at, is_kind_at}
use Rattle.base.specs.declared.kinds.Kind.TheVariants as kinds
use Rattle.kernel_rules.specs.WellFormed.{is_well_formed}
use Rattle.kernel_rules.specs.Translate.{opens}
use Rattle.kernel_rules.specs.Changes.{fresh_object}
use Rattle.kernel_rules.specs.Step.{new_thread}
use Rattle.std.specs.Prelude.{◌⊎◌}
use Rattle.kernel_rules.specs.declared.objects.Object.{Object}
use Rattle.kernel_rules.specs.Changes.{changed, listing, made, requoted, made_fixed, noted, with_body, rebyte}
use Rattle.kernel_rules.specs.Changes.{requeue, cleared}
use Rattle.std.specs.Prelude.{List}
use Rattle.label_lattice.specs.Label.{LabelValue}
use Rattle.kernel_laws.specs.Alike.{LooksAlike, unwritten}
use Rattle.kernel_laws.specs.Through.{ShowsNot}
use Rattle.kernel_laws.specs.Names.{IsNamedRightly}
use Rattle.kernel_laws.specs.Touches.{cut, Touches}
use Rattle.kernel_rules.specs.Runs.{booted}
use Rattle.base.specs.declared.ranges.Limits.{Limits}
use Rattle.base.specs.declared.sets.Rights.{Rights}
use Rattle.kernel_rules.specs.Changes.{reslot, made_immutable, spaced, labelled, owning, entered}
use Rattle.kernel_rules.specs.declared.objects.Mapping.{Mapping}
use Rattle.kernel_rules.specs.declared.objects.Gate.{Gate}
use Rattle.std.specs.Prelude.{Option, slice_set}
use Rattle.std.specs.Option.{option_map}

-- a row reads its thread's label and entry, of the two entries that it goes through whether they
-- open, the slot, and whether what is mapped is immutable
abbrev pub RowReads : Type 0
RowReads =
    (s n : State) (t i : ℕ) → own_space n t ≡ own_space s t → label_at n t ≡ label_at s t
    → ((e : Entry) → Through s t i e → SameEntry s n e)
    → ((e : Entry) → own_space s t ≡ Some e → slot_at n e.object i ≡ slot_at s e.object i)
    → ((e : Entry) → mapped_entry s t i ≡ Some e
    → is_immutable n e.object ≡ is_immutable s e.object)
    → translate n t i ≡ translate s t i

-- the removal of the dead leaves each row of a live thread
abbrev pub DeathKeepsRows : Type 0
DeathKeepsRows =
    (s : State) (t i : ℕ) → is_live (lists_of s.objects) t ≡ true
    → translate (restricted s) t i ≡ translate s t i

-- a dead thread has no rows
abbrev pub DeadHaveNone : Type 0
DeadHaveNone =
    (s : State) (t i : ℕ) → is_live (lists_of s.objects) t ≡ false
    → translate (restricted s) t i ≡ None

-- an object that looks to translation as it did touches no row
abbrev pub AlikeKeepsRows : Type 0
AlikeKeepsRows =
    (s : State) (o : ℕ) (f : Object → Object)
    → ((x : Object) → object_at s o ≡ Some x → LooksAlike x (f x)) → (t i : ℕ)
    → translate (changed s o f) t i ≡ translate s t i

-- so do these changes: of quota, fixed flag, metadata, bytes, packets and clearance
pub record PlainChangesKeepRows (s : State) (o t i : ℕ) : Type 0 where
  pub quota : (more less : ℕ) → translate (changed s o (requoted more less)) t i ≡ translate s t i
  pub fixed : translate (changed s o made_fixed) t i ≡ translate s t i
  pub metadata : (bytes : List ℕ) → translate (changed s o (noted bytes)) t i ≡ translate s t i
  pub bytes : (f : List ℕ → List ℕ)
      → translate (changed s o (with_body (rebyte f))) t i ≡ translate s t i
  pub packets : (f : List (List ℕ) → List (List ℕ))
      → translate (changed s o (with_body (requeue f))) t i ≡ translate s t i
  pub clearance : (c : LabelValue) → translate (changed s o (cleared c)) t i ≡ translate s t i

abbrev pub PlainKeepsRows : Type 0
PlainKeepsRows = (s : State) (o t i : ℕ) → PlainChangesKeepRows s o t i

-- a container that lists one more touches the rows through that entry alone
abbrev pub ListingKeepsRows : Type 0
ListingKeepsRows =
    (s : State) (d o t i : ℕ) → are_live (lists_of s.objects) ≡ true
    → ((e : Entry) → Through s t i e → e.container ≡ d → e.object ≢ o)
    → translate (changed s d (listing o)) t i ≡ translate s t i

-- the entry stands after that as it did before
abbrev pub StaysOpen : State → ℕ → ℕ → Entry → Type 0
StaysOpen s d o e =
    (is_live (lists_of (cut s d o).objects) e.container ≡ true)
    × (e.container ≡ d → e.object ≢ o)

-- an unreference leaves each row of a thread that stays live whose entries have live containers,
-- and aren't the one that goes
abbrev pub UnrefKeepsRows : Type 0
UnrefKeepsRows =
    (s : State) (d o t i : ℕ) → is_live (lists_of (cut s d o).objects) t ≡ true
    → ((e : Entry) → Through s t i e → StaysOpen s d o e)
    → translate (restricted (cut s d o)) t i ≡ translate s t i

-- and each other row of such a thread is empty then
abbrev pub UnrefEmptiesRows : Type 0
UnrefEmptiesRows =
    (s : State) (d o t i : ℕ) (e : Entry) → is_kind_at s kinds.Container d ≡ true
    → is_live (lists_of (cut s d o).objects) t ≡ true → Through s t i e
    → (is_live (lists_of (cut s d o).objects) e.container ≡ false)
    ⊎ ((e.container ≡ d) × (e.object ≡ o))
    → translate (restricted (cut s d o)) t i ≡ None

-- a row through an entry that does not open is empty
abbrev pub ShutRowsAreEmpty : Type 0
ShutRowsAreEmpty =
    (s : State) (t i : ℕ) (e : Entry) → Through s t i e → opens s t e ≡ false
    → translate s t i ≡ None

-- a new object touches no row of another thread that goes through no entry that names it
abbrev pub MadeKeepsRows : Type 0
MadeKeepsRows =
    (s : State) (d : ℕ) (x : Object) (t i : ℕ) → is_well_formed s ≡ true
    → is_kind_at s kinds.Container d ≡ true → t ≢ s.next_id
    → ((e : Entry) → Through s t i e → (e.container ≢ s.next_id) × (e.object ≢ s.next_id))
    → translate (made s d x) t i ≡ translate s t i

-- a new thread shows nothing
abbrev pub NewThreadHasNone : Type 0
NewThreadHasNone =
    (s : State) (d : ℕ) (l c : LabelValue) (q p i : ℕ) → is_well_formed s ≡ true
    → is_kind_at s kinds.Container d ≡ true
    → translate (made s d (fresh_object l q (new_thread c p))) s.next_id i ≡ None

-- a slot that is set touches its own row alone, of the threads in that address space
abbrev pub SlotKeepsRows : Type 0
SlotKeepsRows =
    (s : State) (a k t i : ℕ) (m : Option Mapping)
    → ((e : Entry) → own_space s t ≡ Some e → e.object ≡ a → i ≢ k)
    → translate (changed s a (with_body (reslot (λ slots. slice_set slots k m)))) t i
    ≡ translate s t i

-- an object that becomes immutable takes writing from the rows that show it, and touches no other
abbrev pub ImmutableTakesWriting : Type 0
ImmutableTakesWriting =
    (s : State) (o t i : ℕ) (x : Object) → object_at s o ≡ Some x
    → translate (changed s o made_immutable) t i ≡ option_map (unwritten o) (translate s t i)

-- a thread's address space touches its own rows alone
abbrev pub SpaceKeepsRows : Type 0
SpaceKeepsRows =
    (s : State) (thread t i : ℕ) (e : Entry) → is_kind_at s kinds.Thread thread ≡ true
    → t ≢ thread → translate (changed s thread (spaced e)) t i ≡ translate s t i

-- and so do its label, and what it takes from a gate, where no mapping names a thread
pub record LabelChangesKeepRows (s : State) (thread t i : ℕ) : Type 0 where
  pub label : (l : LabelValue) → translate (changed s thread (labelled l)) t i ≡ translate s t i
  pub owning : (l c : LabelValue) → translate (changed s thread (owning l c)) t i ≡ translate s t i
  pub entered : (l c v : LabelValue) (gate : Gate)
      → translate (changed s thread (entered l c v gate)) t i ≡ translate s t i

abbrev pub LabelKeepsRows : Type 0
LabelKeepsRows =
    (s : State) (thread t i : ℕ) → is_kind_at s kinds.Thread thread ≡ true → t ≢ thread
    → ShowsNot s t i thread → LabelChangesKeepRows s thread t i

-- from a state whose entries name rightly each call leads to one, and so it is of every state
-- that the kernel is in: an entry that is kept never names an id to come, and a mapping's object
-- is never recorded as anything but a segment
abbrev pub NamesStayRight : Type 0
NamesStayRight =
    (s : State) (t : ℕ) (c : Call) → is_well_formed s ≡ true → IsNamedRightly s
    → IsNamedRightly (next s t c)

-- the newly booted state is such a one
abbrev pub BootNamesRightly : Type 0
BootNamesRightly = (l : Limits) → IsNamedRightly (booted l)

-- a call leaves each row of a thread that it leaves, but those that it touches
abbrev pub CallsKeepRows : Type 0
CallsKeepRows =
    (s : State) (t : ℕ) (c : Call) (q i : ℕ) → is_well_formed s ≡ true → IsNamedRightly s
    → is_some (object_at (next s t c) q) ≡ true → (Touches s t c q i → ⊥)
    → translate (next s t c) q i ≡ translate s q i

-- a row through an entry that does not stand is empty: its container is dead, or lists it not
abbrev pub StaleRowsAreEmpty : Type 0
StaleRowsAreEmpty =
    (s : State) (t i : ℕ) (e : Entry) → Through s t i e
    → (is_live (lists_of s.objects) e.container ≡ false)
    ⊎ (has (list_at s e.container) e.object ≡ false)
    → translate s t i ≡ None

-- what a row shows is what its mapping names
abbrev pub RowsShowMappings : Type 0
RowsShowMappings =
    (s : State) (t i : ℕ) (shown : ℕ × Rights) → translate s t i ≡ Some shown
    → (e : Entry) × (mapped_entry s t i ≡ Some e) × (e.object ≡ shown.0)

-- and that is a segment, where the entries name rightly
abbrev pub RowsShowSegments : Type 0
RowsShowSegments =
    (s : State) (t i : ℕ) (shown : ℕ × Rights) → IsNamedRightly s
    → translate s t i ≡ Some shown → is_kind_at s kinds.Segment shown.0 ≡ true

-- and so is a row through an entry whose object is dead
abbrev pub DeadObjectsShowNone : Type 0
DeadObjectsShowNone =
    (s : State) (t i : ℕ) (e : Entry) → Through s t i e
    → is_live (lists_of s.objects) e.object ≡ false → translate s t i ≡ None
