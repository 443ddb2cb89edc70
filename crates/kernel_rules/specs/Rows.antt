-- The words of the table of calls: lists of conditions, each with the refusal that it gives.
--
-- Of the refusals of all conditions that hold the one with the least number is given, so the order
-- of a list says nothing. In what follows s is the state, d a container, o an object, e an entry
-- (an object in a container) and x a label as the caller hands it in.
use Rattle.std.specs.Prelude.{ℕ, ◌+◌, ◌*◌, Bool, not, List, [], ◌∷◌, ◌++◌, map, Option, Some, None}
use Rattle.std.specs.Prelude.{if◌then◌else◌}
use Rattle.base.specs.Refusal.{lesser}
use Rattle.base.specs.declared.kinds.Kind as kind
use Rattle.base.specs.declared.kinds.Kind.TheVariants as kinds
use Rattle.base.specs.declared.refusals.Refusal.{Refusal}
use Rattle.base.specs.declared.refusals.Refusal.TheVariants.{Halted, NoAccess, NoEntry, WrongType}
use Rattle.base.specs.declared.refusals.Refusal.TheVariants.{CannotObserve, CannotModify, BadLabel}
use Rattle.base.specs.declared.refusals.Refusal.TheVariants.{LabelRange, ClearanceRange, AvoidType}
use Rattle.base.specs.declared.refusals.Refusal.TheVariants.{NoQuota, Immutable, Bounds, NotMapped}
use Rattle.base.specs.declared.refusals.Refusal.TheVariants.{RightsDenied, Spent}
use Rattle.base.specs.declared.sets.Rights.{Rights}
use Rattle.label_lattice.specs.declared.raw_labels.RawLabel.{RawLabel}
use Rattle.kernel_rules.specs.Sizes.{page_bytes}
use Rattle.kernel_rules.specs.State.{State, page_count}
use Rattle.kernel_rules.specs.Translate.{names_none}
use Rattle.kernel_rules.specs.Conditions.{Condition, refuses}
use Rattle.kernel_rules.specs.Conditions as is
use Rattle.kernel_rules.specs.declared.calls.Entry.{Entry}

-- conditions, each with the refusal that it gives
abbrev pub Conditions : Type 0
Conditions = List (Refusal × Condition)

-- refusals, each with whether its condition holds
abbrev pub Row : Type 0
Row = List (Refusal × Bool)

-- the row of these conditions
abbrev pub row_of : State → ℕ → Conditions → Row
row_of s t conditions = map (λ c. (c.0, refuses s t c.1)) conditions

-- a refusal, or another one where that has a smaller number
abbrev pub lesser_of : Refusal → Option Refusal → Refusal
lesser_of r None = r
lesser_of r (Some q) = lesser r q

-- of the conditions that hold, the one with the least number gives the refusal
abbrev pub refusal_of : Row → Option Refusal
refusal_of [] = None
refusal_of (c ∷ row) = if c.1 then Some (lesser_of c.0 (refusal_of row)) else refusal_of row

-- of two refusals that may not be there, the one with the smaller number
abbrev pub least_of : Option Refusal → Option Refusal → Option Refusal
least_of None q = q
least_of (Some r) q = Some (lesser_of r q)

-- the caller is a live thread
abbrev pub running : Conditions
running = (Halted, is.Halted) ∷ []

-- d is a live container that the thread observes
abbrev pub at_container : ℕ → Conditions
at_container d = (NoAccess, is.NotAccessible d) ∷ []

-- d is such a container, and the entry stands
abbrev pub in_container : Entry → Conditions
in_container e = at_container e.container ++ (NoEntry, is.NotHeld e) ∷ []

-- d is such a container, and lists the object
abbrev pub listed_in : Entry → Conditions
listed_in e = at_container e.container ++ (NoEntry, is.NotListed e) ∷ []

-- o has kind k
abbrev pub of_kind : kind.Kind → ℕ → Conditions
of_kind k o = (WrongType, is.NotOfKind k o) ∷ []

-- o has another kind than k
abbrev pub not_of_kind : kind.Kind → ℕ → Conditions
not_of_kind k o = (WrongType, is.OfKind k o) ∷ []

-- the thread observes o
abbrev pub observed : ℕ → Conditions
observed o = (CannotObserve, is.NotObserved o) ∷ []

-- its label is at most o's
abbrev pub flowing : ℕ → Conditions
flowing o = (CannotModify, is.NotFlowing o) ∷ []

-- the thread observes o, and its label is at most o's
abbrev pub modified : ℕ → Conditions
modified o = observed o ++ flowing o

-- a label of a thread or gate, a clearance or a verify label, which may have star
abbrev pub good_label : RawLabel → Conditions
good_label x = (BadLabel, is.BadLabel x) ∷ []

-- the label of a container, a segment or an address space, which has no star
abbrev pub starless_label : RawLabel → Conditions
starless_label x = (BadLabel, is.BadOrStarred x) ∷ []

-- o is not immutable
abbrev pub not_immutable : ℕ → Conditions
not_immutable o = (Immutable, is.Immutable o) ∷ []

-- q pages more are within d's quota
abbrev pub with_room : ℕ → ℕ → Conditions
with_room d q = (NoQuota, is.Overfull d q) ∷ []

-- a new object of kind k in container d, of quota q and a use of n pages
abbrev pub fitting : kind.Kind → ℕ → ℕ → ℕ → Conditions
fitting k d q n =
    at_container d ++ modified d ++ (AvoidType, is.Avoided k d) ∷ (NoQuota, is.Above n q)
    ∷ with_room d q ++ not_immutable d ++ (Spent, is.IdsSpent) ∷ []

-- a new container, segment or address space of label x
abbrev pub new_object : kind.Kind → ℕ → RawLabel → ℕ → ℕ → Conditions
new_object k d x q n =
    fitting k d q n ++ starless_label x ++ (LabelRange, is.OutOfRange x) ∷ []

-- a new thread or gate of label x and clearance y
abbrev pub new_bearer : kind.Kind → ℕ → RawLabel → ℕ → RawLabel → Conditions
new_bearer k d x q y =
    fitting k d q 1 ++ good_label x ++ good_label y ++ (LabelRange, is.BelowThread x)
    ∷ (ClearanceRange, is.OutOfClearance x y) ∷ []

-- from a on, n is 1 to 64 bytes of one page
abbrev pub shaped : ℕ → ℕ → Conditions
shaped a n = (Bounds, is.NotShaped a n) ∷ []

-- n bytes from a on lie in segment o
abbrev pub within : State → ℕ → ℕ → ℕ → Conditions
within s o a n = (Bounds, is.Above (a + n) (page_bytes * page_count s o)) ∷ []

-- the condition, where the entry names something
abbrev pub named : Entry → Condition → Condition
named e condition = is.When (not (names_none e)) condition

-- the entry names an address space, or none
abbrev pub space_entry : Entry → Conditions
space_entry e =
    (NoAccess, named e (is.NotAccessible e.container)) ∷ (NoEntry, named e (is.NotHeld e))
    ∷ (WrongType, named e (is.NotOfKind kinds.AddressSpace e.object)) ∷ []

-- an address lies in a segment, where the thread has this right
abbrev pub mapped : ℕ → (Rights → Bool) → Conditions
mapped address right =
    (NotMapped, is.NotMapped address) ∷ (RightsDenied, is.NotAllowed address right) ∷ []
