-- What an observer of label l sees of a state: whole the objects that it observes, and of what a
-- container among these lists an outline, which anybody learns who may name it.
use Rattle.std.specs.Prelude.{◌≡◌, ℕ, Bool, true, false, Option, Some, None, if◌then◌else◌}
use Rattle.std.specs.Option.{option_map}
use Rattle.base.specs.Live.{has}
use Rattle.base.specs.declared.kinds.Kind as kind
use Rattle.base.specs.declared.kinds.Kind.TheVariants as kinds
use Rattle.label_lattice.specs.Label.{LabelValue}
use Rattle.label_lattice.specs.LabelRules.{visible, shown, both}
use Rattle.kernel_rules.specs.State.{State, object_at, of_object, kind_of, is_kind, listed, list_at, gate_of, label_at}
use Rattle.kernel_rules.specs.Step.{lister_of}
use Rattle.kernel_rules.specs.declared.objects.Gate.{Gate}
use Rattle.kernel_rules.specs.declared.objects.Object.{Object}
use Rattle.kernel_rules.specs.declared.objects.Body as body
use Rattle.kernel_rules.specs.declared.objects.Body.TheVariants as is

-- the object, where its label is at most l with star raised
abbrev pub if_visible : LabelValue → Option Object → Option Object
if_visible l None = None
if_visible l (Some x) = if visible x.label l then Some x else None

-- the object of an id, where l observes it
abbrev pub seen_at : LabelValue → State → ℕ → Option Object
seen_at l s o = if_visible l (object_at s o)

-- a label that never changes: that of every object but a thread
abbrev pub lasting_label : LabelValue → body.Body → Option LabelValue
lasting_label x (is.Thread t) = None
lasting_label x (is.Container avoid list) = Some x
lasting_label x (is.Segment bytes) = Some x
lasting_label x (is.AddressSpace slots) = Some x
lasting_label x (is.Gate g) = Some x
lasting_label x (is.Device packets) = Some x

-- what may be learnt of an object that is named and not observed
pub record Outline : Type 0 where
  pub kind : kind.Kind
  pub quota : ℕ
  pub label : Option LabelValue
  pub gate : Option Gate

-- the outline of an object of this label and quota with this body
abbrev pub outline : LabelValue → ℕ → body.Body → Outline
outline x q b = record { kind = kind_of b; quota = q; label = lasting_label x b; gate = gate_of b }

abbrev pub outline_of : Object → Outline
outline_of x = outline x.label x.quota x.body

-- l observes container d, which lists o
abbrev pub lists_seen : LabelValue → State → ℕ → ℕ → Bool
lists_seen l s d o = of_object false (λ x. has (listed x.body) o) (seen_at l s d)

-- the outline of what such a container lists
abbrev pub told_at : LabelValue → State → ℕ → ℕ → Option Outline
told_at l s d o = if lists_seen l s d o then option_map outline_of (object_at s o) else None

-- the container that lists container d, where l observes d
abbrev pub parent_at : LabelValue → State → ℕ → Option ℕ
parent_at l s d =
    if of_object false (is_kind kinds.Container) (seen_at l s d) then Some (lister_of d s.objects) else None

-- l sees the same of both states
pub record IsSame (l : LabelValue) (s n : State) : Type 0 where
  pub objects : (o : ℕ) → seen_at l n o ≡ seen_at l s o
  pub told : (d o : ℕ) → told_at l n d o ≡ told_at l s d o
  pub parents : (d : ℕ) → parent_at l n d ≡ parent_at l s d

-- all that thread t observes l observes: t's label with star raised is at most l with star raised
abbrev pub is_within : LabelValue → State → ℕ → Bool
is_within l s t = both shown (label_at s t) (Some l)

-- what a link and a move of quota ask of an object beside its outline, though it may not be observed
pub record Untold : Type 0 where
  pub label : LabelValue
  pub fixed : Bool
  pub immutable : Bool

abbrev pub untold : Object → Untold
untold x = record { label = x.label; fixed = x.fixed; immutable = x.immutable }

-- what a container lists that l does not observe l does not observe
abbrev pub IsOpen : LabelValue → State → Type 0
IsOpen l s = (d o : ℕ) → has (list_at s d) o ≡ true → seen_at l s d ≡ None → seen_at l s o ≡ None
