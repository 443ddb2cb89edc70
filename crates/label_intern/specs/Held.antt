-- What an index of a pool has: a label with its owners, or nothing.
use Rattle.std.specs.Prelude.{◌≡◌, ◌≢◌, ℕ, ◌+◌, ◌-◌, ◌<◌, List, [], Option, Some, None, get_or}
use Rattle.std.specs.Prelude.{is_some, count_by, sum_by, nat_lt, if◌then◌else◌}
use Rattle.base.specs.declared.levels.Level.TheVariants.{L1}
use Rattle.label_lattice.specs.Label.{LabelValue}
use Rattle.label_intern.specs.declared.held.Held.{Held}

-- what an index has, if it has a label
abbrev pub held_at : List (Option Held) → ℕ → Option Held
held_at slots i = get_or slots i None

-- the label of a place, and some label where it has none
abbrev pub label_in : Option Held → LabelValue
label_in None = record { default_level = L1; exceptions = [] }
label_in (Some h) = h.label

-- the label of an index, and some label where it has none
abbrev pub label_of : List (Option Held) → ℕ → LabelValue
label_of slots i = label_in (held_at slots i)

-- how many labels are stored
abbrev pub stored : List (Option Held) → ℕ
stored slots = count_by is_some slots

-- how many owners a place has
abbrev pub owners_in : Option Held → ℕ
owners_in None = 0
owners_in (Some h) = h.owners

-- how many owners all labels have
abbrev pub owned : List (Option Held) → ℕ
owned slots = sum_by owners_in slots

-- a place with one owner less
abbrev pub fewer : Option Held → Option Held
fewer None = None
fewer (Some h) =
    if nat_lt 1 h.owners then Some (record { label = h.label; owners = h.owners - 1 }) else None

-- each stored label has an owner, and one index alone
pub record IsInterned (slots : List (Option Held)) : Type 0 where
  pub has_owner : (i : ℕ) (h : Held) → held_at slots i ≡ Some h → 0 < h.owners
  pub one_index : (i j : ℕ) (g h : Held) → held_at slots i ≡ Some g → held_at slots j ≡ Some h
      → g.label ≡ h.label → i ≡ j

-- an index has a label
pub record HasLabel (slots : List (Option Held)) (i : ℕ) (l : LabelValue) : Type 0 where
  pub held : Held
  pub here : held_at slots i ≡ Some held
  pub label : held.label ≡ l

-- no index has a label
abbrev pub LacksLabel : List (Option Held) → LabelValue → Type 0
LacksLabel slots l = (i : ℕ) (h : Held) → held_at slots i ≡ Some h → h.label ≢ l

-- a place with a label, whose owners are one more
abbrev pub raised : Option Held → LabelValue → Option Held
raised place l = Some (record { label = l; owners = owners_in place + 1 })
