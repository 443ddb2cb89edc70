-- What contracts see of an arena kernel.
use Rattle.std.specs.Prelude.{◌≡◌, ℕ, ◌==◌, Bool, true, false, Option, Some, None, option_map}
use Rattle.std.specs.Option.{option_and_then}
use Rattle.base.specs.declared.kinds.Kind as kind
use Rattle.kernel_rules.specs.State.{State, kind_number}
use Rattle.label_lattice.specs.Bits.{bits_of}
use Rattle.label_lattice.specs.Label.{LabelValue}
use Rattle.arena_state.specs.Kept.{label_kept}
use Rattle.kernel_rules.specs.declared.calls.Entry.{Entry}
use Rattle.arena_state.specs.States.{state_of}
use Rattle.arena_state.specs.Touched.{touches}
use Rattle.arena_state.specs.declared.rows.repairs.Change as change
use Rattle.arena_state.specs.declared.rows.repairs.Change.TheVariants as by
use Rattle.syscall_core.specs.declared.kernel.Kernel.{Kernel}

-- the state that the kernel is in
abbrev pub kernel_state : Kernel → State
kernel_state k = state_of k.kept.state

-- the label of an index, if it has one
abbrev pub label_at : Kernel → ℕ → Option LabelValue
label_at k i = label_kept k.kept.state i

-- how the labels of two indexes compare, if both have one
abbrev pub order_at : Kernel → ℕ → ℕ → Option ℕ
order_at k i j = option_and_then (λ l. option_map (λ m. bits_of l m) (label_at k j)) (label_at k i)

-- what may be touched once the entry is taken out, which names a container or does not
abbrev pub cut_touches : Bool → Entry → change.Change
cut_touches true e = by.All
cut_touches false e = by.Entry e

-- what was found is of kind k, or nothing was
abbrev pub may_be_of_kind : kind.Kind → Option kind.Kind → Bool
may_be_of_kind k None = true
may_be_of_kind k (Some found) = kind_number found == kind_number k

-- the change touches no thread
abbrev pub IsUntouched : State → change.Change → Type 0
IsUntouched s c = (thread : ℕ) → touches s c thread ≡ false
