-- Which threads' rows of translation a change may touch.
use Rattle.std.specs.Prelude.{◌≡◌, ℕ, ◌==◌, Bool, true, false, not, ◌&&◌, ◌||◌, Option, Some, None}
use Rattle.std.specs.List.{list_any}
use Rattle.kernel_rules.specs.State.{State, slots_at}
use Rattle.kernel_rules.specs.Translate.{names_none, own_space}
use Rattle.kernel_rules.specs.declared.calls.Entry.{Entry}
use Rattle.kernel_rules.specs.declared.objects.Mapping.{Mapping}
use Rattle.arena_state.specs.declared.rows.repairs.Change as change
use Rattle.arena_state.specs.declared.rows.repairs.Change.TheVariants as by

-- the two entries are one
abbrev pub is_same : Entry → Entry → Bool
is_same e f = e.container == f.container && e.object == f.object

-- the mapping goes by the entry
abbrev pub goes_by : Entry → Option Mapping → Bool
goes_by e None = false
goes_by e (Some m) = is_same m.entry e

-- the mapping is of the object
abbrev pub maps : ℕ → Option Mapping → Bool
maps o None = false
maps o (Some m) = m.entry.object == o

-- no address space maps the object
abbrev pub IsUnmapped : State → ℕ → Type 0
IsUnmapped s o = (space : ℕ) → list_any (maps o) (slots_at s space) ≡ false

-- the change reaches those whose address space has this entry, whether it stands or not
abbrev pub reaches : State → change.Change → Entry → Bool
reaches s (by.Entry e) space = is_same space e || list_any (goes_by e) (slots_at s space.object)
reaches s (by.Space a) space = space.object == a
reaches s (by.Object o) space = list_any (maps o) (slots_at s space.object)
reaches s by.All space = true

-- so it does where there is one, and it names an address space
abbrev pub reaches_by : State → change.Change → Option Entry → Bool
reaches_by s c None = false
reaches_by s c (Some space) = not (names_none space) && reaches s c space

-- the change may touch rows of the thread
abbrev pub touches : State → change.Change → ℕ → Bool
touches s c thread = reaches_by s c (own_space s thread)
