-- The numbers of threads' next events.
use Rattle.std.specs.Prelude.{◌≡◌, ℕ, ◌+◌, ◌&&◌, nat_lt, nat_le, Bool, List, ◌∷◌, ◌++◌, Option, Some, None}
use Rattle.std.specs.BTreeMap.{BTreeMap, get}
use Rattle.std.specs.Ordering.{nat_cmp}
use Rattle.checkpoints.specs.Starts.{number_of}
use Rattle.checkpoints.specs.declared.checkpoints.NextNumber.{NextNumber}
use Rattle.kernel_rules.specs.Events.{Event}
use Rattle.kernel_rules.specs.History.{count}

-- the thread was given, and its number is from 2
abbrev pub is_noted : ℕ → ℕ × ℕ → Bool
is_noted next_id e = nat_lt e.0 next_id && nat_le 2 e.1

-- the number is that of the last of so many events, which are numbered from the first number on
abbrev pub IsLast : Option ℕ → ℕ → ℕ → Type 0
IsLast None events first = events ≡ 0
IsLast (Some number) events first = number + 1 ≡ events + first

-- the map has the number of each thread's last event
abbrev pub AreLast : List NextNumber → BTreeMap ℕ ℕ → List Event → Type 0
AreLast first last events = (thread : ℕ) → IsLast (get nat_cmp last thread) (count thread events) (number_of first thread)

-- each event has its thread's next number, from these on
abbrev pub AreCounted : List NextNumber → List Event → Type 0
AreCounted first events =
    (before after : List Event) (e : Event) → events ≡ before ++ e ∷ after
    → e.number ≡ count e.thread before + number_of first e.thread
