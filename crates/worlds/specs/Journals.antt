-- The same over journals: what seats of one boot are told, without the events of hidden threads.
use Rattle.std.specs.Prelude.{◌≡◌, ℕ, ◌+◌, Bool, true, List, [], ◌∷◌, ◌++◌, map, length, is_none, if◌then◌else◌}
use Rattle.label_lattice.specs.Label.{LabelValue}
use Rattle.kernel_rules.specs.Events.{Event, by, calls_in}
use Rattle.kernel_rules.specs.History.{Start, IsLegalFrom, answered, state_from}
use Rattle.kernel_rules.specs.State.{State}
use Rattle.kernel_rules.specs.Runs.{state_after}
use Rattle.kernel_rules.specs.WellFormed.{is_well_formed}
use Rattle.kernel_rules.specs.declared.calls.Call.{Call}
use Rattle.worlds.specs.Seen.{IsSame, seen_at}
use Rattle.worlds.specs.TwoRuns.{ArePermitted, InBoth, InFirst, Move}

-- the state after an event
abbrev pub after_event : State → Event → State
after_event s e = state_after s (by e.thread (calls_in e))

-- l does not observe the thread that an event begins with
abbrev pub is_hidden_event : LabelValue → State → Event → Bool
is_hidden_event l s e = is_none (seen_at l s e.thread)

-- the events of the other threads, as they stand in the journal
abbrev pub left : LabelValue → State → List Event → List Event
left l s [] = []
left l s (e ∷ es) =
    if is_hidden_event l s e then left l (after_event s e) es else e ∷ left l (after_event s e) es

-- how many events are left out
abbrev pub hidden_count : LabelValue → State → List Event → ℕ
hidden_count l s [] = 0
hidden_count l s (e ∷ es) = (if is_hidden_event l s e then 1 else 0) + hidden_count l (after_event s e) es

-- a call of the event: in the first world alone where the event is hidden, and else in both
abbrev pub move_of : Bool → ℕ → Call → Move
move_of hidden t c = if hidden then InFirst t c else InBoth t c

-- the calls of events, batches as single calls
abbrev pub moves_of : LabelValue → State → List Event → List Move
moves_of l s [] = []
moves_of l s (e ∷ es) =
    map (move_of (is_hidden_event l s e) e.thread) (calls_in e) ++ moves_of l (after_event s e) es

-- each reply of these events is the answer where they alone are made
abbrev pub AreAnswered : State → List Event → Type 0
AreAnswered s [] = Unit {0}
AreAnswered s (e ∷ es) = (e.calls ≡ answered s e.thread (calls_in e)) × AreAnswered (after_event s e) es

-- Of a legal journal leave out the events of hidden threads: where the calls of hidden threads are permitted, and those of
-- others where they are made in both worlds, each reply that is left is the one that is told where only what is left is
-- called, and l sees the same at the end.
abbrev pub JournalsTellNothing : Type 0
JournalsTellNothing =
    (l : LabelValue) (start : Start) (events : List Event) → is_well_formed start.state ≡ true
    → IsLegalFrom start events → ArePermitted l start.state start.state (moves_of l start.state events)
    → AreAnswered start.state (left l start.state events)
    × IsSame l (state_from start.state events) (state_from start.state (left l start.state events))

-- The exception by name: a receipt tells the length of its journal, so how many events of hidden threads are in it.
abbrev pub LengthsTellHidden : Type 0
LengthsTellHidden =
    (l : LabelValue) (s : State) (events : List Event)
    → length events ≡ length (left l s events) + hidden_count l s events
