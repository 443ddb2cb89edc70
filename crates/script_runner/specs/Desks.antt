-- What a worker has of a kernel that others share.
use mathlib.Core.List.{IsPrefix}
use Rattle.std.specs.Prelude.{◌≡◌, ℕ, List, [], ◌∷◌, Option, Result, Ok, Err}
use Rattle.base.specs.declared.ranges.Limits.{Limits}
use Rattle.base.specs.declared.refusals.Refusal.{Refusal}
use Rattle.kernel_rules.specs.Events.{Event}
use Rattle.kernel_rules.specs.History.{state_of, IsLegal}
use Rattle.kernel_rules.specs.State.{State}
use Rattle.kernel_rules.specs.declared.calls.Call.{Call}
use Rattle.script_rules.specs.Asking.{with_calls}
use Rattle.script_rules.specs.Run.{refusal_by, unless_refused}

-- its thread, the events that it has seen, and those that its note tells the others
pub record SeatPlace : Type 0 where
  pub thread : ℕ
  pub events : List Event
  pub noted : List Event

abbrev pub place : ℕ → List Event → List Event → SeatPlace
place thread events noted = record { thread = thread; events = events; noted = noted }

-- what a note tells after calls: all that its worker has then seen; after none, what it told
abbrev pub noted_by : List Call → List Event → List Event → List Event
noted_by [] noted after = noted
noted_by (call ∷ calls) noted after = after

-- a seat as it is given, or refused, after some legal events where some threads have seats
abbrev pub IsGiven : Limits → ℕ → ℕ → Result ℕ (Option Refusal) → Type 0
IsGiven limits room thread given =
    (events : List Event) × (taken : List ℕ) × IsLegal limits events
    × (given ≡ unless_refused thread (refusal_by limits room events taken thread))

-- after calls, which the worker made when it had seen these events
abbrev pub submitted : Limits → SeatPlace → List Event → List Call → SeatPlace
submitted limits before events calls =
    let after = with_calls limits before.thread events calls in
    place before.thread after (noted_by calls before.noted after)

-- calls are the last event of what the worker has then seen, which begins with all that it had seen, and the state before them
-- tells of the replies
abbrev pub IsSubmitted : Limits → (State → Type 0) → SeatPlace → List Call → SeatPlace → Type 0
IsSubmitted limits Tells before calls after =
    (events : List Event) × IsPrefix before.events events
    × (after ≡ submitted limits before events calls) × Tells (state_of limits events)

-- where a worker has a seat, its thread, what it has seen and what its note tells; else what refused it one
abbrev pub seat_in : Result SeatPlace (Option Refusal) → Result ℕ (Option Refusal)
seat_in (Ok p) = Ok p.thread
seat_in (Err refusal) = Err refusal

abbrev pub events_in : Result SeatPlace (Option Refusal) → List Event
events_in (Ok p) = p.events
events_in (Err refusal) = []

abbrev pub noted_in : Result SeatPlace (Option Refusal) → List Event
noted_in (Ok p) = p.noted
noted_in (Err refusal) = []
