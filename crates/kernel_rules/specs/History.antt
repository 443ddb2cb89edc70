-- Lists of events: the state that they lead to, and which of them are legal.
use Rattle.std.specs.Prelude.{◌≡◌, ℕ, ◌+◌, ◌==◌, ◌&&◌, Bool, true, nat_le, length, if◌then◌else◌}
use Rattle.std.specs.Prelude.{List, [], ◌∷◌, ◌++◌}
use Rattle.base.specs.declared.ranges.Limits.{Limits}
use Rattle.kernel_rules.specs.State.{State}
use Rattle.kernel_rules.specs.Step.{answer, next}
use Rattle.kernel_rules.specs.Runs.{booted, state_after}
use Rattle.kernel_rules.specs.declared.calls.Call.{Call}
use Rattle.kernel_rules.specs.Events.{Event, calls_in, by, told}
use Rattle.kernel_rules.specs.declared.histories.events.Answered.{Answered}

-- the calls of events, one after another, each with its thread
abbrev pub calls_of : List Event → List (ℕ × Call)
calls_of [] = []
calls_of (e ∷ es) = by e.thread (calls_in e) ++ calls_of es

-- the state that these events lead to from a state
abbrev pub state_from : State → List Event → State
state_from s events = state_after s (calls_of events)

-- calls of a thread, each with its answer in the state that the calls before it left: one that is refused
-- leaves the state as it was, and those after it go on
abbrev pub answered : State → ℕ → List Call → List Answered
answered s thread [] = []
answered s thread (c ∷ cs) = told c (answer s thread c) ∷ answered (next s thread c) thread cs

-- how many of the events are the thread's
abbrev pub count : ℕ → List Event → ℕ
count thread [] = 0
count thread (e ∷ es) = (if e.thread == thread then 1 else 0) + count thread es

-- so many things can be a batch: 1 to 16
abbrev pub is_batch : {A : Type 0} → List A → Bool
is_batch things = nat_le 1 (length things) && nat_le (length things) 16

-- where a history begins: a state, and each thread's first number there
pub record Start : Type 0 where
  pub state : State
  pub first : ℕ → ℕ

-- a boot with these limits, after which each thread begins with 1
abbrev pub boot_start : Limits → Start
boot_start limits = record { state = booted limits; first = λ _. 1 }

-- where a history stands after these events
abbrev pub later : Start → List Event → Start
later start events = record {
  state = state_from start.state events;
  first = λ thread. count thread events + start.first thread;
}

-- the event may come after these: it has its thread's next number, and 1 to 16 calls, each with its answer in the state
-- that these events and the calls before it in the event lead to
pub record FollowsFrom (start : Start) (before : List Event) (e : Event) : Type 0 where
  pub size : is_batch e.calls ≡ true
  pub number : e.number ≡ count e.thread before + start.first e.thread
  pub replies : e.calls ≡ answered (state_from start.state before) e.thread (calls_in e)

-- each event may come after those before it: so each thread's events are numbered one after another, and each reply is the
-- answer in the state of the events before it and the calls before it in its event
abbrev pub IsLegalFrom : Start → List Event → Type 0
IsLegalFrom start events =
    (before after : List Event) (e : Event) → events ≡ before ++ e ∷ after
    → FollowsFrom start before e

-- the same, from the boot with these limits
abbrev pub state_of : Limits → List Event → State
state_of limits events = state_from (booted limits) events

abbrev pub Follows : Limits → List Event → Event → Type 0
Follows limits before e = FollowsFrom (boot_start limits) before e

abbrev pub IsLegal : Limits → List Event → Type 0
IsLegal limits events = IsLegalFrom (boot_start limits) events
