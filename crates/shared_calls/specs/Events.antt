-- The events of batches, and what a journal of them is.
use Rattle.std.specs.Prelude.{◌≡◌, ℕ, ◌+◌, List, [], ◌∷◌, ◌++◌}
use Rattle.std.specs.BTreeMap.{get}
use Rattle.std.specs.Option.{unwrap_or}
use Rattle.std.specs.Ordering.{nat_cmp}
use Rattle.base.specs.declared.ranges.Limits.{Limits}
use Rattle.kernel_rules.specs.Events.{Event}
use Rattle.kernel_rules.specs.History.{Start, answered, count, state_from, IsLegalFrom}
use Rattle.kernel_rules.specs.Runs.{booted}
use Rattle.kernel_rules.specs.State.{State}
use Rattle.syscall_core.specs.Kernel.{kernel_state}
use Rattle.shared_calls.specs.declared.journals.Journal.{Journal}
use Rattle.shared_calls.specs.declared.rules.Made.{Made}

-- where events begin that lead on from a state: each thread begins with 1
abbrev pub start_at : State → Start
start_at s = record { state = s; first = λ _. 1 }

-- the event of a batch that comes after these events from a state: its thread's next number, and each call with its answer
abbrev pub event_after : State → List Event → Made → Event
event_after s events m = record {
  thread = m.thread;
  number = count m.thread events + 1;
  calls = answered (state_from s events) m.thread m.calls;
}

-- the events with one for each batch at their end
abbrev pub events_after : State → List Event → List Made → List Event
events_after s events [] = events
events_after s events (m ∷ ms) = events_after s (events ++ event_after s events m ∷ []) ms

-- the events of batches that lead on from a state: one for each
abbrev pub events_from : State → List Made → List Event
events_from s batches = events_after s [] batches

-- the events of a list: they lead on from the boot
abbrev pub events_of : Limits → List Made → List Event
events_of limits batches = events_from (booted limits) batches

-- the events of these batches are legal, so many are of each thread, and they lead to the kernel's state
pub record IsJournal (s : State) (batches : List Made) (journal : Journal) : Type 0 where
  pub legal : IsLegalFrom (start_at s) (events_from s batches)
  pub state : kernel_state journal.kernel ≡ state_from s (events_from s batches)
  pub counts : (thread : ℕ) → unwrap_or (get nat_cmp journal.counts thread) 0 ≡ count thread (events_from s batches)
