-- The events that calls are by the rules, and the reads that queries are.
use Rattle.std.specs.Prelude.{◌≡◌, ℕ, ◌+◌, ◌==◌, ◌&&◌, not, nat_le, if◌then◌else◌, List, [], ◌∷◌, ◌++◌}
use Rattle.std.specs.BTreeMap.{BTreeMap, get}
use Rattle.std.specs.Option.{unwrap_or}
use Rattle.std.specs.Ordering.{nat_cmp}
use Rattle.kernel_rules.specs.Events.{Event, calls_in}
use Rattle.kernel_rules.specs.History.{Start, answered, state_from, count}
use Rattle.dump_text.specs.Whole.{reply_at}
use Rattle.dump_text.specs.declared.tables.PlacedRead.{PlacedRead}
use Rattle.plain_core.specs.Kernel.{kernel_state}
use Rattle.auditor.specs.declared.replays.Replay.{Replay}

-- the event with its thread's next number after these events, and each of its calls with its answer in
-- the state that they and the calls before it lead to
abbrev pub true_event : Start → List Event → Event → Event
true_event start before e = record {
  thread = e.thread;
  number = count e.thread before + start.first e.thread;
  calls = answered (state_from start.state before) e.thread (calls_in e);
}

-- these events, and after them others with their true numbers and replies
abbrev pub replayed_after : Start → List Event → List Event → List Event
replayed_after start before [] = before
replayed_after start before (e ∷ es) =
    replayed_after start (before ++ true_event start before e ∷ []) es

-- events with their true numbers and replies
abbrev pub replayed : Start → List Event → List Event
replayed start events = replayed_after start [] events

-- the thread that a read is told of after a read of a thread at a place: its own, unless that is less than the other's at the
-- same place
abbrev pub thread_after : ℕ → ℕ → PlacedRead → ℕ
thread_after place thread r =
    if r.place == place && not (nat_le thread r.read.thread) then thread else r.read.thread

-- the read as this thread's, with the rules' reply
abbrev pub true_read : Start → List Event → ℕ → PlacedRead → PlacedRead
true_read start events thread r = record {
  place = r.place;
  read = record {
    thread = thread;
    query = r.read.query;
    reply = reply_at start events r.place thread r.read.query;
  };
}

-- reads with the rules' replies and with threads that rise at each place, after one of a thread at a place
abbrev pub true_reads_after : Start → List Event → ℕ → ℕ → List PlacedRead → List PlacedRead
true_reads_after start events place thread [] = []
true_reads_after start events place thread (r ∷ rs) =
    true_read start events (thread_after place thread r) r
    ∷ true_reads_after start events r.place (thread_after place thread r) rs

abbrev pub true_reads : Start → List Event → List PlacedRead → List PlacedRead
true_reads start events reads = true_reads_after start events 0 0 reads

-- the map gives each thread the number of its last event, 0 where it had none
abbrev pub IsCounted : Start → BTreeMap ℕ ℕ → List Event → Type 0
IsCounted start counts events =
    (thread : ℕ) → unwrap_or (get nat_cmp counts thread) 0 + 1 ≡ count thread events + start.first thread

-- the kernel is in the state that the events lead to from the start, and they are counted
pub record IsReplay (start : Start) (r : Replay) : Type 0 where
  pub state : kernel_state r.kernel ≡ state_from start.state r.events.items
  pub counted : IsCounted start r.counts r.events.items

-- the replay took the calls of an event again
pub record Takes (start : Start) (old : Replay) (e : Event) (new : Replay) : Type 0 where
  pub replay : IsReplay start new
  pub event : new.events.items ≡ old.events.items ++ true_event start old.events.items e ∷ []

-- the replay took the calls of these events again, from the start on
pub record TakesAll (start : Start) (events : List Event) (r : Replay) : Type 0 where
  pub replay : IsReplay start r
  pub all : r.events.items ≡ replayed start events
