-- A run of a script whose workers take turns: what its lines are told, and what it leaves.
use Rattle.std.specs.Prelude.{ℕ, ◌==◌, ◌||◌, not, nat_lt, min, max, List, [], ◌∷◌, ◌++◌, map, length}
use Rattle.std.specs.Prelude.{Option, Some, None, Result, Ok, Err, if◌then◌else◌}
use Rattle.std.specs.Str.{bytes_eq}
use Rattle.base.specs.Live.{has}
use Rattle.base.specs.declared.kinds.Kind.TheVariants as kinds
use Rattle.base.specs.declared.ranges.Limits.{Limits}
use Rattle.base.specs.declared.refusals.Refusal.{Refusal}
use Rattle.base.specs.declared.refusals.Refusal.TheVariants.{SeatTaken, NoThread, SeatsSpent}
use Rattle.kernel_rules.specs.Events.{Event}
use Rattle.kernel_rules.specs.History.{count, state_of}
use Rattle.kernel_rules.specs.State.{is_live_kind}
use Rattle.call_text.specs.Known.{start_values, value_of}
use Rattle.call_text.specs.declared.known_names.Named.{Named}
use Rattle.call_text.specs.declared.known_names.Value.{Value}
use Rattle.call_text.specs.declared.known_names.Value.TheVariants.{Object, Category}
use Rattle.call_text.specs.declared.phases.Line.{Line}
use Rattle.script_rules.specs.Lines.{AnsweredLine, Seen, Stand, lines_by}
use Rattle.script_rules.specs.Workers.{lines_in, workers_of}

-- a run so far: each worker that has a seat with its thread, the events, the names that are known, and what each line was
-- told and which queries were answered, in the order of the lines, each with the worker
pub record Run : Type 0 where
  pub seats : List (List ℕ × ℕ)
  pub events : List Event
  pub names : List Named
  pub told : List (List ℕ × AnsweredLine)
  pub reads : List (List ℕ × Seen)

-- before the first line
abbrev pub start : Run
start = record { seats = []; events = []; names = start_values; told = []; reads = [] }

-- the thread of a worker, where it has a seat
abbrev pub thread_of : List ℕ → List (List ℕ × ℕ) → Option ℕ
thread_of worker [] = None
thread_of worker (s ∷ seats) = if bytes_eq s.0 worker then Some s.1 else thread_of worker seats

-- why a thread is given no seat of so many, where these have one: it is among them, or has called; it is no live thread; all
-- are given
abbrev pub refusal_by : Limits → ℕ → List Event → List ℕ → ℕ → Option Refusal
refusal_by limits room events seated thread =
    if has seated thread || nat_lt 0 (count thread events) then Some SeatTaken
    else if not (is_live_kind (state_of limits events) kinds.Thread thread) then Some NoThread
    else if length seated == room then Some SeatsSpent
    else None

abbrev pub refusal_of : Limits → ℕ → Run → ℕ → Option Refusal
refusal_of limits room r thread = refusal_by limits room r.events (map (λ s. s.1) r.seats) thread

-- a seat for a thread, or what refuses it
abbrev pub unless_refused : ℕ → Option Refusal → Result ℕ (Option Refusal)
unless_refused thread None = Ok thread
unless_refused thread (Some refusal) = Err (Some refusal)

-- a seat for what a worker's name is bound to, where it is an object and nothing refuses it one
abbrev pub seat_for : (ℕ → Option Refusal) → Option Value → Result ℕ (Option Refusal)
seat_for refusal (Some (Object thread)) = unless_refused thread (refusal thread)
seat_for refusal (Some (Category c)) = Err None
seat_for refusal None = Err None

-- the thread that makes a worker's calls: that of its seat, or of the one that it is given
abbrev pub seated : Option ℕ → Result ℕ (Option Refusal) → Result ℕ (Option Refusal)
seated (Some thread) new = Ok thread
seated None new = new

abbrev pub seat_of : Limits → ℕ → Run → List ℕ → Result ℕ (Option Refusal)
seat_of limits room r worker =
    seated (thread_of worker r.seats) (seat_for (refusal_of limits room r) (value_of worker r.names))

-- the seats with that of a worker which had this
abbrev pub with_seat : List (List ℕ × ℕ) → List ℕ → Option ℕ → Result ℕ (Option Refusal) → List (List ℕ × ℕ)
with_seat seats worker None (Ok thread) = seats ++ (worker, thread) ∷ []
with_seat seats worker None (Err refusal) = seats
with_seat seats worker (Some thread) seat = seats

-- where a worker stands before its phase
abbrev pub stand_in : Run → Stand
stand_in r = record { events = r.events; names = r.names; waiting = []; told = []; reads = [] }

-- what it was told goes to what was told, with its name
abbrev pub after_phase : Run → List (List ℕ × ℕ) → List ℕ → Stand → Run
after_phase r seats worker p = record {
  seats = seats;
  events = p.events;
  names = p.names;
  told = r.told ++ map (λ t. (worker, t)) p.told;
  reads = r.reads ++ map (λ t. (worker, t)) p.reads;
}

-- the worker, which has this seat, plays the lines
abbrev pub played_by : Limits → Run → List ℕ → Result ℕ (Option Refusal) → List Line → Run
played_by limits r worker seat lines =
    after_phase r (with_seat r.seats worker (thread_of worker r.seats) seat) worker
    (lines_by limits seat (stand_in r) lines)

-- a phase, which is of the worker of its first line
abbrev pub phase_after : Limits → ℕ → Run → List Line → Run
phase_after limits room r [] = r
phase_after limits room r (l ∷ more) = played_by limits r l.worker (seat_of limits room r l.worker) (l ∷ more)

-- phases, one after another
abbrev pub run_from : Limits → ℕ → Run → List (List Line) → Run
run_from limits room r [] = r
run_from limits room r (phase ∷ more) = run_from limits room (phase_after limits room r phase) more

-- a seat for each worker, and 64 at most
abbrev pub room_for : List (List ℕ) → ℕ
room_for workers = max 1 (min 64 (length workers))

-- the run of a script
abbrev pub run : Limits → List (List Line) → Run
run limits phases = run_from limits (room_for (workers_of (lines_in phases))) start phases
