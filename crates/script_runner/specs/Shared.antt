-- A run whose workers share phases: what each line is told, and what the workers leave.
use mathlib.Core.List.{IsPrefix}
use Rattle.std.specs.Prelude.{◌≡◌, ℕ, Bool, MatchBool, List, [], ◌∷◌, ◌++◌, ◌+◌, ◌==◌, length, map, flat_map, Option, Some, None, Result, Ok, Err, OnOk, if◌then◌else◌}
use Rattle.std.specs.List.{filter_map, list_any, AllByRecursion, AllZip}
use Rattle.std.specs.Str.{bytes_eq}
use Rattle.base.specs.declared.ranges.Limits.{Limits}
use Rattle.base.specs.declared.refusals.Refusal.{Refusal}
use Rattle.kernel_rules.specs.Events.{Event}
use Rattle.kernel_rules.specs.History.{IsLegal}
use Rattle.call_text.specs.Known.{start_values, value_of}
use Rattle.call_text.specs.Resolve.{resolved}
use Rattle.call_text.specs.declared.asking.Asked.{Asked}
use Rattle.call_text.specs.declared.known_names.Named.{Named}
use Rattle.call_text.specs.declared.known_names.Value.{Value}
use Rattle.call_text.specs.declared.known_names.Value.TheVariants.{Object, Category}
use Rattle.call_text.specs.declared.phases.Line.{Line}
use Rattle.script_rules.specs.Lines.{AnsweredLine, Seen, Stand, make, tell, unseated}
use Rattle.script_rules.specs.Output.{told_text}
use Rattle.script_rules.specs.Run.{refusal_by, room_for, seat_for, seated}
use Rattle.script_rules.specs.Workers.{lines_in, workers_of}
use Rattle.published_copy.specs.Turns.{Turn}
use Rattle.script_runner.specs.Names.{all_bound}
use Rattle.script_runner.specs.Reads.{reads_by, ThreadRead}
use Rattle.script_runner.specs.Workers.{lines_of}
use Rattle.script_runner.specs.declared.answers.Left.{Left}

-- the worker has then seen these events
abbrev pub seeing : List Event → Stand → Stand
seeing events p = record p { events = events }

-- a line waits that asks this
abbrev pub with_waiting : Stand → ℕ → Option (List ℕ) → Result Asked (List ℕ) → Stand
with_waiting p number binds asks = record p {
  waiting = p.waiting ++ record { number = number; binds = binds; asks = asks } ∷ [];
}

-- a line waits, and asks what it means with the names that its worker bound in this phase, and with those known before
abbrev pub wait_among : List Named → Stand → Line → Stand
wait_among known p l = with_waiting p l.number l.binds (resolved l.call (p.names ++ known))

-- the thread asks what waits, when it has seen these events
abbrev pub made_after : Limits → ℕ → Stand → List Event → Stand
made_after limits thread p events = make limits thread (seeing events p)

-- after one more line of a worker with this seat, which has seen these events when the line is asked
abbrev pub line_among : Limits → List Named → Result ℕ (Option Refusal) → Stand → Line → List Event → Stand
line_among limits known (Ok thread) p l events =
    if l.more then wait_among known p l else made_after limits thread (wait_among known p l) events
line_among limits known (Err refusal) p l events = tell p l.number l.binds (unseated refusal l.worker)

-- a worker's stand, and what its note tells the others
pub record NotedStand : Type 0 where
  pub stand : Stand
  pub noted : List Event

abbrev pub with_note : List Event → Stand → NotedStand
with_note noted p = record { stand = p; noted = noted }

-- what a note tells then, of a worker that had seen some events: all that it has seen, if it made one more, and else what it told
abbrev pub noted_then : List Event → List Event → List Event → List Event
noted_then noted before after = if length after == length before + 1 then after else noted

-- the stand is the first one's, with more events that others made since
abbrev pub IsAfter : (List Event → Stand) → NotedStand → NotedStand → Type 0
IsAfter make_after p q =
    (events : List Event) × IsPrefix p.stand.events events × (q.stand ≡ make_after events)
    × (q.noted ≡ noted_then p.noted events q.stand.events)

-- a worker's lines, one after another: as each is asked, it has seen what it had seen, and what others did since
abbrev pub IsPlayed : Limits → List Named → Result ℕ (Option Refusal) → NotedStand → List Line → NotedStand → Type 0
IsPlayed limits known seat p [] q = q ≡ p
IsPlayed limits known seat p (l ∷ more) q =
    (between : NotedStand) × IsAfter (line_among limits known seat p.stand l) p between
    × IsPlayed limits known seat between more q

-- a worker: the thread of its seat, or what refuses it one, the events that it has seen, those that its note tells the others,
-- the names that its lines bound in this phase, what its lines were told, and what it read
pub record Post : Type 0 where
  pub worker : List ℕ
  pub seat : Result ℕ (Option Refusal)
  pub events : List Event
  pub noted : List Event
  pub names : List Named
  pub told : List AnsweredLine
  pub reads : List Seen

-- before the first phase
abbrev pub unplayed : List ℕ → Post
unplayed worker =
    record { worker = worker; seat = Err None; events = []; noted = []; names = []; told = []; reads = [] }

-- it has a line among these
abbrev pub takes_part : List ℕ → List Line → Bool
takes_part worker phase = list_any (λ l. bytes_eq l.worker worker) phase

-- the thread of a seat
abbrev pub thread_in : Result ℕ (Option Refusal) → Option ℕ
thread_in (Ok thread) = Some thread
thread_in (Err refusal) = None

-- the object that a name is bound to
abbrev pub object_in : Option Value → Option ℕ
object_in (Some (Object id)) = Some id
object_in (Some (Category c)) = None
object_in None = None

-- a seat for what its name is bound to, where it has none: as it is given or refused one after some events, where some threads
-- have seats
pub record IsSeated (limits : Limits) (room : ℕ) (bound : Option Value) (before after : Result ℕ (Option Refusal)) : Type 0 where
  pub events : List Event
  pub taken : List ℕ
  pub legal : IsLegal limits events
  pub seat : after ≡ seated (thread_in before) (seat_for (refusal_by limits room events taken) bound)

-- what its note tells once it sits, when it has seen these events: all of them, where it had no seat
abbrev pub noted_at : Result ℕ (Option Refusal) → List Event → List Event → List Event
noted_at (Ok thread) noted events = noted
noted_at (Err refusal) noted events = events

-- the worker takes its seat
pub record Seats (limits : Limits) (room : ℕ) (known : List Named) (before after : Post) : Type 0 where
  pub seat : IsSeated limits room (value_of before.worker known) before.seat after.seat
  pub seen : IsPrefix before.events after.events
  pub noted : after.noted ≡ noted_at before.seat before.noted after.events
  pub rest : after ≡ record before { seat = after.seat; events = after.events; noted = after.noted }

-- before a phase: it takes its seat, if it has lines there
abbrev pub Sits : Limits → ℕ → List Named → List Line → Post → Post → Type 0
Sits limits room known phase before after =
    MatchBool (takes_part before.worker phase) (Seats limits room known before after) (after ≡ before)

abbrev pub stand_of : Post → Stand
stand_of p = record { events = p.events; names = p.names; waiting = []; told = p.told; reads = p.reads }

abbrev pub left_at : Post → NotedStand → Post
left_at b p = record b {
  events = p.stand.events;
  noted = p.noted;
  names = p.stand.names;
  told = p.stand.told;
  reads = p.stand.reads;
}

-- it plays its lines of a phase
abbrev pub Plays : Limits → List Named → List Line → Post → Post → Type 0
Plays limits known phase before after =
    (p : NotedStand)
    × IsPlayed limits known before.seat (with_note before.noted (stand_of before)) (lines_of before.worker phase) p
    × (after ≡ left_at before p)

-- the note of a worker that has a seat
abbrev pub note_by : Result ℕ (Option Refusal) → List Event → Option (List Event)
note_by (Ok thread) noted = Some noted
note_by (Err refusal) noted = None

abbrev pub note_of : Post → Option (List Event)
note_of p = note_by p.seat p.noted

-- the notes of workers
abbrev pub notes_of : List Post → List (List Event)
notes_of posts = filter_map note_of posts

-- each note tells no more than these events
abbrev pub AreLearnt : List (List Event) → List Event → Type 0
AreLearnt notes events = AllByRecursion (λ note. IsPrefix note events) notes

-- after a phase: where it has a seat, it has seen what the notes tell, and tells that itself; its names are all workers'
pub record Settles (notes : List (List Event)) (before after : Post) : Type 0 where
  pub seen : IsPrefix before.events after.events
  pub noted : IsPrefix before.noted after.noted
  pub learnt : OnOk before.seat (AreLearnt notes after.noted × IsPrefix after.noted after.events)
  pub rest : after ≡ record before { events = after.events; noted = after.noted; names = [] }

-- the names that are known once what workers bound in a phase is known to all
abbrev pub all_known : List Post → List Named → List Named
all_known [] known = known
all_known (p ∷ ps) known = all_known ps (all_bound p.names known)

-- a phase
pub record IsPhase (limits : Limits) (room : ℕ) (phase : List Line) (known : List Named) (before : List Post) (known' : List Named)
    (after : List Post) : Type 0 where
  pub seated : List Post
  pub played : List Post
  pub sits : AllZip (Sits limits room known phase) before seated
  pub plays : AllZip (Plays limits known phase) seated played
  pub names : known' ≡ all_known played known
  pub settles : AllZip (Settles (notes_of played)) played after

-- phases, one after another
abbrev pub ArePhases : Limits → ℕ → List (List Line) → List Named → List Post → List Named → List Post → Type 0
ArePhases limits room [] known before known' after = (known' ≡ known) × (after ≡ before)
ArePhases limits room (phase ∷ more) known before known' after =
    (names : List Named) × (between : List Post) × IsPhase limits room phase known before names between
    × ArePhases limits room more names between known' after

-- the lines of workers, with the names as they are known at the end
abbrev pub posts_text : List Named → List Post → List ℕ
posts_text known posts = flat_map (λ p. flat_map (told_text known p.worker) p.told) posts

-- the queries that they were answered, one worker's after another's
abbrev pub posts_reads : List Post → List ThreadRead
posts_reads posts = flat_map (λ p. reads_by (thread_in p.seat) p.reads) posts

-- what a script of these workers, who share phases, leaves: what each saw begins the events, these names are known at the end, the
-- text is of what each was told, and these queries were answered
pub record IsSharedBy (limits : Limits) (room : ℕ) (script : List (List Line)) (workers : List (List ℕ)) (text : List ℕ)
    (events : List Event) (known : List Named) (asked : List ThreadRead) : Type 0 where
  pub posts : List Post
  pub phases : ArePhases limits room script start_values (map unplayed workers) known posts
  pub seen : AllByRecursion (λ p. IsPrefix p.events events) posts
  pub output : text ≡ posts_text known posts
  pub reads : asked ≡ posts_reads posts

-- the same of a script
abbrev pub IsShared : Limits → List (List Line) → List ℕ → List Event → List Named → List ThreadRead → Type 0
IsShared limits script text events known asked =
    IsSharedBy limits (room_for (workers_of (lines_in script))) script (workers_of (lines_in script)) text events known asked

-- the pass, where there is one, has seen these events; else they are none
abbrev pub HasSeen : Option Turn → List Event → Type 0
HasSeen (Some pass) events = pass.seen ≡ events
HasSeen None events = events ≡ []

-- what a worker leaves: its thread, what its lines were told and what it read
pub record IsLeftBy (p : Post) (l : Left) : Type 0 where
  pub thread : l.thread ≡ thread_in p.seat
  pub told : l.answers.told ≡ p.told
  pub reads : l.answers.reads ≡ p.reads

abbrev pub AreLeft : List Post → List Left → Type 0
AreLeft posts left = AllZip IsLeftBy posts left

-- what the pass has seen, where there is one, begins the events
abbrev pub AreSeen : List Event → Option Turn → Type 0
AreSeen events (Some pass) = IsPrefix pass.seen events
AreSeen events None = Unit {0}

-- the names, and what workers and their passes leave, are of a script that was played
pub record IsAnswered (limits : Limits) (room : ℕ) (script : List (List Line)) (workers : List (List ℕ)) (known : List Named)
    (left : List Left) (passes : List (Option Turn)) : Type 0 where
  pub posts : List Post
  pub phases : ArePhases limits room script start_values (map unplayed workers) known posts
  pub left_is : AreLeft posts left
  pub seen : AllZip (λ p pass. HasSeen pass p.events) posts passes

-- the lines of workers, by what they leave
abbrev pub left_text : List Named → List (List ℕ) → List Left → List ℕ
left_text known [] left = []
left_text known (w ∷ workers) [] = []
left_text known (w ∷ workers) (l ∷ left) = flat_map (told_text known w) l.answers.told ++ left_text known workers left
