-- Dumps: their lines in order, and their text.
use Rattle.std.specs.Prelude.{◌≡◌, ℕ, List, [], ◌∷◌, ◌++◌, map, Option, Some, None, Bool, false, true}
use Rattle.std.specs.Prelude.{◌==◌, ◌&&◌, ◌||◌, nat_le, length, ◌-◌, ◌*◌, if◌then◌else◌}
use Rattle.std.specs.List.{flat_map}
use Rattle.kernel_rules.specs.Events.{Event}
use Rattle.kernel_rules.specs.declared.histories.events.Answered.{Answered}
use Rattle.call_text.specs.Text.{Spells, FaultsAt, lines_text}
use Rattle.dump_text.specs.declared.places.Place.{Place}
use Rattle.dump_text.specs.declared.events.Single.{Single}
use Rattle.dump_text.specs.declared.lines.Line.{Line}
use Rattle.dump_text.specs.declared.lines.Line.TheVariants as lines
use Rattle.checkpoints.specs.Checkpoint.{Checkpoint}
use Rattle.dump_text.specs.declared.places.Pending.{Pending}
use Rattle.dump_text.specs.declared.places.Pending.TheVariants as pendings
use Rattle.dump_text.specs.declared.heads.Head.{Head}
use Rattle.dump_text.specs.declared.heads.Head.TheVariants as heads
use Rattle.dump_text.specs.declared.lines.Format.{Format}
use Rattle.dump_text.specs.declared.lines.Format.TheVariants as formats
use Rattle.dump_text.specs.declared.state_lines.Part.{Part}
use Rattle.dump_text.specs.declared.state_lines.Part.TheVariants as parts
use Rattle.dump_text.specs.declared.state_lines.StateLine.{StateLine}
use Rattle.dump_text.specs.declared.state_lines.StateLine.TheVariants as states
use Rattle.dump_text.specs.CheckpointLines.{start_lines}
use Rattle.dump_text.specs.Lists.{TableLists, DumpLists}
use Rattle.dump_text.specs.Reads.{read_line, in_turn, have_places}
use Rattle.dump_text.specs.declared.tables.PlacedRead.{PlacedRead}
use Rattle.dump_text.specs.Line.{line_text, IsLine}

-- the event that a line tells whole
abbrev pub event_of : Single → Event
event_of e = record { thread = e.thread; number = e.number; calls = e.answered ∷ [] }

-- one call is told in the event's line, several in a line each after that of the batch
abbrev pub lines_with : ℕ → ℕ → List Answered → List Line
lines_with thread number (a ∷ []) =
    lines.Event (record { thread = thread; number = number; answered = a }) ∷ []
lines_with thread number calls =
    lines.Batch (record { thread = thread; number = number; count = length calls })
    ∷ map lines.Call calls

-- the lines of an event
abbrev pub event_lines : Event → List Line
event_lines e = lines_with e.thread e.number e.calls

-- the lines of events, so many of which stand before them, and of reads, each at its place
abbrev pub told_lines : ℕ → List Event → List PlacedRead → List Line
told_lines place events reads = in_turn event_lines read_line place events reads

-- the lines of events and of the reads among them
abbrev pub history_lines : List Event → List PlacedRead → List Line
history_lines events [] = flat_map event_lines events
history_lines events (r ∷ rs) = told_lines 0 events (r ∷ rs)

-- the lines of the tables
abbrev pub table_lines : TableLists → List Line
table_lines t =
    map lines.Live t.live ++ (map lines.Use t.uses ++ (map lines.Map t.maps
    ++ (map lines.Label t.labels ++ map lines.Order t.orders)))

-- format 2 tells a checkpoint, and format 1 none
abbrev pub format_of : Option Checkpoint → Format
format_of None = formats.One
format_of (Some c) = formats.Two

-- the lines of a dump
abbrev pub lines_of : DumpLists → List Line
lines_of d =
    lines.Version (format_of d.checkpoint) ∷ lines.Limits d.limits
    ∷ (start_lines d.checkpoint ++ (history_lines d.events d.reads ++ table_lines d.tables))
    ++ lines.End ∷ []

-- the bytes of a dump
abbrev pub dump_text : DumpLists → List ℕ
dump_text d = lines_text line_text (lines_of d)

-- The kind of a line that may come any number of times, or last, by its place in the order of the
-- kinds.
abbrev pub state_rank : StateLine → ℕ
state_rank (states.Counters c) = 3
state_rank (states.Object o) = 4
state_rank (states.Part p) = 4
state_rank (states.Next n) = 5

abbrev pub rank_of : Line → ℕ
rank_of (lines.Version f) = 0
rank_of (lines.Limits l) = 2
rank_of (lines.State s) = state_rank s
rank_of (lines.Read r) = 6
rank_of (lines.Event e) = 7
rank_of (lines.Batch b) = 7
rank_of (lines.Call a) = 7
rank_of (lines.Live id) = 8
rank_of (lines.Use u) = 9
rank_of (lines.Map s) = 10
rank_of (lines.Label s) = 11
rank_of (lines.Order o) = 12
rank_of lines.End = 13

-- Whether the line may come where kinds from `first` on may. The first lines have no choice: 0 stands
-- before the version, 1 and 2 before the limits of formats 1 and 2, of which the first has up to 512
-- pages, and 3 before the counters.
abbrev pub comes : ℕ → Line → Bool
comes first (lines.Version f) = first == 0
comes first (lines.Limits l) = first == 1 && nat_le l.pages 512 || first == 2
comes first (lines.State (states.Counters c)) = first == 3
comes first l = nat_le 4 first && nat_le first (rank_of l)

-- which kinds may come after the version
abbrev pub after_version : Format → ℕ
after_version formats.One = 1
after_version formats.Two = 2

-- which kinds may come after an event: reads and events in turn, where reads could come before it, and else events alone
abbrev pub after_event : ℕ → ℕ
after_event first = if nat_le first 6 then 6 else 7

-- which kinds may come after the line: a checkpoint's counters after the limits of format 2, events
-- after those of format 1
abbrev pub after : ℕ → Line → ℕ
after first (lines.Version f) = after_version f
after first (lines.Limits l) = if first == 1 then 7 else 3
after first (lines.State (states.Counters c)) = 4
after first (lines.Event e) = after_event first
after first (lines.Batch b) = after_event first
after first (lines.Call a) = after_event first
after first lines.End = 14
after first l = rank_of l

-- how many lines of a segment or of a batch have to come before any other
abbrev pub rows_owed : Pending → ℕ
rows_owed (pendings.Rows n) = n
rows_owed o = 0

abbrev pub calls_owed : Pending → ℕ
calls_owed (pendings.Calls n) = n
calls_owed o = 0

abbrev pub owed : Pending → ℕ
owed (pendings.Rows n) = n
owed (pendings.Calls n) = n
owed o = 0

abbrev pub takes_entries : Pending → Bool
takes_entries pendings.Entries = true
takes_entries o = false

abbrev pub takes_slots : Pending → Bool
takes_slots pendings.Slots = true
takes_slots o = false

abbrev pub takes_packets : Pending → Bool
takes_packets pendings.Packets = true
takes_packets o = false

-- whether the part may come
abbrev pub takes : Pending → Part → Bool
takes o (parts.Entry id) = takes_entries o
takes o (parts.Row r) = nat_le 1 (rows_owed o)
takes o (parts.Slot f) = takes_slots o
takes o (parts.Packet d) = takes_packets o

-- a part comes where it is taken, a call where one is owed, and any other line where none is owed
abbrev pub is_due : Pending → Line → Bool
is_due o (lines.State (states.Part p)) = takes o p
is_due o (lines.Call a) = nat_le 1 (calls_owed o)
is_due o l = owed o == 0

-- which parts an object takes: those of a container, an address space and a device may be any number
abbrev pub opened_by : Head → Pending
opened_by (heads.Container h) = pendings.Entries
opened_by (heads.Segment h) = pendings.Rows (4 * h.pages)
opened_by (heads.AddressSpace h) = pendings.Slots
opened_by (heads.Thread h) = pendings.Nothing
opened_by (heads.Gate h) = pendings.Nothing
opened_by (heads.Device h) = pendings.Packets

-- what may still come after a part
abbrev pub pending_after_part : Pending → Part → Pending
pending_after_part o (parts.Row r) = pendings.Rows (rows_owed o - 1)
pending_after_part o p = o

-- which lines may come inside of what the line begins or goes on with
abbrev pub pending_after : Pending → Line → Pending
pending_after o (lines.State (states.Object h)) = opened_by h.head
pending_after o (lines.State (states.Part p)) = pending_after_part o p
pending_after o (lines.Batch b) = pendings.Calls b.count
pending_after o (lines.Call a) = pendings.Calls (calls_owed o - 1)
pending_after o l = pendings.Nothing

-- before the first line
abbrev pub start : Place
start = record { first = 0; pending = pendings.Nothing }

-- where a dump stands after one more line, None where the line may not come
unfoldable pub next : Place → Line → Option Place
next p l =
    if is_due p.pending l && comes p.first l
    then Some (record { first = after p.first l; pending = pending_after p.pending l })
    else None

-- a dump ends after its last line
abbrev pub ends : Place → Bool
ends p = p.first == 14 && owed p.pending == 0

-- the bytes spell this dump, whose reads stand in order
pub record IsDump (bytes : List ℕ) (d : DumpLists) : Type 0 where
  pub spelled : Spells line_text IsLine next ends start bytes (lines_of d)
  pub placed : have_places d.checkpoint d.events d.reads ≡ true

-- line n is the first at which the bytes stop being the beginning of a dump
abbrev pub DumpFaultsAt : List ℕ → ℕ → Type 0
DumpFaultsAt bytes n = FaultsAt line_text IsLine next ends start bytes n
