-- A kernel, and the log of its calls where one is kept: the events of write calls, and reads among them.
use Rattle.std.specs.Prelude.{◌≡◌, ℕ, ◌+◌, ◌<◌, ◌&&◌, nat_le, List, [], ◌∷◌, ◌++◌, length, take, drop, Bool, true, false, Option, Some, None, option_map, if◌then◌else◌}
use Rattle.std.specs.List.{AllByRecursion}
use Rattle.base.specs.Limits.{in_range}
use Rattle.base.specs.declared.ranges.Limits.{Limits}
use Rattle.checkpoints.specs.Checkpoint.{Checkpoint}
use Rattle.checkpoints.specs.Restorable.{is_restorable}
use Rattle.checkpoints.specs.Restored.{restored}
use Rattle.checkpoints.specs.Starts.{number_of, start_of}
use Rattle.checkpoints.specs.declared.checkpoints.NextNumber.{NextNumber}
use Rattle.kernel_rules.specs.Events.{Event, told}
use Rattle.kernel_rules.specs.History.{Start, count, state_from, IsLegalFrom}
use Rattle.kernel_rules.specs.State.{State}
use Rattle.kernel_rules.specs.Scratch.{scratch}
use Rattle.kernel_rules.specs.Step.{answer, next, query_answer}
use Rattle.kernel_rules.specs.declared.calls.Call.{Call}
use Rattle.kernel_rules.specs.declared.calls.Query.{Query}
use Rattle.call_text.specs.Text.{lines_text}
use Rattle.dump_text.specs.CheckpointLines.{start_lines}
use Rattle.dump_text.specs.Dump.{dump_text}
use Rattle.dump_text.specs.Fits.{FitsLine, FitTables}
use Rattle.dump_text.specs.Line.{line_text}
use Rattle.dump_text.specs.Pieces.{head_lines, part_text, piece_at, tail_lines}
use Rattle.dump_text.specs.Whole.{placed, whole_dump, AreRead, IsLegalDump}
use Rattle.dump_text.specs.declared.pieces.Piece.{Piece}
use Rattle.dump_text.specs.declared.pieces.Piece.TheVariants as pieces
use Rattle.dump_text.specs.declared.tables.PlacedRead.{PlacedRead}
use Rattle.syscall_core.specs.Kernel.{kernel_state}
use Rattle.syscall_core.specs.declared.kernel.Kernel.{Kernel}
use Rattle.logged_kernel.specs.Entries.{Tell, FitsEntry, among, entry_text, events_of}
use Rattle.logged_kernel.specs.Numbers.{AreLast}
use Rattle.logged_kernel.specs.ReadLines.{line_of, read_of}
use Rattle.logged_kernel.specs.declared.entries.Entry.{Entry}
use Rattle.logged_kernel.specs.declared.entries.Entry.TheVariants as entries
use Rattle.logged_kernel.specs.declared.logging.EventLog.{EventLog}

-- the kernel, its limits, the checkpoint at which its log begins, whether no write call was made since, what is kept of the
-- calls since, where a log is, how much may be kept, and whether reads are
pub record Logged : Type 0 where
  pub kernel : Kernel
  pub limits : Limits
  pub origin : Checkpoint
  pub is_new : Bool
  pub log : Option (List Entry)
  pub most : ℕ
  pub reads : Bool

-- what is kept
abbrev pub entries_in : Option EventLog → Option (List Entry)
entries_in log = option_map (λ (l : EventLog). l.entries.items) log

-- the log, where one is kept, has the number of each thread's last event
abbrev pub IsNumbered : List NextNumber → Option EventLog → Type 0
IsNumbered first None = Unit {0}
IsNumbered first (Some log) = AreLast first log.last (events_of log.entries.items)

-- the event of a call that a thread makes after these events: its next number, and the call with its answer
abbrev pub event_after : Start → List Event → ℕ → Call → Event
event_after start events thread call = record {
  thread = thread;
  number = count thread events + start.first thread;
  calls = told call (answer (state_from start.state events) thread call) ∷ [];
}

-- what is kept with that one at its end
abbrev pub with_call : Start → ℕ → Call → List Entry → List Entry
with_call start thread call kept = kept ++ entries.Event (event_after start (events_of kept) thread call) ∷ []

-- with the line of a thread's query, which is answered in this state
abbrev pub with_read : State → ℕ → Query → List Entry → List Entry
with_read s thread query kept = among (line_of (read_of thread query (query_answer s thread query))) kept

-- there is as much as may be kept
abbrev pub is_filled : ℕ → Option (List Entry) → Bool
is_filled most None = false
is_filled most (Some kept) = nat_le most (length kept)

-- the log has as much as it may have
abbrev pub is_full : Logged → Bool
is_full k = is_filled k.most k.log

-- a log is kept, and reads in it
abbrev pub is_kept : Option (List Entry) → Bool
is_kept None = false
is_kept (Some kept) = true

abbrev pub keeps_reads : Logged → Bool
keeps_reads k = k.reads && is_kept k.log

-- the events are legal, and lead to the state; the reads have the rules' replies, each at its place
pub record Leads (start : Start) (s : State) (kept : List Entry) : Type 0 where
  pub legal : IsLegalFrom start (events_of kept)
  pub state : s ≡ state_from start.state (events_of kept)
  pub told : (reads : List PlacedRead) × Tell 0 kept reads × AreRead start (events_of kept) reads

abbrev pub IsLog : Start → State → Option (List Entry) → Type 0
IsLog start s None = Unit {0}
IsLog start s (Some kept) = Leads start s kept

-- the limits are the kernel's and in range, the checkpoint can be restored, a new kernel is in its state, and the log leads from there to the
-- kernel's state
pub record IsSound (limits : Limits) (origin : Checkpoint) (s : State) (is_new : Bool) (kept : Option (List Entry)) : Type 0 where
  pub same : s.limits ≡ limits
  pub range : in_range limits ≡ true
  pub fit : is_restorable limits origin ≡ true
  pub new : is_new ≡ true → s ≡ restored limits origin
  pub log : IsLog (start_of limits origin) s kept

-- a call was made: the kernel is in the next state, and the call's event is the last of those that are kept
pub record IsMade (before after : Logged) (thread : ℕ) (call : Call) : Type 0 where
  pub state : kernel_state after.kernel ≡ next (kernel_state before.kernel) thread call
  pub limits : after.limits ≡ before.limits
  pub origin : after.origin ≡ before.origin
  pub called : after.is_new ≡ false
  pub log : after.log ≡ option_map (with_call (start_of before.limits before.origin) thread call) before.log
  pub most : after.most ≡ before.most
  pub reads : after.reads ≡ before.reads

-- a query was asked: where reads are kept, its line is
abbrev pub with_query : Logged → ℕ → Query → Logged
with_query k thread query = record {
  kernel = k.kernel;
  limits = k.limits;
  origin = k.origin;
  is_new = k.is_new;
  log = if k.reads then option_map (with_read (kernel_state k.kernel) thread query) k.log else k.log;
  most = k.most;
  reads = k.reads;
}

-- the log, of so much at most, begins where no call was made, with reads or without
abbrev pub begun : ℕ → Bool → Logged → Logged
begun most reads k =
    if k.is_new
    then record { kernel = k.kernel; limits = k.limits; origin = k.origin; is_new = k.is_new; log = Some []; most = most; reads = reads }
    else k

-- the number of a thread's next event after these events: 1 where none are kept
abbrev pub number_after : Start → Option (List Entry) → ℕ → ℕ
number_after start None thread = 1
number_after start (Some kept) thread = count thread (events_of kept) + start.first thread

-- these are the next numbers of the threads that were given
abbrev pub AreNumbered : Logged → List NextNumber → Type 0
AreNumbered k next =
    (thread : ℕ) → thread < (kernel_state k.kernel).next_id
    → number_of next thread ≡ number_after (start_of k.limits k.origin) k.log thread

-- the checkpoint writes down the kernel's state, and the next number of each thread that was given
pub record Writes (k : Logged) (c : Checkpoint) : Type 0 where
  pub state : restored k.limits c ≡ kernel_state k.kernel
  pub fit : is_restorable k.limits c ≡ true
  pub numbers : AreNumbered k c.next

-- the text of the dump of a checkpoint, with no events
abbrev pub checkpoint_text : Limits → Checkpoint → List ℕ
checkpoint_text limits c = dump_text (whole_dump limits (Some c) [] [])

-- this text, which is a legal dump's
abbrev pub IsTextOf : Limits → Checkpoint → List ℕ → Type 0
IsTextOf limits c text = (text ≡ checkpoint_text limits c) × IsLegalDump limits (Some c) text

-- the text of a checkpoint that writes down the kernel
abbrev pub IsWritten : Logged → List ℕ → Type 0
IsWritten k text = (c : Checkpoint) × Writes k c × IsTextOf k.limits c text

-- the log begins anew at the kernel as it stands, of so much at most, with reads or without
pub record IsCut (bound : ℕ) (has_reads : Bool) (before after : Logged) : Type 0 where
  pub kernel : after.kernel ≡ before.kernel
  pub limits : after.limits ≡ before.limits
  pub origin : Writes before after.origin
  pub log : after.log ≡ Some []
  pub most : after.most ≡ bound
  pub reads : after.reads ≡ has_reads

-- the text of the piece with this number of the log's dump: what stands before the events, up to 64 entries each, and the tables
abbrev pub piece_text : Limits → Checkpoint → State → List Entry → ℕ → List ℕ
piece_text limits origin s kept number =
    part_text entry_text (lines_text line_text (head_lines limits (Some origin)))
    (lines_text line_text (tail_lines (placed (scratch s)))) kept (piece_at (length kept) number)

-- the values of a piece fit their words
abbrev pub FitsPiece : Checkpoint → State → List Entry → Piece → Type 0
FitsPiece origin s kept pieces.Head = AllByRecursion FitsLine (start_lines (Some origin))
FitsPiece origin s kept (pieces.Events from) = AllByRecursion FitsEntry (take 64 (drop from kept))
FitsPiece origin s kept pieces.Tables = FitTables (placed (scratch s))
FitsPiece origin s kept pieces.Nothing = Unit {0}

-- the bytes are that piece
pub record IsPiece (k : Logged) (kept : List Entry) (number : ℕ) (bytes : List ℕ) : Type 0 where
  pub text : bytes ≡ piece_text k.limits k.origin (kernel_state k.kernel) kept number
  pub fits : FitsPiece k.origin (kernel_state k.kernel) kept (piece_at (length kept) number)

-- they are the first pieces, and the next one is empty
pub record ArePieces (k : Logged) (kept : List Entry) (texts : ℕ → List ℕ) (number : ℕ) : Type 0 where
  pub each : (n : ℕ) → n < number → IsPiece k kept n (texts n)
  pub last : IsPiece k kept number []

-- the limits are in range, the checkpoint can be restored, and what is kept leads from there to the kernel's state
pub record IsRight (k : Logged) (kept : List Entry) : Type 0 where
  pub range : in_range k.limits ≡ true
  pub begin : is_restorable k.limits k.origin ≡ true
  pub leads : Leads (start_of k.limits k.origin) (kernel_state k.kernel) kept

-- a piece of the dump of what is kept, which is right; there is none where no log is
abbrev pub IsPieceOf : Logged → ℕ → Option (List ℕ) → Type 0
IsPieceOf k number None = k.log ≡ None
IsPieceOf k number (Some bytes) = (kept : List Entry) × (k.log ≡ Some kept) × IsPiece k kept number bytes × IsRight k kept
