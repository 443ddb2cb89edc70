-- What stands in the book at the end of a run, and the file that the run writes.
use Rattle.std.specs.Prelude.{◌≡◌, ℕ, Bool, true, false, if◌then◌else◌, nat_lt, min, length}
use Rattle.std.specs.Prelude.{List, [], Some, take, drop}
use Rattle.std.specs.List.{list_all}
use Rattle.base.specs.declared.ranges.Limits.{Limits}
use Rattle.checkpoints.specs.Checkpoint.{Checkpoint}
use Rattle.checkpoints.specs.Starts.{IsCheckpointOf}
use Rattle.kernel_rules.specs.History.{IsLegal, state_of}
use Rattle.kernel_rules.specs.Scratch.{scratch}
use Rattle.kernel_rules.specs.Tables.{TableLists}
use Rattle.kernel_rules.specs.Events.{Event}
use Rattle.dump_text.specs.Dump.{IsDump}
use Rattle.dump_text.specs.Line.{IsBootable}
use Rattle.dump_text.specs.Whole.{IsLegalDump, whole_dump}
use Rattle.script_runner.specs.Reads.{told_reads, AreInOrder, ThreadRead}
use Rattle.script_runner.specs.declared.reads.SeenRead.{SeenRead}

-- a legal journal after a boot with these limits, and the tables of the state that it leads to
abbrev pub IsClosing : Limits → List Event → TableLists → Type 0
IsClosing limits events tables =
    IsLegal limits events × (tables ≡ scratch (state_of limits events))

-- such a journal and such tables, and the limits are in range
abbrev pub IsPlayed : Limits → List Event → TableLists → Type 0
IsPlayed limits events tables = IsBootable limits × IsClosing limits events tables

-- whether each of these events is of a thread that was given by their end, as each event through a seat is
abbrev pub are_given : Limits → List Event → Bool
are_given limits events = list_all (λ e. nat_lt e.thread (state_of limits events).next_id) events

-- so many of the first events, and none where one of them is of a thread that was never given
abbrev pub if_given : Limits → ℕ → List Event → ℕ
if_given limits k events = if are_given limits (take k events) then k else 0

-- how many of the first events are told by a checkpoint: as many as are asked for, or all
abbrev pub folded : Limits → ℕ → List Event → ℕ
folded limits n events = if_given limits (min n (length events)) events

-- The bytes are the dump of these events, which are a legal journal. The first events, n or all, are told by their
-- checkpoint. Of the reads it tells those that had seen the first events and that the rules answer as the run did.
pub record IsRunDump (limits : Limits) (n : ℕ) (events : List Event) (reads : List SeenRead) (bytes : List ℕ) : Type 0 where
  pub checkpoint : Checkpoint
  pub legal : IsLegal limits events
  pub made : IsCheckpointOf limits (take (folded limits n events) events) checkpoint
  pub told : IsDump bytes (whole_dump limits (Some checkpoint) (drop (folded limits n events) events)
      (told_reads limits (folded limits n events) events reads))
  pub dump : IsLegalDump limits (Some checkpoint) bytes

-- the bytes of a run's file: the dump of these events and of these queries where one is asked for, with the
-- checkpoint of its first n events, and else none
abbrev pub IsFileOf : Bool → ℕ → Limits → List Event → List ThreadRead → List ℕ → Type 0
IsFileOf true n limits events asked bytes =
    (reads : List SeenRead) × AreInOrder asked reads × IsRunDump limits n events reads bytes
IsFileOf false n limits events asked bytes = bytes ≡ []

-- the same, of some events and queries
abbrev pub IsFile : Bool → ℕ → Limits → List ℕ → Type 0
IsFile dump n limits bytes = (events : List Event) × (asked : List ThreadRead) × IsFileOf dump n limits events asked bytes
