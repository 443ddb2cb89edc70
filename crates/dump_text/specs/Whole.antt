-- The dump of a list of events, from a boot or a checkpoint: with reads among them, and the tables of
-- the state that they lead to.
use Rattle.std.specs.Prelude.{◌≡◌, ℕ, ◌+◌, ◌≤◌, ◌==◌, ◌||◌, ◌&&◌, not, nat_le, take}
use Rattle.std.specs.Prelude.{Bool, true, List, [], ◌∷◌, Option, Some, None}
use Rattle.std.specs.List.{AllByRecursion}
use Rattle.base.specs.declared.ranges.Limits.{Limits}
use Rattle.label_lattice.specs.Raw.{raw_of}
use Rattle.label_lattice.specs.declared.raw_labels.RawLabel.{RawLabel}
use Rattle.kernel_rules.specs.Step.{query_answer}
use Rattle.kernel_rules.specs.declared.calls.Query.{Query}
use Rattle.kernel_rules.specs.declared.objects.Mapping.{Mapping}
use Rattle.kernel_rules.specs.declared.replies.Reply.{Reply}
use Rattle.kernel_rules.specs.declared.replies.Reply.TheVariants as replies
use Rattle.kernel_rules.specs.Events.{Event}
use Rattle.checkpoints.specs.Checkpoint.{Checkpoint}
use Rattle.checkpoints.specs.Restorable.{is_restorable}
use Rattle.checkpoints.specs.Starts.{start_of}
use Rattle.kernel_rules.specs.History.{Start, boot_start, IsLegalFrom, state_from}
use Rattle.kernel_rules.specs.Scratch.{scratch}
use Rattle.kernel_rules.specs.Tables.{TableLists as Kept}
use Rattle.dump_text.specs.Dump.{IsDump}
use Rattle.dump_text.specs.Line.{IsBootable}
use Rattle.dump_text.specs.Lists.{TableLists, DumpLists, dump_with}
use Rattle.dump_text.specs.declared.read_replies.ReadReply.{ReadReply}
use Rattle.dump_text.specs.declared.read_replies.ReadReply.TheVariants as raw
use Rattle.dump_text.specs.declared.tables.PlacedRead.{PlacedRead}
use Rattle.dump_text.specs.declared.tables.Stored.{Stored}

-- labels with their places, the first of which is i
abbrev pub placed_from : ℕ → List RawLabel → List Stored
placed_from i [] = []
placed_from i (l ∷ ls) = record { index = i; label = l } ∷ placed_from (i + 1) ls

-- the tables of a kernel, each label with its place
abbrev pub placed : Kept → TableLists
placed t = record {
  live = t.live;
  uses = t.uses;
  maps = t.shown;
  labels = placed_from 0 t.labels;
  orders = t.orders;
}

-- where events begin: at the boot with these limits, or at the checkpoint
abbrev pub start_with : Limits → Option Checkpoint → Start
start_with limits None = boot_start limits
start_with limits (Some c) = start_of limits c

-- what a slot maps, as it stands in a dump
abbrev pub mapped_reply : Option Mapping → ReadReply
mapped_reply None = raw.Unmapped
mapped_reply (Some m) = raw.Mapping m

-- a query's reply, as it stands in a dump. A reply that write calls alone have is told as an empty slot's
abbrev pub raw_reply : Reply → ReadReply
raw_reply (replies.Own l c v space point closure) =
    raw.Own (record {
      label = raw_of l;
      thread = record {
        clearance = raw_of c;
        verify = raw_of v;
        space = space;
        entry_point = point;
        closure = closure;
      };
    })
raw_reply (replies.Label l) = raw.Label (record { label = raw_of l })
raw_reply (replies.Quota quota used fixed immutable) =
    raw.Quota (record { quota = quota; used = used; fixed = fixed; immutable = immutable })
raw_reply (replies.Listed count ids) = raw.Listed (record { count = count; ids = ids })
raw_reply (replies.Parent id) = raw.Parent (record { container = id })
raw_reply (replies.Pages pages) = raw.Pages (record { pages = pages })
raw_reply (replies.Bytes d) = raw.Bytes d
raw_reply (replies.Mapping m) = mapped_reply m
raw_reply (replies.Refused r) = raw.Refused r
raw_reply r = raw.Unmapped

-- what a thread's query is answered at a place: in the state of the events before it
abbrev pub reply_at : Start → List Event → ℕ → ℕ → Query → ReadReply
reply_at start events place thread query =
    raw_reply (query_answer (state_from start.state (take place events)) thread query)

-- the read has the rules' reply at its place
abbrev pub IsAnsweredRightly : Start → List Event → PlacedRead → Type 0
IsAnsweredRightly start events r =
    r.read.reply ≡ reply_at start events r.place r.read.thread r.read.query

-- no thread is less than that of the read directly before it, the first one after a read of a thread at a
-- place. Reads have the same place where no event stands between them
abbrev pub threads_rise : ℕ → ℕ → List PlacedRead → Bool
threads_rise place thread [] = true
threads_rise place thread (r ∷ rs) =
    (not (r.place == place) || nat_le thread r.read.thread) && threads_rise r.place r.read.thread rs

-- each read has the rules' reply at its place, and those at one place are told by rising thread
pub record AreRead (start : Start) (events : List Event) (reads : List PlacedRead) : Type 0 where
  pub answers : AllByRecursion (IsAnsweredRightly start events) reads
  pub rising : threads_rise 0 0 reads ≡ true

-- the dump of events that begin there, with the reads among them: its tables are those of the state that
-- the events lead to
abbrev pub whole_dump : Limits → Option Checkpoint → List Event → List PlacedRead → DumpLists
whole_dump limits checkpoint events reads =
    dump_with limits checkpoint events reads
    (placed (scratch (state_from (start_with limits checkpoint).state events)))

-- the checkpoint can be restored; where there is none, the kernel has at most 512 pages
abbrev pub CanBegin : Limits → Option Checkpoint → Type 0
CanBegin limits None = limits.pages ≤ 512
CanBegin limits (Some c) = is_restorable limits c ≡ true

-- the limits are in range, and the bytes are the dump of a list of events that is legal from there, and
-- of reads among them
abbrev pub IsLegalDump : Limits → Option Checkpoint → List ℕ → Type 0
IsLegalDump limits checkpoint bytes =
    IsBootable limits × CanBegin limits checkpoint
    × ((events : List Event) × (reads : List PlacedRead)
    × IsLegalFrom (start_with limits checkpoint) events
    × AreRead (start_with limits checkpoint) events reads
    × IsDump bytes (whole_dump limits checkpoint events reads))
