-- The reads of a run, as its dump tells them.
use Rattle.std.specs.Prelude.{◌≡◌, ℕ, ◌-◌, ◌≤◌, ◌==◌, ◌||◌, ◌&&◌, not, nat_le, length, take}
use Rattle.std.specs.Prelude.{Bool, if◌then◌else◌, List, [], ◌∷◌, ◌++◌, map, flat_map, Option, Some, None}
use Rattle.std.specs.List.{AllZip}
use Rattle.std.specs.List.Sorted.{IsPermutation, IsSortedByKey, IsStableByKey}
use Rattle.std.specs.Ordering.{nat_cmp, ordering_then}
use Rattle.std.specs.declared.cmp.Ordering.{Ordering}
use Rattle.std.specs.Str.{bytes_eq}
use Rattle.base.specs.declared.ranges.Limits.{Limits}
use Rattle.kernel_rules.specs.Events.{Event}
use Rattle.kernel_rules.specs.History.{state_of}
use Rattle.kernel_rules.specs.Step.{query_answer}
use Rattle.kernel_rules.specs.declared.replies.Reply.{Reply}
use Rattle.syscall_core.specs.Kernel.{kernel_state}
use Rattle.call_text.specs.Reply.{reply_text}
use Rattle.dump_text.specs.Whole.{raw_reply}
use Rattle.dump_text.specs.declared.read_replies.ReadReply.{ReadReply}
use Rattle.dump_text.specs.declared.tables.PlacedRead.{PlacedRead}
use Rattle.script_rules.specs.Lines.{Seen}
use Rattle.script_runner.specs.Answers.{LineAnswers}
use Rattle.script_runner.specs.declared.answers.Left.{Left}
use Rattle.script_runner.specs.declared.reads.Reads.{Reads}
use Rattle.script_runner.specs.declared.reads.SeenRead.{SeenRead}
use Rattle.script_runner.specs.declared.replays.Replay.{Replay}

-- the read is this query of the thread, with its reply as it is printed where no name is known
pub record IsReadOf (thread : ℕ) (asked : Seen) (read : SeenRead) : Type 0 where
  pub own : read.thread ≡ thread
  pub length : read.length ≡ asked.length
  pub query : read.query ≡ asked.query
  pub text : read.text.items ≡ reply_text [] asked.reply

-- queries that were answered are added, as reads of the thread
abbrev pub AddsReads : ℕ → List Seen → List SeenRead → List SeenRead → Type 0
AddsReads thread asked old new = (added : List SeenRead) × AllZip (IsReadOf thread) asked added × (new ≡ old ++ added)

-- a query that a thread was answered
pub record ThreadRead : Type 0 where
  pub thread : ℕ
  pub asked : Seen

-- those of a worker, where it was given a seat
abbrev pub reads_by : Option ℕ → List Seen → List ThreadRead
reads_by (Some thread) reads = map (λ s. record { thread = thread; asked = s }) reads
reads_by None reads = []

-- what a worker was answered, with its thread
abbrev pub with_thread : LineAnswers → ℕ → Reads
with_thread answers thread = record { thread = thread; answers = answers }

-- the queries of workers, as they are kept, and as the workers leave them
abbrev pub reads_kept : List Reads → List ThreadRead
reads_kept workers = flat_map (λ r. reads_by (Some r.thread) r.answers.reads) workers

abbrev pub reads_left : List Left → List ThreadRead
reads_left left = flat_map (λ l. reads_by l.thread l.answers.reads) left

-- reads stand by rising length, at each length by rising thread
abbrev pub place_of : SeenRead → ℕ × ℕ
place_of r = (r.length, r.thread)

abbrev pub by_place : ℕ × ℕ → ℕ × ℕ → Ordering
by_place x y = ordering_then (nat_cmp x.0 y.0) (nat_cmp x.1 y.1)

-- the reads of these queries in that order, and those at one place in theirs
pub record AreInOrder (asked : List ThreadRead) (reads : List SeenRead) : Type 0 where
  pub all : List SeenRead
  pub are : AllZip (λ a r. IsReadOf a.thread a.asked r) asked all
  pub same : IsPermutation all reads
  pub rising : IsSortedByKey place_of by_place reads
  pub stable : IsStableByKey place_of by_place all reads

-- a reply as it stands in a dump, where it is printed so without names
abbrev pub if_printed : List ℕ → Reply → Option ReadReply
if_printed text reply = if bytes_eq (reply_text [] reply) text then Some (raw_reply reply) else None

-- what the rules answer a read in the state of the events that it had seen, if it was answered so
abbrev pub right_reply : Limits → List Event → SeenRead → Option ReadReply
right_reply limits events r =
    if_printed r.text.items (query_answer (state_of limits (take r.length events)) r.thread r.query)

-- the read with that reply, in a dump whose checkpoint tells the first k events
abbrev pub told_as : ℕ → SeenRead → Option ReadReply → List PlacedRead
told_as k r None = []
told_as k r (Some reply) = record {
  place = r.length - k;
  read = record { thread = r.thread; query = r.query; reply = reply };
} ∷ []

-- a read may come after one of a thread at a place: it had seen more events, or as many and its
-- thread is no less. It had seen no more than there are
abbrev pub may_follow : ℕ → ℕ → ℕ → SeenRead → Bool
may_follow all place thread r =
    nat_le place r.length
    && (nat_le r.length all && (not (r.length == place) || nat_le thread r.thread))

-- what the dump tells of reads that may come after one of a thread at a place: those that the rules
-- answer as the run did
abbrev pub told_after : Limits → ℕ → List Event → ℕ → ℕ → List SeenRead → List PlacedRead
told_after limits k events place thread [] = []
told_after limits k events place thread (r ∷ rs) =
    if may_follow (length events) place thread r
    then told_as k r (right_reply limits events r)
    ++ told_after limits k events r.length r.thread rs
    else told_after limits k events place thread rs

-- and of all reads that had seen the first k events
abbrev pub told_reads : Limits → ℕ → List Event → List SeenRead → List PlacedRead
told_reads limits k events reads = told_after limits k events k 0 reads

-- a replay stands at a place among the events: its kernel is in the state of those before
pub record Stands (limits : Limits) (events : List Event) (r : Replay) : Type 0 where
  pub within : r.place ≤ length events
  pub state : kernel_state r.kernel ≡ state_of limits (take r.place events)

-- what it told, and what is to be told of reads from there on
abbrev pub told_with : Limits → ℕ → List Event → Replay → List SeenRead → List PlacedRead
told_with limits k events r reads =
    r.told.items ++ told_after limits k events r.place r.thread reads
