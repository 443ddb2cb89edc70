-- Dumps whose values fit the words that spell them, whatever the rules say of them.
use Rattle.std.specs.Prelude.{◌<◌, ◌^◌, length}
use Rattle.std.specs.List.{AllByRecursion}
use Rattle.kernel_rules.specs.declared.histories.events.Answered.{Answered}
use Rattle.kernel_rules.specs.declared.replies.Reply.{Reply}
use Rattle.kernel_rules.specs.declared.replies.Reply.TheVariants as replies
use Rattle.text_words.specs.DataWord.{IsData}
use Rattle.text_words.specs.Label.{IsLabel}
use Rattle.dump_text.specs.Word.{spoken_label}
use Rattle.dump_text.specs.Call.{IsCall}
use Rattle.dump_text.specs.Dump.{history_lines}
use Rattle.dump_text.specs.Read.{FitsRead}
use Rattle.dump_text.specs.Allowed.{AreWords}
use Rattle.dump_text.specs.CheckpointLines.{start_lines}
use Rattle.dump_text.specs.Head.{HasHeadWords}
use Rattle.dump_text.specs.Line.{use_kinds, use_words, map_kinds, map_words}
use Rattle.dump_text.specs.StateLine.{pair_kinds, counters_words, next_words, HasPartWords}
use Rattle.dump_text.specs.declared.state_lines.StateLine.{StateLine}
use Rattle.dump_text.specs.declared.state_lines.StateLine.TheVariants as states
use Rattle.dump_text.specs.Lists.{TableLists, DumpLists}
use Rattle.dump_text.specs.declared.events.Single.{Single}
use Rattle.dump_text.specs.declared.lines.Line.{Line}
use Rattle.dump_text.specs.declared.lines.Line.TheVariants as lines

-- the numbers of a reply are of 64 bits, and its bytes are data
abbrev pub FitsReply : Reply → Type 0
FitsReply (replies.Category c) = c.0 < 2 ^ 64
FitsReply (replies.Object id) = id < 2 ^ 64
FitsReply (replies.Entered point closure) = (point < 2 ^ 64) × (closure < 2 ^ 64)
FitsReply (replies.Bytes d) = IsData d
FitsReply _ = Unit {0}

-- a call and its reply fit their words
pub record FitsAnswered (a : Answered) : Type 0 where
  pub call : IsCall a.call
  pub reply : FitsReply a.reply

-- the numbers of an event are of 64 bits, and its call and its reply fit their words
pub record FitsSingle (e : Single) : Type 0 where
  pub thread : e.thread < 2 ^ 64
  pub number : e.number < 2 ^ 64
  pub answered : FitsAnswered e.answered

-- the values of a line of a checkpoint fit their words. Nothing is asked of how many pages a segment
-- has, or of how many bytes metadata or a line of bytes have
abbrev pub FitsState : StateLine → Type 0
FitsState (states.Counters c) = AreWords pair_kinds (counters_words c)
FitsState (states.Object o) = (o.id < 2 ^ 64) × HasHeadWords o.head
FitsState (states.Part p) = HasPartWords p
FitsState (states.Next n) = AreWords pair_kinds (next_words n)

-- the values of a line of a checkpoint, of events, reads or tables fit their words. Nothing is asked of the limits, of how
-- many calls a batch has, of the places of labels, or of what an order says
abbrev pub FitsLine : Line → Type 0
FitsLine (lines.State s) = FitsState s
FitsLine (lines.Event e) = FitsSingle e
FitsLine (lines.Batch b) = (b.thread < 2 ^ 64) × (b.number < 2 ^ 64)
FitsLine (lines.Call a) = FitsAnswered a
FitsLine (lines.Read r) = FitsRead r
FitsLine (lines.Live id) = id < 2 ^ 64
FitsLine (lines.Use u) = AreWords use_kinds (use_words u)
FitsLine (lines.Map s) = AreWords map_kinds (map_words s)
FitsLine (lines.Label s) = IsLabel (spoken_label s.label)
FitsLine _ = Unit {0}

-- numbers are of 32 or 64 bits, a label has at most 24 pairs, and there are fewer than 2^64 orders
pub record FitTables (t : TableLists) : Type 0 where
  pub live : AllByRecursion (λ id. FitsLine (lines.Live id)) t.live
  pub uses : AllByRecursion (λ u. FitsLine (lines.Use u)) t.uses
  pub maps : AllByRecursion (λ s. FitsLine (lines.Map s)) t.maps
  pub labels : AllByRecursion (λ s. FitsLine (lines.Label s)) t.labels
  pub few : length t.orders < 2 ^ 64

-- the checkpoint, the events with the reads among them, and the tables fit their words
pub record FitsWords (d : DumpLists) : Type 0 where
  pub start : AllByRecursion FitsLine (start_lines d.checkpoint)
  pub history : AllByRecursion FitsLine (history_lines d.events d.reads)
  pub tables : FitTables d.tables
