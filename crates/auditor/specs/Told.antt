-- What a replay tells of a dump: all of it, or what comes before an event whose number no line can spell.
use Rattle.std.specs.Prelude.{◌≡◌, ◌≤◌, ◌<◌, ℕ, ◌+◌, ◌^◌, ◌⊎◌, true, false, List, ◌∷◌, ◌++◌, length, take, Option, Some}
use Rattle.kernel_rules.specs.Events.{Event}
use Rattle.kernel_rules.specs.History.{Start}
use Rattle.dump_text.specs.Dump.{dump_text}
use Rattle.dump_text.specs.Fits.{FitsWords}
use Rattle.dump_text.specs.Lists.{DumpLists}
use Rattle.dump_text.specs.Reads.{are_placed}
use Rattle.dump_text.specs.Whole.{start_with, whole_dump}
use Rattle.dump_text.specs.declared.tables.PlacedRead.{PlacedRead}
use Rattle.auditor.specs.Replay.{true_event, replayed, true_reads, TakesAll}
use Rattle.auditor.specs.Verdict.{begins, first_difference}
use Rattle.auditor.specs.declared.replays.Replay.{Replay}

-- after these events the event's number is the first that no line can spell
abbrev pub HasNoNumber : Start → List Event → Event → Type 0
HasNoNumber start before e = (true_event start before e).number ≡ 2 ^ 64

-- the replay took the calls of the events up to one without a number, which stands between these places
pub record StopsBetween (start : Start) (events : List Event) (from to : ℕ) (r : Replay) : Type 0 where
  pub place : ℕ
  pub late : from ≤ place
  pub early : place < to
  pub takes : TakesAll start (take place events) r
  pub event : Event
  pub rest : List Event
  pub events_are : events ≡ take place events ++ event ∷ rest
  pub number : HasNoNumber start (replayed start (take place events)) event

-- these are the events up to one without a number, and the reads up to it
pub record StopsAfter (start : Start) (events : List Event) (reads : List PlacedRead) (es : List Event) (rs : List PlacedRead)
    : Type 0 where
  pub event : Event
  pub rest : List Event
  pub later : List PlacedRead
  pub events_are : events ≡ es ++ event ∷ rest
  pub reads_are : reads ≡ rs ++ later
  pub placed : are_placed 0 (length es) rs ≡ true
  pub past : are_placed (length es + 1) (length events) later ≡ true
  pub number : HasNoNumber start (replayed start es) event

-- these are all events and reads, or those up to an event without a number
abbrev pub AreTold : Start → List Event → List PlacedRead → List Event → List PlacedRead → Type 0
AreTold start events reads es rs = ((es ≡ events) × (rs ≡ reads)) ⊎ StopsAfter start events reads es rs

-- the replay took the calls of these events, and told the reads among them
pub record TellsAll (start : Start) (events : List Event) (reads : List PlacedRead) (r : Replay) (told : List PlacedRead)
    : Type 0 where
  pub es : List Event
  pub rs : List PlacedRead
  pub are : AreTold start events reads es rs
  pub takes : TakesAll start es r
  pub reads_are : told ≡ true_reads start es rs

-- the true dump with these events and reads in place of the dump's own
abbrev pub true_part : DumpLists → List Event → List PlacedRead → DumpLists
true_part d es rs =
    whole_dump d.limits d.checkpoint (replayed (start_with d.limits d.checkpoint) es)
    (true_reads (start_with d.limits d.checkpoint) es rs)

-- the true dump, or its part up to an event without a number
pub record IsTold (d told : DumpLists) : Type 0 where
  pub es : List Event
  pub rs : List PlacedRead
  pub are : AreTold (start_with d.limits d.checkpoint) d.events d.reads es rs
  pub told_is : told ≡ true_part d es rs

-- the text is that of a told dump, which fits its words
pub record IsToldText (d : DumpLists) (text : List ℕ) : Type 0 where
  pub told : DumpLists
  pub is_told : IsTold d told
  pub text_is : text ≡ dump_text told
  pub fits : FitsWords told

-- the line is the third, where the events can't begin, and else the first in which the bytes differ from a told text
abbrev pub IsFound : List ℕ → DumpLists → Option ℕ → Type 0
IsFound bytes d line =
    ((begins d ≡ false) × (line ≡ Some 3))
    ⊎ ((begins d ≡ true) × ((text : List ℕ) × IsToldText d text × (line ≡ first_difference 1 bytes text)))
