-- Which calls, or which read, a line of a dump tells.
use Rattle.std.specs.Prelude.{ℕ, Bool, true, false, ◌+◌, ◌-◌, ◌==◌, nat_lt, List, [], ◌∷◌, length, slice_get, Option, Some, None, if◌then◌else◌}
use Rattle.std.specs.Option.{option_map}
use Rattle.kernel_rules.specs.Events.{Event}
use Rattle.checkpoints.specs.Checkpoint.{Checkpoint}
use Rattle.dump_text.specs.CheckpointLines.{start_lines}
use Rattle.dump_text.specs.Dump.{event_lines}
use Rattle.dump_text.specs.Reads.{reads_at, reads_past}
use Rattle.dump_text.specs.declared.tables.PlacedRead.{PlacedRead}
use Rattle.shown_dumps.specs.declared.why.places.Content.{Content}
use Rattle.shown_dumps.specs.declared.why.places.Content.TheVariants.{Calls, Asked}
use Rattle.shown_dumps.specs.declared.why.places.Place.{Place}

-- so many calls of event e from its call c on, and whether the line is that of a batch, which stands above them
abbrev pub calls_at : ℕ → ℕ → ℕ → Bool → Place
calls_at e c count is_batch = record { event = e; first = c; count = count; is_batch = is_batch }

-- What a line of an event of so many calls tells, of its lines the one after the first i: the call that the event has, or all
-- calls of a batch, or one of them.
abbrev pub place_of : ℕ → ℕ → ℕ → Place
place_of e count i =
    if count == 1 then calls_at e 0 1 false
    else if i == 0 then calls_at e 0 count true
    else calls_at e (i - 1) 1 false

abbrev pub place_in : ℕ → Event → ℕ → Place
place_in e x i = place_of e (length x.calls) i

-- one of these reads, or what the lines after theirs tell
abbrev pub after_reads : List PlacedRead → (ℕ → Option Content) → ℕ → Option Content
after_reads asked later i =
    if nat_lt i (length asked) then option_map Asked (slice_get asked i) else later (i - length asked)

-- what the lines of events and of the reads among them tell, the first of which is event e
abbrev pub place_from : ℕ → List Event → List PlacedRead → ℕ → Option Content
place_from e [] reads i = option_map Asked (slice_get (reads_at e reads) i)
place_from e (x ∷ xs) reads i =
    after_reads (reads_at e reads)
    (λ j. if nat_lt j (length (event_lines x)) then Some (Calls (place_in e x j))
    else place_from (e + 1) xs (reads_past e reads) (j - length (event_lines x))) i

-- so many lines stand before those of the events: the format's, the limits', and those of the checkpoint
abbrev pub lines_before : Option Checkpoint → ℕ
lines_before checkpoint = 2 + length (start_lines checkpoint)

-- what line n tells
abbrev pub place_at : Option Checkpoint → List Event → List PlacedRead → ℕ → Option Content
place_at checkpoint events reads n =
    if nat_lt (lines_before checkpoint) n then place_from 0 events reads (n - (lines_before checkpoint + 1))
    else None
