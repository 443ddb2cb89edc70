-- The calls and reads of a dump, each with its place.
use Rattle.std.specs.Prelude.{ℕ, ◌+◌, List, [], ◌∷◌, ◌++◌}
use Rattle.call_text.specs.declared.asking.Asked.TheVariants.{Read, Write}
use Rattle.dump_text.specs.Reads.{reads_at, reads_past}
use Rattle.dump_text.specs.declared.tables.PlacedRead.{PlacedRead}
use Rattle.kernel_rules.specs.Events.{Event}
use Rattle.kernel_rules.specs.declared.histories.events.Answered.{Answered}
use Rattle.hidden_replies.specs.declared.differences.Placed.{Placed}

-- calls of one event, the first of which has this place
abbrev pub placed_by : ℕ → ℕ → ℕ → List Answered → List Placed
placed_by event place thread [] = []
placed_by event place thread (a ∷ rest) =
    record { event = event; place = place; thread = thread; asked = Write a.call }
    ∷ placed_by event (place + 1) thread rest

-- reads after so many events, the first of which has this place among them
abbrev pub placed_reads : ℕ → ℕ → List PlacedRead → List Placed
placed_reads event place [] = []
placed_reads event place (r ∷ rest) =
    record { event = event; place = place; thread = r.read.thread; asked = Read r.read.query }
    ∷ placed_reads event (place + 1) rest

-- the calls of events after so many others, and the reads among them
abbrev pub placed_from : ℕ → List Event → List PlacedRead → List Placed
placed_from event [] reads = placed_reads event 1 (reads_at event reads)
placed_from event (e ∷ es) reads =
    placed_reads event 1 (reads_at event reads)
    ++ (placed_by (event + 1) 1 e.thread e.calls ++ placed_from (event + 1) es (reads_past event reads))

-- the calls of all events, and the reads among them
abbrev pub placed : List Event → List PlacedRead → List Placed
placed events reads = placed_from 0 events reads
