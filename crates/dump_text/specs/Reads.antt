-- Reads among the events of a dump.
use Rattle.std.specs.Prelude.{ℕ, ◌==◌, ◌&&◌, Bool, true, false, nat_le, length, if◌then◌else◌}
use Rattle.std.specs.Prelude.{◌+◌, List, [], ◌∷◌, ◌++◌, map, Option, Some, None}
use Rattle.checkpoints.specs.Checkpoint.{Checkpoint}
use Rattle.kernel_rules.specs.Events.{Event}
use Rattle.dump_text.specs.declared.lines.Line.{Line}
use Rattle.dump_text.specs.declared.lines.Line.TheVariants as lines
use Rattle.dump_text.specs.declared.tables.PlacedRead.{PlacedRead}

-- the line of a read
abbrev pub read_line : PlacedRead → Line
read_line r = lines.Read r.read

-- the first reads of a list, as long as they stand at the place
abbrev pub reads_at : ℕ → List PlacedRead → List PlacedRead
reads_at place [] = []
reads_at place (r ∷ rs) = if r.place == place then r ∷ reads_at place rs else []

-- the reads after these
abbrev pub reads_past : ℕ → List PlacedRead → List PlacedRead
reads_past place [] = []
reads_past place (r ∷ rs) = if r.place == place then reads_past place rs else r ∷ rs

-- what is told of events, so many of which stand before them, and of reads, each at its place
abbrev pub in_turn : {X : Type 0} → (Event → List X) → (PlacedRead → X) → ℕ → List Event → List PlacedRead → List X
in_turn of tell place [] reads = map tell (reads_at place reads)
in_turn of tell place (e ∷ es) reads =
    map tell (reads_at place reads)
    ++ (of e ++ in_turn of tell (place + 1) es (reads_past place reads))

-- the reads stand in the order of their places, from a first place to a last one
abbrev pub are_placed : ℕ → ℕ → List PlacedRead → Bool
are_placed first last [] = true
are_placed first last (r ∷ rs) =
    nat_le first r.place && (nat_le r.place last && are_placed r.place last rs)

-- the reads stand in the order of their places, none past the last event. Format 1 has none
abbrev pub have_places : Option Checkpoint → List Event → List PlacedRead → Bool
have_places None events [] = true
have_places None events (r ∷ rs) = false
have_places (Some c) events reads = are_placed 0 (length events) reads
